-- The laws of refusals, for the crates above.
pub mod Causes
pub mod Frames
pub mod Numbers
pub mod Results
