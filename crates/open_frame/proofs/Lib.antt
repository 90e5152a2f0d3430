-- What the proofs of several functions cite, and the crates above.
mod Bytes
pub mod Fields
pub mod Trip
pub mod Wait
pub mod Priority
