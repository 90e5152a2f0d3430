-- The calls over the lent list: what they share, and what the scans find.
mod Still
mod Steps
pub mod Scanned
pub mod Promised
pub mod Found
pub mod Decides
pub mod Refusals
pub mod Begins
pub mod Chooses
