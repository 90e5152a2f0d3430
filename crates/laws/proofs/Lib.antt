-- The laws that the crates above cite.
pub mod Bits
pub mod Bools
pub mod Lists
pub mod Order
pub mod Rest
pub mod Sets
pub mod Tests
pub mod Folds
pub mod Finds
pub mod Maps
pub mod Places
pub mod Names
pub mod Tags
pub mod Counts
