-- The laws of numbers in bytes, for this crate's proofs and for those above it.
pub mod Laws
pub mod Fields
