-- The laws of XL's parts, for the crates above.
pub mod Effects
