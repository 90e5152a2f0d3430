-- The laws of the table.
pub mod Rows
pub mod Sentences
pub mod Chains
