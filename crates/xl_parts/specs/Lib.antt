-- Document 01, 'XL': the parts that its table is made of.
pub mod Parts
pub mod Kinds
pub mod Path
