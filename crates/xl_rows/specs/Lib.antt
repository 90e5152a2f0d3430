-- Document 01, 'XL': its table, and each sentence a second time.
pub mod Rows
pub mod Table
pub mod Sentences
pub mod Chains
