-- Definitions that name no SAS word.
pub mod Order
pub mod Sets
pub mod Folds
pub mod Tests
pub mod Names
pub mod Tags
