-- Document 01, 'Port': its ten calls on one record and numbers.
pub mod Answers
pub mod Finds
pub mod Changed
pub mod Calls
pub mod Records
