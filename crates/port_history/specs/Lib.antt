-- Document 01, 'Port': how requests come and leave, by the history and by the records.
pub mod Standing
pub mod Turns
pub mod Runs
pub mod Ends
pub mod Marks
pub mod Times
