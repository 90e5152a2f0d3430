-- Document 01, 'OPEN address frame'.
pub mod Open
pub mod Wait
pub mod Priority
