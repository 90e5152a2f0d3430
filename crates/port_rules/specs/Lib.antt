-- Document 01, 'Port': the rules of a lent state.
pub mod Rules
pub mod Kept
