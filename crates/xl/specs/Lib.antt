-- Document 01, 'XL': the rules of a state, a step, and the link status.
pub mod Rules
pub mod Steps
pub mod Status
