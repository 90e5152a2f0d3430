-- Request c), the write: its rules, its steps, and calls behind each other.
pub mod Rules
pub mod Steps
pub mod Calls
pub mod Grounds
pub mod Examples
