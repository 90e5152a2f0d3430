-- Request c), the reply: its rules, its steps, and calls behind each other.
pub mod Rules
pub mod Steps
pub mod Calls
pub mod History
pub mod Words
pub mod Log
pub mod Demand
pub mod Grounds
pub mod Examples
