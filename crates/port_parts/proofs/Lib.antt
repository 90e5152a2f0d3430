-- What the proofs of several functions cite, and the crates above.
mod Passes
pub mod Ways
pub mod Earliest
pub mod Choices
pub mod Timers
mod Tables
mod Edges
