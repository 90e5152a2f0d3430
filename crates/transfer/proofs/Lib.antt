-- What the proofs of several functions cite, and the crates above.
pub mod Facts
pub mod Calls
pub mod Invariant
mod Effects
pub mod Balance
pub mod Demand
pub mod Request
pub mod Words
pub mod Finished
pub mod Shape
pub mod Sound
mod Moves
pub mod Exact
pub mod Lent
pub mod Stuck
pub mod Endless
pub mod Refusals
pub mod Three
pub mod Refused
pub mod Examples
