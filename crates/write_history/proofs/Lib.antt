-- What the history of a write says of it.
pub mod Covers
pub mod Ranges
pub mod Invariant
pub mod Alike
pub mod Effects
pub mod Says
pub mod Made
pub mod Asked
pub mod Came
pub mod Steps
pub mod Demand
pub mod Apart
