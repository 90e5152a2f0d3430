-- What the proofs of several functions cite, and the crates above.
pub mod Ranges
pub mod Kept
pub mod Phases
pub mod Picks
pub mod Fits
pub mod Leaves
pub mod Sound
pub mod Moves
pub mod Reach
pub mod Built
pub mod Exact
pub mod Stuck
pub mod Calls
pub mod Refusals
pub mod Rows
pub mod Facts
pub mod Examples
