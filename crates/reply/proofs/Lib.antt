-- What the proofs of several functions cite, and the crates above.
mod Checks
pub mod Facts
mod Fails
mod Goes
pub mod Exact
pub mod Refusals
pub mod Invariant
pub mod Demand
pub mod Words
pub mod Three
pub mod Stuck
pub mod Examples
