-- The laws of the transfer as C lends it.
pub mod Trips
pub mod Typed
pub mod Members
mod Length
pub mod Runs
pub mod Demand
pub mod Reach
pub mod Swaps
