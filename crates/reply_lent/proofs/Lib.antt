-- The laws of the reply as C lends it.
pub mod Told
pub mod Tested
pub mod Trips
pub mod Typed
pub mod Members
mod Seen
pub mod Runs
pub mod Demand
pub mod Reach
pub mod Refused
