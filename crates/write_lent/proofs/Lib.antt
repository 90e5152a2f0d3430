-- The laws of the write as C lends it.
pub mod Trips
pub mod Typed
pub mod Members
mod Seen
mod Three
pub mod Runs
pub mod Demand
mod Plain
pub mod Reach
pub mod Refused
pub mod Store
pub mod Bytes
pub mod Apart
