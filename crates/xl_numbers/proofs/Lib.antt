-- The laws of the numbers.
pub mod KindTrips
pub mod StateTrips
pub mod CodeTrips
pub mod Typed
