-- The laws of the port as C lends it.
pub mod Words
pub mod Trips
pub mod Runs
