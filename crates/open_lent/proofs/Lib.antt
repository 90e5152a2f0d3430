-- The laws of OPEN as C lends it.
pub mod Trips
