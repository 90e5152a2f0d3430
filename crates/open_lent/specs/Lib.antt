-- OPEN as C lends it.
pub mod Lent
pub mod Typed
