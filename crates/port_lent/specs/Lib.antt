-- The port as C lends it.
pub mod Numbers
pub mod Lent
pub mod Given
pub mod Face
pub mod Runs
pub mod Typed
