-- A read transfer as C lends it, and what C sees of its calls.
pub mod Numbers
pub mod Lent
pub mod Face
pub mod History
pub mod Demand
pub mod Saves
pub mod Typed
