-- The expander link as C lends it, and what C sees of its calls.
pub mod Lent
pub mod Formed
pub mod Face
pub mod Typed
