-- A write as C lends it, and what C sees of its calls.
pub mod Numbers
pub mod Lent
pub mod Face
pub mod Grounds
pub mod History
pub mod Demand
pub mod Store
pub mod Apart
pub mod Typed
