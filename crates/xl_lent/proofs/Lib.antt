-- The laws of a lent link, and of what C sees of its calls.
pub mod Says
pub mod Trips
pub mod Laws
pub mod Causes
