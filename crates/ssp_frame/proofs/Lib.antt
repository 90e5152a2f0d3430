-- What the proofs of several functions cite, and the crates above.
pub mod Fields
pub mod XferFields
pub mod OutFields
pub mod ResponseFields
pub mod Heads
mod Parts
mod Payload
mod Words
pub mod Trip
pub mod XferTrip
pub mod OutTrip
pub mod ResponseTrip
pub mod Laid
