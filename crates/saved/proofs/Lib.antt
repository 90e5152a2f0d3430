-- What the proofs of several functions cite, and the crates above.
pub mod Words
pub mod Lines
pub mod Trips
pub mod Exact
pub mod Whole
mod Puts
mod Walk
mod Shapes
pub mod Laid
pub mod Calls
pub mod Examples
