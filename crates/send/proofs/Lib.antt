-- What the proofs of several functions cite, and the crates above.
pub mod Laws
pub mod Bytes
pub mod Demand
pub mod Image
pub mod Pointer
pub mod Address
pub mod Plain
pub mod Words
pub mod Refused
