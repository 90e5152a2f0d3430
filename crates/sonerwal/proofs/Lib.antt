-- What the proofs of the calls cite, and the crate above.
pub mod Laws
pub mod Laid
