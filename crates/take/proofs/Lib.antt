-- What the proofs of several functions cite, and the crates above.
pub mod Sends
pub mod Asks
pub mod Takes
pub mod Responds
pub mod Told
pub mod Refusals
pub mod ResponseRefusals
