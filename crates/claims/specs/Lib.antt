-- What the claims say in words of their own.
pub mod Causes
pub mod Links
pub mod LinkFace
pub mod PortLedger
pub mod Swaps
