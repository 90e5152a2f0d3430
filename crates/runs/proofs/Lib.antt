-- What `readrun` prints is document 01's output for its input, whatever the blocks.
pub mod Commands
pub mod Inverse
pub mod Rows
pub mod Carry
pub mod Turns
pub mod Output
pub mod Listing
pub mod Facts
pub mod Shown
mod Words
pub mod Ledger
