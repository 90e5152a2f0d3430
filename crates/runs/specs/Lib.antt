-- Document 01, 'Read transfer': what `readrun` reads and prints.
pub mod Letters
pub mod Commands
pub mod Rows
pub mod Feed
pub mod Output
pub mod Listing
pub mod Typed
pub mod Turns
pub mod Ledger
