-- Request a): a transfer as one line of text.
pub mod Saved
pub mod Walk
pub mod Grounds
pub mod Typed
