-- Document 01, 'Read transfer', paragraph 'DATA frame', and the frames of a write beside it.
pub mod Header
pub mod Data
pub mod Xfer
pub mod Out
pub mod Response
pub mod Typed
