-- The next-frame call, and the history that is read from the bytes it writes.
pub mod Send
pub mod Calls
pub mod History
pub mod Words
