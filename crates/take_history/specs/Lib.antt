-- Calls of a write and of a reply with their bytes, their history, and the write's store.
pub mod Calls
pub mod History
pub mod Store
pub mod Replies
