-- The calls of a write and of a reply that read and write bytes.
pub mod Ask
pub mod Take
pub mod Respond
pub mod Grounds
