-- What the answers of a write cite.
mod Writes
