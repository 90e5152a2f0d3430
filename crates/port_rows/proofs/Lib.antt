-- What the definitions of the calls say, in document 01's sentences.
mod Facts
mod Left
pub mod Timers
