-- The history of a write, and what request c) asks of it.
pub mod History
pub mod Words
pub mod Log
pub mod Demand
pub mod Apart
