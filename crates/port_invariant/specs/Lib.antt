-- Which states keep the rules, and which calls give no setup number out of range.
pub mod Ranged
pub mod Sound
