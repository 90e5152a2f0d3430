-- No call of the port leaves a state that breaks the rules.
pub mod Ways
mod Links
pub mod Holds
pub mod Spreads
pub mod Changes
pub mod Enters
mod Parted
mod Opens
mod Lates
mod Cancels
mod Chooses
pub mod Submits
pub mod Leaves
pub mod Timers
pub mod Blocked
pub mod Keeps
pub mod Runs
pub mod Three
