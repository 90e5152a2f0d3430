-- The numbers of what a link hears, does and remembers.
pub mod Details
pub mod States
pub mod Codes
pub mod Typed
