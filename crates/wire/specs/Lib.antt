-- What a number in bytes is, and a row of such numbers.
pub mod Be
pub mod Fields
