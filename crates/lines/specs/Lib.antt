-- Text by lines: numbers, parts between separators, and bytes put one behind the other.
pub mod Numbers
pub mod Parts
pub mod Puts
