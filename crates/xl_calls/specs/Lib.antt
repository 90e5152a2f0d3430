-- What is said of a link over any calls.
pub mod Path
pub mod Links
pub mod Met
pub mod Marks
pub mod Memory
pub mod After
pub mod Statuses
pub mod Faces
