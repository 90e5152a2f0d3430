-- The theorems about XL, for the claims.
pub mod Walk
pub mod Links
pub mod Kept
pub mod Counts
pub mod Shown
pub mod After
pub mod Looked
pub mod Seen
pub mod Released
pub mod Statuses
pub mod Faces
