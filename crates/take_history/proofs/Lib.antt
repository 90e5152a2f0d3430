-- What the history of a write's and of a reply's bytes says of them.
pub mod Takes
pub mod Asks
pub mod Demand
pub mod Store
pub mod Stored
pub mod Same
pub mod Image
pub mod Address
pub mod Responds
pub mod Replies
pub mod SameReplies
