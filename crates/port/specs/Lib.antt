-- Document 01, 'Port': its ten calls over the lent list.
pub mod Calls
pub mod Scans
pub mod Walk
pub mod History
pub mod Grounds
pub mod Chooses
