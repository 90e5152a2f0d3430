-- Document 01, 'Port': its parts.
pub mod PhyStage
pub mod RequestStage
pub mod Step
pub mod Parts
pub mod Choice
pub mod Qualifies
pub mod Reasons
pub mod Timer
