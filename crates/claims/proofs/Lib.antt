-- The owner's demands, each in files of its own, and what these cite.
pub mod Balance
mod Calls
pub mod Examples
pub mod Exact
pub mod Frames
pub mod Leaving
pub mod Links
pub mod LinkFace
pub mod LinkNumbers
pub mod LinkRefusals
mod Named
mod Grounds
pub mod PortFace
pub mod PortLedger
pub mod Ports
pub mod Printed
pub mod Priority
pub mod Refusals
pub mod Replies
mod ReplyCalls
pub mod ReplyFace
pub mod ReplyNumbers
pub mod ReplyRefusals
pub mod ReplyRuns
pub mod ReplySteps
pub mod Rows
mod SaveCalls
pub mod SaveFace
pub mod Saves
pub mod StepRefusals
pub mod Steps
mod Swapped
pub mod Text
pub mod Times
pub mod Total
mod TransferCalls
pub mod TransferFace
pub mod TransferNumbers
pub mod TransferRuns
pub mod Unique
pub mod Waits
mod Walked
pub mod Words
mod WriteCalls
mod WriteFaceCalls
pub mod WriteFace
pub mod WriteNumbers
pub mod WriteRefusals
pub mod WriteRuns
pub mod WriteSteps
pub mod Writes
