pub mod Part
mod Present
mod Grown
mod Decided
pub mod CaseOutside
mod Knowing
mod CaseExecutions
pub mod Own
pub mod Outside
pub mod Beside
pub mod Memories
mod DueExecutions
pub mod Parts
mod Ended
mod Added
mod Unwritten
pub mod Cleared
pub mod Recorded
pub mod Taken
mod Steps
pub mod Given
mod Reported
pub mod Since
mod Whole
mod ByChanges
mod Later
pub mod Emptied
mod Idle
mod Answering
mod Cut
mod Settling
mod Stages
mod Places
pub mod Made
pub mod Truth
pub mod Answered
pub mod ByOutcome
mod CacheAfter
mod CallRows
