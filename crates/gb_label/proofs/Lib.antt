pub mod Reported
pub mod Loops
pub mod Readings
pub mod ReadingAnswering
pub mod Cases
mod Current
pub mod Growth
mod Names
pub mod Sources
pub mod Recorded
pub mod Answering
