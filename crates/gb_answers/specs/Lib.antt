pub mod Answering
pub mod Scratch
pub mod Stored
