pub mod Answering
pub mod Asked
pub mod Ordered
pub mod Reported
