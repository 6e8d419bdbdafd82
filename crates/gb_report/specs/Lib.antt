pub mod Fault
pub mod Outcome
pub mod Report
pub mod Laws
