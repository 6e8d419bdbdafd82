pub mod Faults
pub mod Values
pub mod Command
pub mod Words
pub mod Laws
