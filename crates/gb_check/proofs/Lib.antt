pub mod Faulted
pub mod OfClauses
pub mod Refused
pub mod Rows
pub mod Same
pub mod Silence
pub mod Words
