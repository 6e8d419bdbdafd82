pub mod Places
pub mod Ascending
pub mod Faults
pub mod Record
pub mod Text
pub mod Tokens
pub mod Decision
