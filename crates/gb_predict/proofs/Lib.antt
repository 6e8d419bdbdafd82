mod Finding
mod Keeping
mod Digested
mod Least
mod Lost
mod Removing
mod Marking
pub mod Predicting
