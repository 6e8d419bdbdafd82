pub mod Lists
mod Actions
mod Since
pub mod Elements
pub mod Parts
pub mod Loops
pub mod Whole
