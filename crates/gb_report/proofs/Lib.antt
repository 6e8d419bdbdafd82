pub mod Row
mod Rows
pub mod Numbers
