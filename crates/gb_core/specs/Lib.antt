pub mod Faults
pub mod Name
pub mod Place
pub mod Text
pub mod Path
pub mod Laws
pub mod Lists
pub mod Tasks
