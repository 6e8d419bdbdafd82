pub mod Ends
pub mod Opened
pub mod Safety
pub mod Signs
