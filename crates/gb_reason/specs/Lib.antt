pub mod Same
pub mod Reasons
pub mod Real
pub mod Text
