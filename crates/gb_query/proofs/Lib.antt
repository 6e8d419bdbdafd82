mod Segments
mod Members
mod Owners
pub mod Depths
mod Listed
mod Left
