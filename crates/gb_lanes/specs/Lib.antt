pub mod Lanes
pub mod Padded
