pub mod Disk
pub mod Noted
pub mod Shown
pub mod Called
pub mod Supposed
