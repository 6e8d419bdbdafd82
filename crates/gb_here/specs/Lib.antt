pub mod Refused
pub mod OnDisk
