pub mod Numbered
pub mod Escaped
