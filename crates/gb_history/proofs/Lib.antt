pub mod Places
pub mod Rising
pub mod Ordinary
pub mod Lists
pub mod Tokens
pub mod Records
pub mod Deciding
pub mod OneText
