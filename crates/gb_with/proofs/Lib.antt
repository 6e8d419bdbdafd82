pub mod RecheckAnswers
pub mod ByPath
pub mod Differing
pub mod Meant
pub mod Renaming
pub mod Shared
