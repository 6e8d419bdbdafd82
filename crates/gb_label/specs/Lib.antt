pub mod Reading
pub mod ReadingAnswered
pub mod Deciding
pub mod Looking
pub mod Preparing
pub mod Answered
