mod Answered
mod Descends
mod Segments
mod Walks
