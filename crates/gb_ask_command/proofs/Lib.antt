mod FaultyLemmas
mod Reported
pub mod Numbers
pub mod Writing
pub mod Treating
pub mod Quiet
pub mod Again
pub mod Replying
pub mod WhyDepths
pub mod CheckDepths
