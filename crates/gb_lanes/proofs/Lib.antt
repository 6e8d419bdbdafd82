pub mod LaneLemmas
pub mod PaddedLemmas
pub mod WordLemmas
