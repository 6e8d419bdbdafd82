pub mod Task
pub mod Ready
pub mod Graph
pub mod Refusal
pub mod Laws
pub mod Plans
