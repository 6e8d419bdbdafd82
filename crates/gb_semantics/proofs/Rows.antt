pub mod Graphs
pub mod Finalized
pub mod Copies
pub mod Ordered
pub mod Wrong
pub mod Hindered
pub mod Attack
