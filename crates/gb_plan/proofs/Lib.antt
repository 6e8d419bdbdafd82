pub mod Tests
pub mod Chains
pub mod Same
pub mod Refused
pub mod Conflicts
pub mod Cycles
pub mod Once
pub mod Places
pub mod Registered
pub mod RowTasks
mod PlanRows
mod OrderRows
mod CycleRows
pub mod Plans
