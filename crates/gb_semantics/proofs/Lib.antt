pub mod Common
pub mod Existing
pub mod RowKinds
pub mod Rows
pub mod Lemmas
