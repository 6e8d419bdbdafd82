pub mod Explained
pub mod Prediction
pub mod Least
pub mod Marks
pub mod Predicted
