pub mod Step
pub mod Parts
