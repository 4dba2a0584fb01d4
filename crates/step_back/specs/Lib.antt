pub mod Back
pub mod Parts
