pub mod Open
pub mod Parts
