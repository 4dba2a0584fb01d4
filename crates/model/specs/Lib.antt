pub mod Model
pub mod Trace
pub mod Demands
