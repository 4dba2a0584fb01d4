pub mod Film
pub mod Bench
