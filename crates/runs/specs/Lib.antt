pub mod Runs
pub mod Front
pub mod Stretch
pub mod Word
