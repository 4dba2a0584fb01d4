pub mod NumberLaws
pub mod Retired
