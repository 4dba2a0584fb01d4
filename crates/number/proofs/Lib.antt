pub mod GroupLaws
pub mod NumberLaws
