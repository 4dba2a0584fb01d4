pub mod ListLaws
pub mod FileLaws
