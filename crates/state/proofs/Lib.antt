pub mod StateLaws
pub mod WorldLaws
