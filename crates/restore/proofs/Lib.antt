pub mod ReadLaws
pub mod TakeLaws
pub mod RestoreLaws
