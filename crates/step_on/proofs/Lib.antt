pub mod ReadyLaws
pub mod CaseLaws
pub mod StepLaws
pub mod AheadLaws
