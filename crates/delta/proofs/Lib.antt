pub mod DeltaLaws
pub mod WalkLaws
pub mod FillLaws
pub mod WordLaws
pub mod ApplyLaws
pub mod NoneLaws
pub mod CountLaws
