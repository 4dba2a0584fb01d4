pub mod ByteRunLaws
pub mod BodyLaws
pub mod WalkLaws
pub mod PlainLaws
