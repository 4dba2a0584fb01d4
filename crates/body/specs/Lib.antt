pub mod ByteRun
pub mod Body
pub mod Walk
