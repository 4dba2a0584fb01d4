pub mod RunList
pub mod Record
pub mod Room
pub mod Walk
