pub mod Reading
pub mod Column
pub mod Words
pub mod Delta
pub mod Walk
pub mod None
pub mod Count
