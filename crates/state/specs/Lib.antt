pub mod State
pub mod World
pub mod After
pub mod Film
