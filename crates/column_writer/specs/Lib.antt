pub mod Column
pub mod Piece
pub mod Place
