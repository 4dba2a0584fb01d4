pub mod Ids
pub mod Chunk
