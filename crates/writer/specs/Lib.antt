pub mod Write
pub mod Planes
