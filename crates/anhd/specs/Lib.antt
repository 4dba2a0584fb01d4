pub mod Anhd
