pub mod Scheme
pub mod Levels
