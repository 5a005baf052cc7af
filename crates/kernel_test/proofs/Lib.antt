pub mod Greatest
pub mod Pairs
pub mod Rows
pub mod Floors
