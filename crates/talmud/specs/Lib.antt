-- To be read in this order. The last one is for the private functions.
pub mod Rule
pub mod Levels
pub mod Division
