pub mod Fronts
pub mod Sorting
pub mod ListSums
pub mod Tested
