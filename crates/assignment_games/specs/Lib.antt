pub mod Values
pub mod Assignments
pub mod Theorems
