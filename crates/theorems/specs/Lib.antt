pub mod Theorems
pub mod Verdicts
