pub mod Each
pub mod Subsets
pub mod Layers
pub mod Theorems
