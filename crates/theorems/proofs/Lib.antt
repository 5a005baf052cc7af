pub mod Products
pub mod SortedLemmas
pub mod Soundness
pub mod OneWay
pub mod Moves
pub mod Transfers
pub mod Bondareva
pub mod OneVerdict
pub mod ScaledLists
pub mod Scaled
pub mod ScaledLevels
mod Alike
mod OneReason
pub mod Forms
pub mod Certified
pub mod Examples
