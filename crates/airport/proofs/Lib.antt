pub mod GreatestCosts
pub mod Within
pub mod Blocking
pub mod Excesses
pub mod Sizes
pub mod Splitting
