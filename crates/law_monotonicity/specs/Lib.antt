pub mod Growth
pub mod Additions
pub mod CoreRules
pub mod SmallGrowth
pub mod TwoRules
pub mod BirdShares
