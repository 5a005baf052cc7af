pub mod Vetoes
pub mod Estates
pub mod ConvexGames
pub mod ConstantSums
pub mod Markets
