pub mod Matchings
pub mod Optimal
pub mod Choices
pub mod Table
pub mod Games
pub mod Evenness
