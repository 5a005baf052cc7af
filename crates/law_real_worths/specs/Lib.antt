pub mod Games
pub mod RealWorths
pub mod KohlbergTheorem
pub mod Examples
pub mod WholeWorths
pub mod Existence
