pub mod Values
pub mod LowestTerms
pub mod Fractions
pub mod Pushed
pub mod Readings
