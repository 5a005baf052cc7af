pub mod Divisors
pub mod Ratios
pub mod Orders
pub mod LowestTerms
pub mod Operations
pub mod DecimalTexts
pub mod Slashes
pub mod WrittenFractions
