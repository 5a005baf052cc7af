pub mod Divisors
pub mod Fraction
pub mod FractionTexts
pub mod Digits
