pub mod Imputations
pub mod Classes
