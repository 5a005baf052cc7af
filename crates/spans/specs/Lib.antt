pub mod Span
pub mod Sums
pub mod Outside
pub mod Places
