pub mod Payments
pub mod Steps
