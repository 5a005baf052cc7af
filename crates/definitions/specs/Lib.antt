-- To be read in this order.
pub mod Sums
pub mod Order
pub mod Coalitions
pub mod Measures
pub mod Games
pub mod Players
pub mod Balanced
pub mod Classes
pub mod Shapley
pub mod Convexity
pub mod Sides
pub mod Certificates
pub mod Scales
pub mod Failures
pub mod Programs
pub mod Prekernel
