pub mod Orders
pub mod EachOnce
mod Credits
pub mod Sizes
mod Sums
pub mod Airport
pub mod Steps
