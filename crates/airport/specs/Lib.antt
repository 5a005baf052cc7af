pub mod Costs
pub mod Airport
