pub mod Best
mod None
pub mod SetKinds
pub mod Laws
pub mod Layers
pub mod Joining
pub mod Blocking
pub mod Counting
pub mod WholeUnits
pub mod Pivots
pub mod Tables
mod Quotas
