pub mod Laws
pub mod Excesses
pub mod LeastGreatest
pub mod Totals
pub mod Splits
mod Estates
