pub mod Farkas
pub mod Optima
pub mod BondarevaShapley
pub mod Existence
pub mod RealCores
pub mod Kohlberg
pub mod RealNucleoli
