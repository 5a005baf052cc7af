pub mod Allocations
pub mod Greatest
pub mod SplitKinds
pub mod Multiples
pub mod LeastDenominators
pub mod Measured
