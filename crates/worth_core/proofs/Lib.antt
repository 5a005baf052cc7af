pub mod Casts
pub mod Scan
pub mod SplitScan
pub mod TopScan
pub mod DividedNumbers
pub mod SeenSets
pub mod SplitSteps
pub mod SmallSums
pub mod LeastMultiples
pub mod SharedDivisors
pub mod FineShares
mod MemberSums
pub mod Amounts
