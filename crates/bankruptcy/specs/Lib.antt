-- To be read in this order. The last one is for the private functions.
pub mod Bankruptcy
pub mod Arms
