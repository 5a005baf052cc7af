-- To be read in this order.
pub mod Numbers
pub mod Shares
pub mod Reals
pub mod Claims
pub mod Theorems
