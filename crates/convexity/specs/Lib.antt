-- To be read in this order. The last one is for the private functions.
pub mod Shares
pub mod Answers
pub mod Search
