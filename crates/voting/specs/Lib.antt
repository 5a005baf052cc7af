-- To be read in this order. From Candidates on they are for the private functions.
pub mod Voting
pub mod Candidates
pub mod SetKinds
pub mod Counts
