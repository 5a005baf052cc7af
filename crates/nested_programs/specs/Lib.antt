-- To be read in this order. From Stage on they are for the private functions.
pub mod Answer
pub mod Stage
pub mod Reading
pub mod Chain
pub mod Numbers
pub mod Stages
