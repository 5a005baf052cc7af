-- To be read in this order. From Fixed on they are for the private functions.
pub mod Meaning
pub mod Fixed
pub mod Paid
