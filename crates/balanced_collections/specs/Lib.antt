-- To be read in this order.
pub mod Collections
