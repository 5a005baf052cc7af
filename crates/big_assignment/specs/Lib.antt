-- To be read in this order. The last two are for the private functions.
pub mod Markets
pub mod Supports
pub mod Theorems
pub mod Mates
pub mod Solutions
pub mod Deals
pub mod Searches
