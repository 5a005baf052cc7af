-- To be read in this order. The last four are for the private functions.
pub mod Stage
pub mod Balanced
pub mod Same
pub mod Kept
pub mod Lawful
pub mod Shares
pub mod BlockBounds
pub mod Values
pub mod Making
pub mod Fronts
pub mod Scanned
