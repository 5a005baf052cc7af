-- To be read in this order.
mod Values
mod Solvable
mod Points
mod Collected
