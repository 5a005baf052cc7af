-- The last two are for the private functions.
pub mod Certificate
pub mod Extends
pub mod Marking
pub mod Pairs
pub mod Reasons
pub mod Solved
pub mod Form
pub mod LevelTests
