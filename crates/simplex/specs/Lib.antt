-- To be read in this order. From Matrix on they are for the private functions.
pub mod Program
pub mod Entering
pub mod Laws
pub mod Answer
pub mod Matrix
pub mod Ratio
pub mod Replacing
pub mod Tableau
pub mod Measure
pub mod Improving
pub mod Artificial
pub mod Reduced
