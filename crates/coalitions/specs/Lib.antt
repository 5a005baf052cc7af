pub mod Masks
pub mod GrayOrder
