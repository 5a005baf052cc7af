pub mod Bits
pub mod Count
pub mod Masks
pub mod GrayOrder
