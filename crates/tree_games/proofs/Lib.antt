pub mod Attachments
pub mod Exchange
pub mod Core
pub mod Nearest
pub mod PrimLoop
pub mod BirdLoop
pub mod Squares
