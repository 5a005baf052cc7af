mod Lists
mod Numbered
pub mod Sizes
pub mod Alone
pub mod Plans
