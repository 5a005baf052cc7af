pub mod Exact
pub mod Newlines
