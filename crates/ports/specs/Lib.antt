pub mod Causes
pub mod Writes
pub mod Taken
pub mod Failing
