pub mod Ascents
pub mod FormTests
pub mod WrittenLevels
