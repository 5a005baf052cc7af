pub mod Shape
pub mod Levels
pub mod Certificates
pub use Rattle.serde_json.specs.Data
pub use Rattle.serde_json.specs.Find
pub use Rattle.serde_json.specs.View
