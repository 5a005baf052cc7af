pub mod Joining
pub mod AlongOrders
pub mod MarginalCore
pub mod ShapleyCore
mod Partway
mod Search
mod PlayersInOrder
