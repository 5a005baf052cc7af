pub mod Valued
pub mod Eights
pub mod Entered
pub mod Pushed
pub mod HeadSizes
pub mod ProperColumns
pub mod Slots
pub mod Outside
pub mod Staged
pub mod Balance
pub mod SamePrograms
pub mod ReadShares
pub mod Counts
pub mod EarlierColumns
pub mod InnerColumns
pub mod LazyColumns
pub mod Blocks
pub mod FirstFound
pub mod Products
pub mod Searches
pub mod InFront
mod Picked
mod SmallBounds
