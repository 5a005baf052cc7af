pub mod OrdersExist
pub mod SchemesExist
pub mod PaymentsExist
pub mod PaymentLevels
pub mod PaymentsAreTheNucleolus
pub mod EveryNucleolusIsPaid
pub mod NewcomersPay
mod NewcomersOneByOne
pub mod AirportsAreConvex
pub mod ThreeAirlinesByStep
pub mod UnitsByPlace
pub mod ShapleyIsByStep
pub mod ShapleyIsInCore
