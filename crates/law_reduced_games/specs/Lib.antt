pub mod ReducedGames
pub mod EstatesLeft
pub mod AirportsLeft
pub mod SobolevsTheorem
