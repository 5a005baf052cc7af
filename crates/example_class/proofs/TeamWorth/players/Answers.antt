use Rattle.example_class.proofs.Squares.{game_laws}
use Rattle.example_class.proofs.TeamWorth.players.Goals as goal

pub returns-clause-laws : goal.returns-clause-laws
returns-clause-laws c = rw (← c.self.view_is) (game_laws c.self.inside.players c.self.invariant)
