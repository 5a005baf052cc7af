use Rattle.assignment_games.proofs.Games.{assignment_laws}
use Rattle.assignment_games.proofs.assignment_game.AssignmentGameWorth.players.Goals as goal

pub returns-clause-laws : goal.returns-clause-laws
returns-clause-laws c = assignment_laws c.args.self.now c.buyers.ensures.laws
