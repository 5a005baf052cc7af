use Rattle.assignment_games.proofs.Games.{assignment_is_game}
use Rattle.assignment_games.proofs.laws.worths_are_optimal.Goals as goal

pub returns : goal.returns
returns c = assignment_is_game
