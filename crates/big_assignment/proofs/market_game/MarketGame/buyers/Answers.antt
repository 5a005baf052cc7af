use Rattle.assignment_games.proofs.Games.{assignment_is_game}
use Rattle.big_assignment.proofs.market_game.MarketGame.buyers.Goals as goal

pub returns-clause-optimal : goal.returns-clause-optimal
returns-clause-optimal c = assignment_is_game c.args.self.now
