use Rattle.big_assignment.proofs.Games.{market_laws}
use Rattle.big_assignment.proofs.market_game.MarketGameWorth.players.Goals as goal

pub returns-clause-laws : goal.returns-clause-laws
returns-clause-laws c = market_laws c.args.self.now c.buyers.ensures.laws
