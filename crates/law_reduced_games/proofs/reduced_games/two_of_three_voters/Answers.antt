use Rattle.law_reduced_games.proofs.TwoOfThreeVoters.{two_of_three_voters}
use Rattle.law_reduced_games.proofs.reduced_games.two_of_three_voters.Goals as goal

pub returns : goal.returns
returns c = two_of_three_voters
