use Rattle.law_reduced_games.proofs.Pairs.{each_two_are_standard}
use Rattle.law_reduced_games.proofs.reduced_games.each_two_are_standard.Goals as goal

pub returns : goal.returns
returns c = each_two_are_standard
