use Rattle.law_reduced_games.proofs.TalmudIsConsistent.{talmud_is_consistent}
use Rattle.law_reduced_games.proofs.estates_left.talmud_is_consistent.Goals as goal

pub returns : goal.returns
returns c = talmud_is_consistent
