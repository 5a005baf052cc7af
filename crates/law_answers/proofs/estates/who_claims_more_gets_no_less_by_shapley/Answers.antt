use Rattle.law_answers.proofs.WhoClaimsMoreGetsNoLess.{claims_more_gets_no_less_by_shapley}
use Rattle.law_answers.proofs.estates.who_claims_more_gets_no_less_by_shapley.Goals as goal

pub returns : goal.returns
returns c = claims_more_gets_no_less_by_shapley
