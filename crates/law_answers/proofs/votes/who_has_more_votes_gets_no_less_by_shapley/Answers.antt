use Rattle.law_answers.proofs.WhoHasMoreVotesGetsNoLess.{more_votes_get_no_less_by_shapley}
use Rattle.law_answers.proofs.votes.who_has_more_votes_gets_no_less_by_shapley.Goals as goal

pub returns : goal.returns
returns c = more_votes_get_no_less_by_shapley
