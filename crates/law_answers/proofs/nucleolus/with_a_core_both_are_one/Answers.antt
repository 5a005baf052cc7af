use Rattle.law_answers.proofs.WithACoreBothAreOne.{both_are_one}
use Rattle.law_answers.proofs.nucleolus.with_a_core_both_are_one.Goals as goal

pub returns : goal.returns
returns c = both_are_one
