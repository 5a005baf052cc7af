use Rattle.law_answers.proofs.BalancedContributions.{contributions_are_balanced}
use Rattle.law_answers.proofs.newcomers.contributions_are_balanced.Goals as goal

pub returns : goal.returns
returns c = contributions_are_balanced
