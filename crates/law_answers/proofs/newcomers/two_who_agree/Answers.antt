use Rattle.law_answers.proofs.TwoWhoAgree.{two_agree}
use Rattle.law_answers.proofs.newcomers.two_who_agree.Goals as goal

pub returns : goal.returns
returns c = two_agree
