use Rattle.law_monotonicity.proofs.EachWhoGrows.{each_who_grows}
use Rattle.law_monotonicity.proofs.growth.each_who_grows_gets_no_less.Goals as goal

pub returns : goal.returns
returns c = each_who_grows
