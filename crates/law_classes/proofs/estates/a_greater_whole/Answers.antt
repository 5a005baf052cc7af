use Rattle.law_classes.proofs.AGreaterWhole.{a_greater_whole}
use Rattle.law_classes.proofs.estates.a_greater_whole.Goals as goal

pub returns : goal.returns
returns c = a_greater_whole
