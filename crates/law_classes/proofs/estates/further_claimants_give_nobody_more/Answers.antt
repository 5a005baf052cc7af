use Rattle.law_classes.proofs.FurtherClaimants.{further_claimants_give_nobody_more}
use Rattle.law_classes.proofs.estates.further_claimants_give_nobody_more.Goals as goal

pub returns : goal.returns
returns c = further_claimants_give_nobody_more
