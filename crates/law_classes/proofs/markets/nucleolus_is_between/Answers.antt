use Rattle.law_classes.proofs.SidesOfMarkets.{nucleolus_is_between}
use Rattle.law_classes.proofs.markets.nucleolus_is_between.Goals as goal

pub returns : goal.returns
returns c = nucleolus_is_between
