use Rattle.law_classes.proofs.MarketLattices.{core_is_a_lattice}
use Rattle.law_classes.proofs.markets.core_is_a_lattice.Goals as goal

pub returns : goal.returns
returns c = core_is_a_lattice
