use Rattle.law_classes.proofs.VetoCores.{votes_are_simple}
use Rattle.law_classes.proofs.vetoes.votes_are_simple.Goals as goal

pub returns : goal.returns
returns c = votes_are_simple
