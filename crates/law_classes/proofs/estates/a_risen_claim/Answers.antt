use Rattle.law_classes.proofs.ARisenClaim.{a_risen_claim}
use Rattle.law_classes.proofs.estates.a_risen_claim.Goals as goal

pub returns : goal.returns
returns c = a_risen_claim
