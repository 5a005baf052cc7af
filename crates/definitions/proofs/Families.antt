-- What the members of a family are.
use Rattle.std.proofs.Common.{◌≡◌}
use Rattle.definitions.specs.Games.{Game, Allocation, IsAllocation, IsEfficient, IsIndividuallyRational, InFamily}
use Rattle.definitions.specs.declared.Family.{Family}
use Rattle.definitions.specs.declared.Family.TheVariants.{Imputations, Preimputations}

pub allocation_of : (family : Family) (g : Game) (x : Allocation) → InFamily family g x → IsAllocation g x
allocation_of Imputations g x h = h.0
allocation_of Preimputations g x h = h.0

pub efficient_of : (family : Family) (g : Game) (x : Allocation) → InFamily family g x → IsEfficient g x
efficient_of Imputations g x h = h.1
efficient_of Preimputations g x h = h.1

pub individual_of : (family : Family) (g : Game) (x : Allocation) → InFamily family g x → family ≡ Imputations
    → IsIndividuallyRational g x
individual_of Imputations g x h e = h.2
individual_of Preimputations g x h e = absurd (cc)
