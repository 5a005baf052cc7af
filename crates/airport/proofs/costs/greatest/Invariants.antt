use Rattle.std.proofs.Common.{◌≡◌, ◌^◌, ◌<◌, get_or}
use Rattle.definitions.specs.Classes.{greatest_cost}
use Rattle.airport.proofs.costs.greatest.Given as goal

abbrev pub invariant-loop-i : goal.invariant-loop-i
invariant-loop-i l = (l.most ≡ greatest_cost l.i (λ j. get_or l.costs.numbers j 0) l.s) × (l.most < 2 ^ 40)
