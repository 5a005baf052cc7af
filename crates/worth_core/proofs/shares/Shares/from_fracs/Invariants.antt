use Rattle.std.proofs.Common.{◌≡◌, ◌<◌, ◌^◌, take, map, All, unsigned_abs}
use Rattle.worth_core.specs.LeastDenominators.{numerator_over}
use Rattle.worth_core.proofs.shares.Shares.from_fracs.Given as goal

abbrev pub invariant-loop-f : goal.invariant-loop-f
invariant-loop-f l = record {
  over : l.num.items ≡ map (numerator_over l.den) (take l.f-index l.shares);
  small : All (λ z. unsigned_abs z < 2 ^ 110) l.num.items;
}
