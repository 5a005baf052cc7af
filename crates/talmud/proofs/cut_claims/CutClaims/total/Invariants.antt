use Rattle.std.proofs.Common.{◌≡◌, ◌-◌, ◌*◌, ◌^◌, ◌≤◌, get_or, pos}
use Rattle.definitions.specs.Sums.{sum_below}
use Rattle.talmud.proofs.cut_claims.CutClaims.total.Given as goal

abbrev pub invariant-loop-i : goal.invariant-loop-i
invariant-loop-i l =
    (pos l.total ≡ sum_below l.i (λ i. pos (get_or l.self.numbers i 0))) × (l.total ≤ l.i * (2 ^ 40 - 1))
