use Rattle.std.proofs.Common.{◌≡◌, map, min, take}
use Rattle.talmud.proofs.cut_claims.cuts.Given as goal

abbrev pub invariant-loop-i : goal.invariant-loop-i
invariant-loop-i l = l.cuts.items ≡ map (λ c. min c l.game.estate) (take l.i l.game.claims)
