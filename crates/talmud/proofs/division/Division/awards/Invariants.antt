use Rattle.std.proofs.Common.{◌≡◌, map, pos, take}
use Rattle.talmud.specs.Division.{award, is_gain}
use Rattle.talmud.proofs.division.Division.awards.Given as goal

abbrev pub invariant-loop-i : goal.invariant-loop-i
invariant-loop-i l =
    let gain = is_gain l.self.side in
    l.num.items ≡ map (λ c. pos (award gain l.self.half_den l.self.bound c)) (take l.i l.claims.numbers)
