use Rattle.std.proofs.Common.{◌*◌, map, drop}
use Rattle.separation.specs.Making.{earlier_columns}
use Rattle.separation.specs.Scanned.{game_of}
use Rattle.separation.proofs.InFront.{Decide}
use Rattle.separation.proofs.front.first_of_level.Given as goal

abbrev pub invariant-loop-j : goal.invariant-loop-j
invariant-loop-j g l =
    Decide l.scan (earlier_columns (game_of l.scan) (map (λ c. (c.0, l.k)) l.pairs)) (2 * l.j)
    (earlier_columns (game_of l.scan) (map (λ c. (c.0, l.k)) (drop l.j l.pairs)))
