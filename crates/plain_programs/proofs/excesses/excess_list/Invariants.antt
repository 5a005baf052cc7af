use Rattle.std.proofs.Common.{◌≡◌, ◌-◌, ◌*ℤ◌, map}
use Rattle.std.specs.List.{range_with_len}
use Rattle.definitions.specs.Games.{measured_excess}
use Rattle.plain_programs.specs.Plain.{game_of}
use Rattle.plain_programs.proofs.excesses.excess_list.Given as goal

abbrev pub invariant-loop-coalition : goal.invariant-loop-coalition
invariant-loop-coalition l =
    l.list.items
    ≡ map (λ s. l.scale *ℤ measured_excess l.measure (game_of l.table) l.point s)
    (range_with_len 1 (l.coalition - 1))
