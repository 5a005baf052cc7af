use Rattle.std.proofs.Common.{◌≡◌, ◌*ℤ◌, int_lt}
use Rattle.std.specs.List.{filter, range_with_len}
use Rattle.definitions.specs.Games.{amount}
use Rattle.plain_programs.specs.Plain.{game_of}
use Rattle.plain_programs.proofs.blockers.blockers.Given as goal

abbrev pub invariant-loop-coalition : goal.invariant-loop-coalition
invariant-loop-coalition l =
    l.masks.items
    ≡ filter (λ s. int_lt (amount l.point s) (l.point.den *ℤ (game_of l.table).worth s))
    (range_with_len 0 l.coalition)
