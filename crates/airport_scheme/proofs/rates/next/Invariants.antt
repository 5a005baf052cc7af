use Rattle.std.proofs.Common.{◌^◌, ◌<◌, length, unsigned_abs}
use Rattle.airport_scheme.specs.Scheme.{cost_at}
use Rattle.airport_scheme.proofs.Runs.{IsBest}
use Rattle.airport_scheme.proofs.rates.next.Given as goal

abbrev pub invariant-loop-l : goal.invariant-loop-l
invariant-loop-l l =
    IsBest (length l.game.costs) (cost_at l.game) l.den l.paid l.done l.l l.best.last l.best.size l.best.value
    × (unsigned_abs l.best.size < 2 ^ 7) × (unsigned_abs l.best.value < 2 ^ 105)
