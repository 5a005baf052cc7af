use Rattle.std.proofs.Common.{◌-◌, length}
use Rattle.orders.specs.Ordered.{number_at}
use Rattle.talmud.specs.Division.{IsSplit}
use Rattle.talmud.proofs.division.half_players.Given as goal

abbrev pub invariant-loop-half : goal.invariant-loop-half
invariant-loop-half l = IsSplit (length l.claims.numbers) (number_at l.claims) l.double l.half l.left

abbrev pub decreases-loop-half : goal.decreases-loop-half
decreases-loop-half l = length l.claims.numbers - l.half
