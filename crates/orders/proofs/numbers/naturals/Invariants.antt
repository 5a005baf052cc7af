use Rattle.std.proofs.Common.{◌≡◌, ◌<◌, ◌^◌, take, map, pos}
use Rattle.std.specs.List.{All}
use Rattle.orders.proofs.numbers.naturals.Given as goal

abbrev pub invariant-loop-z : goal.invariant-loop-z
invariant-loop-z l = (map pos l.kept.items ≡ take l.z-index l.numbers) × All (λ c. c < 2 ^ 40) l.kept.items
