-- BlockBounds and least numbers are as small as what they are taken from.
--
-- The search passes over 64 coalitions if the greatest worth of their block of 256, over the denominator, less the
-- least of their own sums isn't higher than what was found. The greatest worths are found once for all stages.
use Rattle.std.proofs.Common.{◌-◌, ◌*◌, ◌^◌, ◌-ℤ◌, ◌<◌, ◌≤◌, ℕ, List, ℤ, pos, arith}
use Rattle.std.proofs.Common.{unsigned_abs, slice_index_or}
use Rattle.std.proofs.lemmas.Int.{ints}
use Rattle.definitions.specs.Games.{Game, IsGame}
use Rattle.separation.specs.BlockBounds.{IsBlockBound, IsLeast}

pub block_bound_small : (g : Game) (k : ℕ) (z : ℤ) → IsGame g → IsBlockBound g k z → unsigned_abs z < 2 ^ 46
block_bound_small g k z laws is =
    let most = is.attained (pos (2 ^ 46 - 1)) (omega arith)
    (λ s lower upper within. let small = laws.small s within in omega (arith, ints, small)) in
    let some = is.positive in
    omega (arith, ints)

pub least_small : (low : List ℤ) (q : ℕ) (z : ℤ) (b : ℕ) → q < 4 → IsLeast low q z
    → ((k : ℕ) → k < 256 → unsigned_abs (slice_index_or low k (pos 0)) ≤ b) → unsigned_abs z ≤ b
least_small low q z b few is small =
    let first = is.least (64 * q) (omega arith) (omega arith) in
    let size = small (64 * q) (omega (arith, few)) in
    let some = is.attained (pos 0 -ℤ pos b)
    (λ k lower upper. let each = small k (omega arith) in omega (arith, ints, each)) in
    omega (arith, ints)
