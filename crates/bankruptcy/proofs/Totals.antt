-- The estate less all claims.
use Rattle.std.proofs.Common.{◌≡◌, ℕ, ◌^◌, ◌<◌, List, length, pos, ◌-ℤ◌, to_z, of_z}
use Rattle.std.proofs.Common.{◌∙◌, arith}
use Rattle.std.proofs.lemmas.Int.{ints, to_z_pos}
use Rattle.definitions.proofs.Members.{sum_over-grand_coalition}
use Rattle.definitions.specs.Sums.{sum_below}
use Rattle.definitions.specs.Coalitions.{grand_coalition, sum_over}
use Rattle.orders.proofs.ListSums.{number_of}
use mir.Syntax.{w64}
use Rattle.definitions.proofs.Casts.{cast_kept}

pub difference_kept : (e u : ℕ) → e < 2 ^ 40 → u < 2 ^ 46
    → to_z w64 (of_z w64 (to_z w64 e -ℤ to_z w64 u)) ≡ pos e -ℤ pos u
difference_kept e u h k =
    rw (to_z_pos w64 e (omega arith), to_z_pos w64 u (omega arith))
    (cast_kept w64 (pos e -ℤ pos u) (omega (arith, ints)))

-- the sum over all players, where the list and the coalition are given by equations
pub sum_of_all : (xs ys : List ℕ) (s k u : ℕ) → pos u ≡ sum_over (length xs) (number_of xs) s → xs ≡ ys
    → s ≡ grand_coalition k → k ≡ length ys → pos u ≡ sum_below (length ys) (number_of ys)
sum_of_all xs ys s k u sum list all count =
    rw (list, all, count) at sum ∙ sum_over-grand_coalition (length ys) (number_of ys)
