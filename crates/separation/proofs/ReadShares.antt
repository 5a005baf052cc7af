-- The multipliers of the players' rows, taken one by one.
use Rattle.std.proofs.Common.{◌≡◌, ℕ, ◌+◌, ◌^◌, ◌<◌, ◌≤◌, List, [], ◌∷◌, ◌++◌}
use Rattle.std.proofs.Common.{length, take, ℤ, pos, to_z, of_z, refl, arith, unsigned_abs, slice_index_or}
use Rattle.std.proofs.lemmas.List.{take_more, length-take-le, get_or-take}
use Rattle.std.proofs.lemmas.Int.{ints}
use mir.Syntax.{w128}
use Rattle.definitions.proofs.Casts.{cast_kept}
use Rattle.definitions.specs.Games.{IsShares}
use Rattle.worth_core.specs.Allocations.{allocation}
use Rattle.separation.specs.Shares.{IsReadFrom}
use Rattle.simplex.specs.declared.multipliers.Multipliers.{Multipliers}

num_kept : (m : Multipliers) (k : ℕ)
    → to_z w128 (of_z w128 (slice_index_or m.num.items k (pos 0))) ≡ slice_index_or m.num.items k (pos 0)
num_kept m k =
    cast_kept w128 (slice_index_or m.num.items k (pos 0))
    (let small : unsigned_abs (slice_index_or m.num.items k (pos 0)) < 2 ^ 110 = m.num_small k in
    omega (arith, small))

-- one more multiplier
pub taken_more : (m : Multipliers) (items num new : List ℤ) (i : ℕ) → i < length m.num.items → items ≡ m.num.items
    → num ≡ take i m.num.items → new ≡ num ++ to_z w128 (of_z w128 (slice_index_or items i (pos 0))) ∷ []
    → new ≡ take (i + 1) m.num.items
taken_more m items num new i lt same is e = cc (num_kept m i, take_more m.num.items i (pos 0) lt)

module _ (m : Multipliers) (n : ℕ) (rows : n ≤ length m.num.items) where
  count : length (take n m.num.items) ≡ n
  count = length-take-le n m.num.items rows

  taken_at : (i : ℕ) → i < n → slice_index_or (take n m.num.items) i (pos 0) ≡ slice_index_or m.num.items i (pos 0)
  taken_at i lt = get_or-take n m.num.items i (pos 0) lt

  -- the first multipliers, over their denominator, are shares
  pub taken_are_shares : 1 ≤ n → n ≤ 16 → IsShares (allocation (take n m.num.items) m.den)
  taken_are_shares some few = record {
    some = omega (arith, count, some);
    few = omega (arith, count, few);
    positive = m.den_positive;
    common = let small = m.den_small in let positive = m.den_positive in omega (arith, ints);
    small = λ i lt. rw (taken_at i (omega (arith, lt, count)))
        (m.num_small i);
  }

  pub taken_are_read : IsReadFrom n m.num.items m.den (allocation (take n m.num.items) m.den)
  taken_are_read = record { players = count; shares = taken_at; common = refl }
