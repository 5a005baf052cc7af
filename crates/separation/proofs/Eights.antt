-- The sums of the coalitions of eight players, each from one before it.
use Rattle.std.proofs.Common.{◌≡◌, ℕ, zero, suc, ◌+◌, ◌-◌, ◌*◌, ◌^◌, ◌<◌, ◌≤◌}
use Rattle.std.proofs.Common.{Bool, true, false, cond, List, ℤ, pos, ◌+ℤ◌, sym, ap}
use Rattle.std.proofs.Common.{◌∙◌, arith, nat_lt, slice_index_or, unsigned_abs, to_z, of_z, subst}
use Rattle.std.proofs.Common.{length}
use Rattle.std.proofs.lemmas.Int.{ints}
use mir.Syntax.{w128}
use Rattle.definitions.proofs.Casts.{cast_kept}
use Rattle.definitions.proofs.Ring.{linear}
use Rattle.definitions.specs.Sums.{sum_below}
use Rattle.definitions.specs.Coalitions.{has_player}
use Rattle.definitions.proofs.Halves.{has_player-last}
use Rattle.definitions.proofs.Members.{has_player-empty, sum_below-zero, sum_below-same}
use Rattle.definitions.proofs.Parts.{sum_over-more, part}
use Rattle.separation.specs.Values.{player_multiplier, member_multiplier, eight, IsEight, AreNarrow, low_of, HasRoom}
use Rattle.separation.specs.declared.tables.NarrowSums.{NarrowSums}
use Rattle.separation.specs.declared.tables.Sums.{Sums}
use Rattle.separation.specs.declared.tables.Sums.TheVariants.{Narrow}
use Rattle.separation.proofs.Valued.{eight-is}
use Rattle.spans.proofs.EightSums.{last_below_eight}
use Rattle.spans.specs.Sums.{number_at, IsEightSum}

-- the last player joins
pub eight-more : (num : List ℤ) (n first s last : ℕ) → last < 8 → s < 2 ^ last
    → eight num n first (s + 2 ^ last) ≡ eight num n first s +ℤ player_multiplier num n (first + last)
eight-more num n first s last lt h =
    let two = sum_over-more 8 s last (λ i. player_multiplier num n (first + i)) lt (has_player-last last s h) in
    cc (eight-is num n first (s + 2 ^ last), eight-is num n first s)

eight-empty : (num : List ℤ) (n first : ℕ) → eight num n first 0 ≡ pos 0
eight-empty num n first =
    eight-is num n first 0 ∙ sum_below-zero 8 (member_multiplier num n first 0) (λ i lt. no_member i)
  where
    no_member : (i : ℕ) → member_multiplier num n first 0 i ≡ pos 0
    no_member i = ap (λ (b : Bool). cond b (player_multiplier num n (first + i)) (pos 0)) (has_player-empty i)

sum-small : (k : ℕ) (f : ℕ → ℤ) → ((i : ℕ) → unsigned_abs (f i) < 2 ^ 110)
    → unsigned_abs (sum_below k f) ≤ k * 2 ^ 110
sum-small zero f h = omega (arith, ints)
sum-small (suc k) f h = let low = sum-small k f h in let last = h k in omega (arith, ints)

pub eight-small : (num : List ℤ) (n first s : ℕ) → ((k : ℕ) → unsigned_abs (slice_index_or num k (pos 0)) < 2 ^ 110)
    → unsigned_abs (eight num n first s) ≤ 2 ^ 113
eight-small num n first s h =
    let small =
    sum-small 8 (member_multiplier num n first s)
    (λ i. member_small (has_player s i) (nat_lt (first + i) n) (first + i)) in
    let same = ap unsigned_abs (eight-is num n first s) in
    omega arith
  where
    member_small : (b c : Bool) (i : ℕ)
        → unsigned_abs (cond b (cond c (slice_index_or num i (pos 0)) (pos 0)) (pos 0)) < 2 ^ 110
    member_small true true i = h i
    member_small true false i = omega arith
    member_small false c i = omega arith

pub IsEight-empty : (num : List ℤ) (n first : ℕ) → IsEight num n first 0 (pos 0)
IsEight-empty num n first = record { value = sym (eight-empty num n first); small = omega arith }

-- the sum of s from that of s without its last player
pub IsEight-next : (num : List ℤ) (n first s last : ℕ) (a b : ℤ)
    → ((k : ℕ) → unsigned_abs (slice_index_or num k (pos 0)) < 2 ^ 110) → s < 256 → 2 ^ last ≤ s → s < 2 * 2 ^ last
    → IsEight num n first (s - 2 ^ last) a → b ≡ player_multiplier num n (first + last) → unsigned_abs b < 2 ^ 110
    → IsEight num n first s (to_z w128 (of_z w128 (to_z w128 (of_z w128 a) +ℤ to_z w128 (of_z w128 b))))
IsEight-next num n first s last a b small few lower upper is same b_small =
    let rest : s - 2 ^ last < 2 ^ last = omega arith in
    let whole : s - 2 ^ last + 2 ^ last ≡ s = omega (arith, lower) in
    let more = eight-more num n first (s - 2 ^ last) last (last_below_eight last s lower few) rest in
    let sum : a +ℤ b ≡ eight num n first s = added _ _ _ _ _ is.value same more ∙ ap (eight num n first) whole in
    let a_small = is.small in
    let kept : to_z w128 (of_z w128 (to_z w128 (of_z w128 a) +ℤ to_z w128 (of_z w128 b))) ≡ a +ℤ b =
    kept_sum a b a_small b_small in
    record {
      value = kept ∙ sum;
      small = rw (kept ∙ sum) (eight-small num n first s small);
    }
  where
    added : (x y u v w : ℤ) → x ≡ u → y ≡ v → w ≡ u +ℤ v → x +ℤ y ≡ w
    added x y u v w e f h = omega (arith, linear)

    kept_sum : (x y : ℤ) → unsigned_abs x ≤ 2 ^ 113 → unsigned_abs y < 2 ^ 110
        → to_z w128 (of_z w128 (to_z w128 (of_z w128 x) +ℤ to_z w128 (of_z w128 y))) ≡ x +ℤ y
    kept_sum x y hx hy = rw (cast_kept w128 x (omega arith), cast_kept w128 y (omega arith))
        (cast_kept w128 (x +ℤ y) (omega (arith, ints)))

-- the sums of multipliers that 64 bits hold
pub IsEight-narrow : (num : List ℤ) (n first s : ℕ) (numbers : List ℤ) (z : ℤ) → AreNarrow num n numbers
    → IsEightSum numbers first s z → IsEight num n first s z
IsEight-narrow num n first s numbers z h sum =
    let few = sum.small (2 ^ 56) (λ i. (h i).1) in
    record {
      value =
          sum.value
          ∙ sum_below-same 8 (part (λ i. number_at numbers (first + i)) s) (member_multiplier num n first s)
          (λ i lt. ap (λ (y : ℤ). cond (has_player s i) y (pos 0)) (h (first + i)).0)
          ∙ sym (eight-is num n first s);
      small = omega (arith, few);
    }

-- ---- multipliers in 64 bits

-- the first i multipliers are kept
pub record AreNarrowBelow (num : List ℤ) (n i : ℕ) (numbers : List ℤ) : Type 0 where
  pub len : length numbers ≡ 16
  pub done : (j : ℕ) → j < i
      → (number_at numbers j ≡ player_multiplier num n j) × (unsigned_abs (number_at numbers j) ≤ 2 ^ 56)

-- sums in 64 bits have room where those of the first eight players are small
pub narrow_has_room : (t : NarrowSums)
    → ((k : ℕ) → k < 256 → unsigned_abs (slice_index_or t.low.now k (pos 0)) ≤ 2 ^ 59) → HasRoom (Narrow t)
narrow_has_room t h u e k lt =
    subst (λ (s : Sums). unsigned_abs (slice_index_or (low_of s) k (pos 0)) ≤ 2 ^ 59) e (h k lt)
