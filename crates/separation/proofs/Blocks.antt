-- The values of the columns of coalitions with plain excess, 256 at a time.
--
-- The 256 coalitions of a block have the players past the first eight and the level in common, so each costs one
-- addition (`block_value`). Per head the level counts as often as the coalition has members, and each value is found by
-- itself.
use Rattle.std.proofs.Common.{◌≡◌, ℕ, ◌+◌, ◌*◌, ◌/◌, ◌%◌, ◌<◌, ◌≤◌, List, length}
use Rattle.std.proofs.Common.{ℤ, pos, ◌+ℤ◌, sym}
use Rattle.std.proofs.Common.{ap, ◌∙◌, arith, slice_index_or, Option, Some, None, false}
use Rattle.std.specs.Option.{ForSome}
use Rattle.definitions.proofs.Ring.{linear, one-mulℤ}
use Rattle.definitions.specs.declared.Measure.TheVariants.{Plain}
use Rattle.separation.specs.Fronts.{front_level, front_rows}
use Rattle.separation.specs.Values.{low_of, high_of, AreSums, level_multiplier, column_value}
use Rattle.separation.specs.declared.tables.Sums.{Sums}
use Rattle.separation.specs.declared.front.Front.{Front}
use Rattle.separation.proofs.Valued.{sums_at, value_is}

-- the level row of the coalitions' columns has a multiplier
pub front_within : (front : Option Front) (n rows len : ℕ) → rows ≡ front_rows front → len ≡ n + rows
    → ForSome (front_level front) (λ l. n + l < len)
front_within None n rows len e h l is = absurd (none_is_not_some l is)
  where
    none_is_not_some : (y : ℕ) → None ≡ Some y → ⊥
    none_is_not_some y e = cc
front_within (Some f) n rows len e h l is =
    let same : length f.levels.now ≡ l = some_injective (length f.levels.now) l is in omega arith
  where
    some_injective : (x y : ℕ) → Some x ≡ Some y → x ≡ y
    some_injective x y e = cc

pub block_value : (num : List ℤ) (n s block : ℕ) (level : Option ℕ) (sums : Sums) (cost base value : ℤ)
    → n ≤ length num → ForSome level (λ l. n + l < length num) → AreSums num n sums → 256 * block ≤ s
    → s < 256 * block + 256 → block < 256
    → base ≡ slice_index_or (high_of sums) block (pos 0) +ℤ level_multiplier num n level
    → value ≡ base +ℤ slice_index_or (low_of sums) (s % 256) (pos 0)
    → value ≡ column_value Plain num n (record { coalition = s; level = level; negated = false; cost = cost })
block_value num n s block level sums cost base value le within are lower upper few based valued =
    let here : s / 256 % 256 ≡ block = omega arith in
    let sum =
    ap (λ (t : ℕ). slice_index_or (low_of sums) (s % 256) (pos 0) +ℤ slice_index_or (high_of sums) t (pos 0))
    (sym here)
    ∙ sums_at num n s sums are in
    let is =
    value_is Plain num n (record { coalition = s; level = level; negated = false; cost = cost }) le within in
    regrouped _ _ _ _ _ _ _ valued based sum (one-mulℤ (level_multiplier num n level)) ∙ sym is
  where
    regrouped : (v b h k l x m : ℤ) → v ≡ b +ℤ l → b ≡ h +ℤ k → l +ℤ h ≡ x → m ≡ k → v ≡ x +ℤ m
    regrouped v b h k l x m e f s o = omega (arith, linear)
