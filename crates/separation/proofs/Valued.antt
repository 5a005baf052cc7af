-- The value of a column from two tables of sums and one multiplier.
--
-- The value is the sum over the members, and the multiplier of the column's level with its sign; per head as often as
-- the coalition has members. The sums over the first eight and the next eight players are in two tables of 256 numbers,
-- so a column costs two look-ups.
use Rattle.std.proofs.Common.{◌≡◌, ℕ, zero, suc, ◌+◌, ◌-◌, ◌/◌, ◌%◌, ◌<◌, ◌≤◌}
use Rattle.std.proofs.Common.{Bool, true, false, cond, List, length, ℤ, pos, ◌+ℤ◌, ◌*ℤ◌}
use Rattle.std.proofs.Common.{refl, sym, ap, ◌∙◌, inl, inr, arith, nat_eq, nat_lt, if◌then◌else◌}
use Rattle.std.proofs.Common.{slice_index_or, Option, Some, None}
use Rattle.std.proofs.lemmas.Bool.Decides.{nat_tests}
use Rattle.std.specs.Option.{ForSome}
use Rattle.definitions.proofs.Ring.{linear, mul-zeroℤ, mul-subℤ, add-sameℤ}
use Rattle.definitions.proofs.Members.{sum_below-same, sum_below-zero, sum_below-split, times_bit}
use Rattle.definitions.specs.Sums.{sum_below}
use Rattle.definitions.specs.Coalitions.{has_player, sum_over}
use Rattle.definitions.specs.Measures.{divisor}
use Rattle.definitions.specs.declared.Measure.{Measure}
use lib.IntN.{*ℤ_comm}
use Rattle.separation.specs.Stage.{signed}
use Rattle.separation.specs.Kept.{is_level, plain_entry}
use Rattle.separation.specs.Values.{multiplier_at, player_multiplier, member_multiplier, eight}
use Rattle.separation.specs.Values.{low_of, high_of, AreSums, level_multiplier, column_value}
use Rattle.separation.specs.declared.column.Column.{Column}
use Rattle.separation.specs.declared.tables.Sums.{Sums}
use Rattle.spans.proofs.EightSums.{sum_by_eights, sum_within_players}
use Rattle.definitions.proofs.Cases.{less_or_last, nat_lt-less, nat_lt-past}
use Rattle.definitions.proofs.Parts.{part}

-- ---- the tables

pub eight-is : (num : List ℤ) (n first s : ℕ) → eight num n first s ≡ sum_below 8 (member_multiplier num n first s)
unfolding eight
eight-is num n first s = refl

-- the multipliers of the players alone
all_players : (num : List ℤ) (n s : ℕ) → n ≤ 16
    → sum_over 16 (player_multiplier num n) s ≡ sum_over n (multiplier_at num) s
all_players num n s few =
    sum_within_players n s (player_multiplier num n) (multiplier_at num) few
    (λ i lt. ap (λ (b : Bool). cond b (multiplier_at num i) (pos 0)) (nat_lt-less i n lt))
    (λ i le. ap (λ (b : Bool). cond b (multiplier_at num i) (pos 0)) (nat_lt-past i n le))

pub sums_at : (num : List ℤ) (n s : ℕ) (sums : Sums) → AreSums num n sums
    → slice_index_or (low_of sums) (s % 256) (pos 0) +ℤ slice_index_or (high_of sums) (s / 256 % 256) (pos 0)
    ≡ sum_over n (multiplier_at num) s
sums_at num n s sums h =
    add-sameℤ _ _ _ _ ((h.low_is (s % 256) (omega arith)).value ∙ eight-is num n 0 (s % 256)
    ∙ sum_below-same 8 (member_multiplier num n 0 (s % 256)) (part (player_multiplier num n) (s % 256))
    (λ i lt. let e : 0 + i ≡ i = omega arith in
    ap (λ (k : ℕ). cond (has_player (s % 256) i) (player_multiplier num n k) (pos 0)) e))
    ((h.high_is (s / 256 % 256) (omega arith)).value ∙ eight-is num n 8 (s / 256 % 256))
    ∙ sum_by_eights (player_multiplier num n) s
    ∙ all_players num n s h.few

-- ---- the rows

times_entry : (b : Bool) (z d : ℤ) → z *ℤ cond b d (pos 0) ≡ cond b (d *ℤ z) (pos 0)
times_entry true z d = *ℤ_comm z d
times_entry false z d = mul-zeroℤ z

pub signed_sum : (n : ℕ) (y f : ℕ → ℤ) (b : Bool)
    → sum_below n (λ r. y r *ℤ signed b (f r)) ≡ signed b (sum_below n (λ r. y r *ℤ f r))
signed_sum n y f false = refl
signed_sum zero y f true = refl
signed_sum (suc n) y f true =
    omega (arith, linear, signed_sum n y f true, mul-subℤ (y n) (pos 0) (f n), mul-zeroℤ (y n))

sum_of_one_row : (j l : ℕ) (y : ℕ → ℤ) → l < j → sum_below j (λ k. if nat_eq l k then y k else pos 0) ≡ y l
sum_of_one_row zero l y h = absurd (omega arith)
sum_of_one_row (suc j) l y h = elim (less_or_last l j h) [
  | inl less ↦
      let v : nat_eq l j ≡ false = grind (arith, nat_tests) in
      rw v (omega (arith, linear, sum_of_one_row j l y less))
  | inr same ↦
      let v : nat_eq l j ≡ true = grind (arith, nat_tests) in
      let none = sum_below-zero j (λ k. if nat_eq l k then y k else pos 0) (λ k lt. zero_elsewhere l j k y same lt) in
      rw v (omega (arith, linear, none, ap y same))
]
  where
    zero_elsewhere : (l j k : ℕ) (y : ℕ → ℤ) → l ≡ j → k < j → cond (nat_eq l k) (y k) (pos 0) ≡ pos 0
    zero_elsewhere l j k y same lt = let v : nat_eq l k ≡ false = grind (arith, nat_tests) in rw v refl

level_sum : (num : List ℤ) (n j : ℕ) (level : Option ℕ) (d : ℤ) → ForSome level (λ l. l < j)
    → sum_below j (λ k. if is_level level k then d *ℤ multiplier_at num (n + k) else pos 0)
    ≡ d *ℤ level_multiplier num n level
level_sum num n j None d h = sum_below-zero j (λ k. pos 0) (λ k lt. refl) ∙ sym (mul-zeroℤ d)
level_sum num n j (Some l) d h = sum_of_one_row j l (λ k. d *ℤ multiplier_at num (n + k)) (h l refl)

-- the value of the column that isn't negated
plain_sum : (measure : Measure) (num : List ℤ) (n j s : ℕ) (level : Option ℕ) → ForSome level (λ l. l < j)
    → sum_below (n + j) (λ r. multiplier_at num r *ℤ plain_entry measure n s level r)
    ≡ sum_over n (multiplier_at num) s +ℤ pos (divisor measure s) *ℤ level_multiplier num n level
plain_sum measure num n j s level h =
    let f : ℕ → ℤ = λ r. multiplier_at num r *ℤ plain_entry measure n s level r in
    let d : ℤ = pos (divisor measure s) in
    let split = sum_below-split n j f in
    let first = sum_below-same n f (λ i. if has_player s i then multiplier_at num i else pos 0) members in
    let second =
    sum_below-same j (λ k. f (n + k)) (λ k. if is_level level k then d *ℤ multiplier_at num (n + k) else pos 0)
    levels in
    let third = level_sum num n j level d h in
    omega (arith, linear)
  where
    members : (i : ℕ) → i < n
        → multiplier_at num i *ℤ plain_entry measure n s level i
        ≡ (if has_player s i then multiplier_at num i else pos 0)
    members i lt =
        let t : nat_lt i n ≡ true = grind (arith, nat_tests) in
        rw t (times_bit (has_player s i) (multiplier_at num i))

    levels : (k : ℕ) → k < j
        → multiplier_at num (n + k) *ℤ plain_entry measure n s level (n + k)
        ≡ (if is_level level k then pos (divisor measure s) *ℤ multiplier_at num (n + k) else pos 0)
    levels k lt =
        let t : nat_lt (n + k) n ≡ false = grind (arith, nat_tests) in
        let e : n + k - n ≡ k = omega arith in
        rw t (rw e (times_entry (is_level level k) (multiplier_at num (n + k)) (pos (divisor measure s))))

pub value_is : (measure : Measure) (num : List ℤ) (n : ℕ) (c : Column) → n ≤ length num
    → ForSome c.level (λ l. n + l < length num)
    → column_value measure num n c
    ≡ signed c.negated
    (sum_over n (multiplier_at num) c.coalition +ℤ pos (divisor measure c.coalition)
    *ℤ level_multiplier num n c.level)
value_is measure num n c le h =
    let e : length num ≡ n + (length num - n) = omega arith in
    let three =
    signed_sum (length num) (multiplier_at num) (λ r. plain_entry measure n c.coalition c.level r) c.negated in
    cc (plain_sum measure num n (length num - n) c.coalition c.level (λ l is. let lt = h l is in omega arith))
