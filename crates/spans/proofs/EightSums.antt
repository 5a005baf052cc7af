-- Sums over coalitions of a number for each player: by two tables, within so many players, and as weights of a place.
use Rattle.std.proofs.Common.{◌≡◌, ℕ, zero, suc, ◌+◌, ◌-◌, ◌*◌, ◌/◌, ◌%◌, ◌^◌}
use Rattle.std.proofs.Common.{◌<◌, ◌≤◌, Bool, true, false}
use Rattle.std.proofs.Common.{cond, List, ℤ, pos, ◌+ℤ◌, refl, sym, ap, ◌∙◌}
use Rattle.std.proofs.Common.{arith, nat_eq, unsigned_abs}
use Rattle.std.proofs.Common.{to_z, of_z, FitsSigned, inl, inr, ◌≢◌, length, get_or, set}
use Rattle.std.proofs.Common.{subst}
use Rattle.std.proofs.Common.{get_or-set_same, get_or-set_other, replicate}
use Rattle.std.proofs.lemmas.Int.{ints, fits_signed_from_abs}
use Rattle.std.proofs.lemmas.Nat.Bits.{bit_at_cat_low, bit_at_cat_high}
use Rattle.std.proofs.Math.Nat.{pow-le-pow_right}
use Rattle.std.proofs.Math.Pow.{pow-lt}
use Rattle.std.specs.Int.{bit_at}
use mir.Syntax.{w64}
use Rattle.definitions.proofs.Cases.{below_or_above, same_or_other, last_or_less_of}
use Rattle.definitions.proofs.Casts.{cast_kept}
use Rattle.definitions.proofs.Halves.{has_player-last}
use Rattle.definitions.proofs.Members.{sum_below-same, sum_below-zero, sum_below-split, times_bit, zero_either}
use Rattle.definitions.proofs.Members.{has_player-empty, sum_below-add}
use Rattle.definitions.proofs.Parts.{part, sum_over-more}
use Rattle.definitions.proofs.Ring.{linear, add-sameℤ}
use Rattle.definitions.specs.Coalitions.{has_player, sum_over}
use Rattle.definitions.specs.Sums.{sum_below}
use Rattle.determinants.proofs.Lists.{zeros_at}
use Rattle.determinants.specs.Basis.{dot}
use Rattle.determinants.specs.Matrix.{entry_at}
use Rattle.spans.specs.Outside.{HasNoWeight}
use Rattle.spans.specs.Span.{vector, flag}
use Rattle.spans.specs.Sums.{number_at, eight_sum, IsEightSum, AreEightSums, two_sums}

-- ---- sixteen players as twice eight

bit_of_low_eight : (s i : ℕ) → i < 8 → bit_at (s % 256) i ≡ bit_at s i
bit_of_low_eight s i h =
    let e : s / 256 * 2 ^ 8 + s % 256 ≡ s = omega arith in
    sym (bit_at_cat_low (s / 256) 8 (s % 256) i h) ∙ ap (λ (t : ℕ). bit_at t i) e

bit_of_high_eight : (s i : ℕ) → i < 8 → bit_at (s / 256 % 256) i ≡ bit_at s (8 + i)
bit_of_high_eight s i h =
    let e : s / 256 * 2 ^ 8 + s % 256 ≡ s = omega arith in
    let d : 8 + i - 8 ≡ i = omega arith in
    bit_of_low_eight (s / 256) i h
    ∙ ap (λ (t : ℕ). bit_at (s / 256) t) (sym d)
    ∙ sym (bit_at_cat_high (s / 256) 8 (s % 256) (8 + i) (omega arith) (omega arith))
    ∙ ap (λ (t : ℕ). bit_at t (8 + i)) e

pub sum_by_eights : (f : ℕ → ℤ) (s : ℕ)
    → sum_over 8 f (s % 256) +ℤ sum_over 8 (λ i. f (8 + i)) (s / 256 % 256) ≡ sum_over 16 f s
sum_by_eights f s =
    add-sameℤ _ _ _ _
    (sum_below-same 8 (part f (s % 256)) (part f s)
    (λ i lt. ap (λ (b : ℕ). cond (nat_eq b 1) (f i) (pos 0)) (bit_of_low_eight s i lt)))
    (sum_below-same 8 (part (λ i. f (8 + i)) (s / 256 % 256)) (λ i. part f s (8 + i))
    (λ i lt. ap (λ (b : ℕ). cond (nat_eq b 1) (f (8 + i)) (pos 0)) (bit_of_high_eight s i lt)))
    ∙ sym (sum_below-split 8 8 (part f s))

-- numbers that are 0 past n players
pub sum_within_players : (n s : ℕ) (f g : ℕ → ℤ) → n ≤ 16 → ((i : ℕ) → i < n → f i ≡ g i)
    → ((i : ℕ) → n ≤ i → f i ≡ pos 0) → sum_over 16 f s ≡ sum_over n g s
sum_within_players n s f g few same none =
    let e : 16 ≡ n + (16 - n) = omega arith in
    let members =
    sum_below-same n (part f s) (part g s)
    (λ i lt. ap (λ (z : ℤ). cond (has_player s i) z (pos 0)) (same i lt)) in
    let others =
    sum_below-zero (16 - n) (λ k. part f s (n + k))
    (λ k lt. zero_either (has_player s (n + k)) (f (n + k)) (none (n + k) (omega arith))) in
    ap (λ (t : ℕ). sum_below t (part f s)) e ∙ sum_below-split n (16 - n) (part f s)
    ∙ first_alone _ _ _ members others
  where
    first_alone : (a b c : ℤ) → a ≡ b → c ≡ pos 0 → a +ℤ c ≡ b
    first_alone a b c e f = omega (arith, linear)

pub two_sums-is : (numbers low high : List ℤ) (n s : ℕ) (g : ℕ → ℤ) → n ≤ 16 → AreEightSums numbers low high
    → ((i : ℕ) → i < n → number_at numbers i ≡ g i) → ((i : ℕ) → n ≤ i → number_at numbers i ≡ pos 0)
    → s < 2 ^ 16 → two_sums low high s ≡ sum_over n g s
two_sums-is numbers low high n s g few sums same none lt =
    let block : s / 256 % 256 ≡ s / 256 = omega (arith, lt) in
    add-sameℤ _ _ _ _ (sums.low_is (s % 256) (omega arith)).value
    ((sums.high_is (s / 256) (omega (arith, lt))).value
    ∙ ap (λ (t : ℕ). sum_over 8 (λ i. number_at numbers (8 + i)) t) (sym block))
    ∙ add-sameℤ _ _ _ _ (from_first numbers (s % 256)) refl
    ∙ sum_by_eights (number_at numbers) s
    ∙ sum_within_players n s (number_at numbers) g few same none
  where
    from_first : (numbers : List ℤ) (t : ℕ) → eight_sum numbers 0 t ≡ sum_over 8 (number_at numbers) t
    from_first numbers t =
        sum_below-same 8 (part (λ i. number_at numbers (0 + i)) t) (part (number_at numbers) t)
        (λ i lt. let e : 0 + i ≡ i = omega arith in
        ap (λ (k : ℕ). cond (has_player t i) (number_at numbers k) (pos 0)) e)

-- the weight of a coalition at a place
pub dot-vector : (n : ℕ) (x : ℕ → ℤ) (s : ℕ) → sum_over n x s ≡ dot n x (vector s)
dot-vector zero x s = refl
dot-vector (suc n) x s = add-sameℤ _ _ _ _ (dot-vector n x s) (sym (times_bit (has_player s n) (x n)))

-- ---- a table

-- b, k times over
abbrev times_over : ℕ → ℕ → ℕ
times_over zero b = 0
times_over (suc k) b = times_over k b + b

sum_below-small : (k b : ℕ) (f : ℕ → ℤ) → ((i : ℕ) → unsigned_abs (f i) ≤ b)
    → unsigned_abs (sum_below k f) ≤ times_over k b
sum_below-small zero b f h = omega (arith, ints)
sum_below-small (suc k) b f h =
    let front = sum_below-small k b f h in
    let last = h k in
    omega (arith, ints, front, last)

pub eight_sum-small : (numbers : List ℤ) (first s b : ℕ) → ((i : ℕ) → unsigned_abs (number_at numbers i) ≤ b)
    → unsigned_abs (eight_sum numbers first s) ≤ 8 * b
eight_sum-small numbers first s b h =
    let small =
    sum_below-small 8 b (part (λ i. number_at numbers (first + i)) s)
    (λ i. counted (has_player s i) (number_at numbers (first + i)) (h (first + i))) in
    omega (arith, small)
  where
    counted : (c : Bool) (z : ℤ) → unsigned_abs z ≤ b → unsigned_abs (cond c z (pos 0)) ≤ b
    counted true z k = k
    counted false z k = omega arith

pub IsEightSum-is : (numbers : List ℤ) (first s : ℕ) (z : ℤ) → z ≡ eight_sum numbers first s
    → IsEightSum numbers first s z
IsEightSum-is numbers first s z e =
    record { value = e; small = λ b h. rw e (eight_sum-small numbers first s b h) }

pub IsEightSum-empty : (numbers : List ℤ) (first : ℕ) → IsEightSum numbers first 0 (pos 0)
IsEightSum-empty numbers first =
    IsEightSum-is numbers first 0 (pos 0)
    (sym
    (sum_below-zero 8 (part (λ i. number_at numbers (first + i)) 0)
    (λ i lt. ap (λ (b : Bool). cond b (number_at numbers (first + i)) (pos 0)) (has_player-empty i))))

pub last_below_eight : (last s : ℕ) → 2 ^ last ≤ s → s < 256 → last < 8
last_below_eight last s le few = elim (below_or_above last 8) [
  | inl lt ↦ lt
  | inr ge ↦ elim (same_or_other last 8) [
    | inl same ↦ absurd (let e = ap (λ (k : ℕ). 2 ^ k) same in omega (arith, e, le, few))
    | inr other ↦
        let more : 8 < last = omega (arith, ge, other) in absurd (let p = pow-lt more in omega (arith, p, le, few))
  ]
]

pub size_below_256 : (k : ℕ) → k < 8 → 2 ^ k ≤ 128
size_below_256 k lt = let le = pow-le-pow_right {n = 2} (omega arith) {i = k} {j = 7} (omega arith) in le

-- the sum of s from that of s without its last player
pub eight_sum-last : (numbers : List ℤ) (first s last : ℕ) → s < 256 → 2 ^ last ≤ s → s < 2 * 2 ^ last
    → eight_sum numbers first (s - 2 ^ last) +ℤ number_at numbers (first + last) ≡ eight_sum numbers first s
eight_sum-last numbers first s last few lower upper =
    let rest : s - 2 ^ last < 2 ^ last = omega (arith, lower, upper) in
    let whole : s - 2 ^ last + 2 ^ last ≡ s = omega (arith, lower) in
    sym
    (sum_over-more 8 (s - 2 ^ last) last (λ i. number_at numbers (first + i)) (last_below_eight last s lower few)
    (has_player-last last (s - 2 ^ last) rest))
    ∙ ap (eight_sum numbers first) whole

-- ---- as the machine adds

pub held_in_64 : (z : ℤ) → unsigned_abs z ≤ 2 ^ 62 → to_z w64 (of_z w64 z) ≡ z
held_in_64 z h = cast_kept w64 z (omega (arith, h))

pub added_in_64 : (a b : ℤ) → unsigned_abs a ≤ 2 ^ 61 → unsigned_abs b ≤ 2 ^ 61
    → FitsSigned w64 (to_z w64 (of_z w64 a) +ℤ to_z w64 (of_z w64 b))
    × (to_z w64 (of_z w64 (to_z w64 (of_z w64 a) +ℤ to_z w64 (of_z w64 b))) ≡ a +ℤ b)
added_in_64 a b ha hb =
    let small : unsigned_abs (a +ℤ b) ≤ 2 ^ 62 = omega (arith, ints, ha, hb) in
    rw (held_in_64 a (omega (arith, ha)), held_in_64 b (omega (arith, hb)))
    (fits_signed_from_abs w64 (a +ℤ b) (omega (arith, small)), held_in_64 (a +ℤ b) small)

-- one more number of an array has a property of its place
pub filled_below : (P : ℕ → ℤ → Type 0) (s : List ℤ) (i : ℕ) (v : ℤ) → i < length s → P i v
    → ((k : ℕ) → k < i → P k (get_or s k (pos 0))) → (k : ℕ) → k < i + 1 → P k (get_or (set s i v) k (pos 0))
filled_below P s i v len p h k lt = elim (last_or_less_of k i lt) [
  | inl same ↦ subst (λ (t : ℕ). P t (get_or (set s i v) t (pos 0))) (sym same)
      (subst (P i) (sym (get_or-set_same s i v (pos 0) len)) p)
  | inr less ↦ let ne : k ≢ i = omega arith in subst (P k) (sym (get_or-set_other s i k v (pos 0) ne)) (h k less)
]

pub unfilled_above : (s olds : List ℤ) (i : ℕ) (v : ℤ)
    → ((k : ℕ) → i ≤ k → get_or s k (pos 0) ≡ get_or olds k (pos 0))
    → (k : ℕ) → i + 1 ≤ k → get_or (set s i v) k (pos 0) ≡ get_or olds k (pos 0)
unfilled_above s olds i v h k le =
    let ne : k ≢ i = omega arith in
    get_or-set_other s i k v (pos 0) ne ∙ h k (omega arith)

pub added_to_zero : (a z : ℤ) → a ≡ pos 0 → a +ℤ z ≡ z
added_to_zero a z e = omega (arith, linear, e)

-- ---- the entries of places, added

-- numbers that are sums of entries of some of the first k places that aren't fixed
pub record AreAddedRows (n : ℕ) (fixed : List Bool) (entries : List ℤ) (k : ℕ) (numbers : List ℤ) : Type 0 where
  pub small : (i : ℕ) → unsigned_abs (number_at numbers i) ≤ k * 2 ^ 45
  pub past : (i : ℕ) → n ≤ i → number_at numbers i ≡ pos 0
  pub none : (s : ℕ) → HasNoWeight n fixed entries k s → sum_over n (number_at numbers) s ≡ pos 0

pub no_row_added : (n : ℕ) (fixed : List Bool) (entries : List ℤ)
    → AreAddedRows n fixed entries 0 (replicate 16 (pos 0))
no_row_added n fixed entries = record {
  small = λ i. subst (λ (z : ℤ). unsigned_abs z ≤ 0) (sym (zeros_at 16 i)) (omega arith);
  past = λ i le. zeros_at 16 i;
  none = λ s h.
      sum_below-zero n (part (number_at (replicate 16 (pos 0))) s)
      (λ i lt. zero_either (has_player s i) (number_at (replicate 16 (pos 0)) i) (zeros_at 16 i));
}

pub row_added : (n : ℕ) (fixed : List Bool) (entries : List ℤ) (k : ℕ) (numbers longer : List ℤ)
    → flag fixed k ≡ false → ((i : ℕ) → i < n → unsigned_abs (entry_at 16 entries k i) ≤ 2 ^ 45)
    → ((i : ℕ) → i < n → number_at longer i ≡ number_at numbers i +ℤ entry_at 16 entries k i)
    → ((i : ℕ) → n ≤ i → number_at longer i ≡ number_at numbers i) → AreAddedRows n fixed entries k numbers
    → AreAddedRows n fixed entries (k + 1) longer
row_added n fixed entries k numbers longer off few sum rest before = record {
  small = λ i. elim (below_or_above i n) [
    | inl lt ↦ more (number_at numbers i) (entry_at 16 entries k i) (number_at longer i) (before.small i) (few i lt)
        (sum i lt)
    | inr le ↦ let e = ap unsigned_abs (rest i le) in let h = before.small i in omega (arith, e, h)
  ];
  past = λ i le. rest i le ∙ before.past i le;
  none = λ s h.
      sum_below-same n (part (number_at longer) s)
      (λ i. part (number_at numbers) s i +ℤ part (entry_at 16 entries k) s i)
      (λ i lt. split (has_player s i) (number_at longer i) (number_at numbers i) (entry_at 16 entries k i) (sum i lt))
      ∙ sum_below-add n (part (number_at numbers) s) (part (entry_at 16 entries k) s)
      ∙ added_to_zero _ _ (before.none s (λ j lt free. h j (omega arith) free))
      ∙ dot-vector n (entry_at 16 entries k) s ∙ h k (omega arith) off;
}
  where
    more : (a b c : ℤ) → unsigned_abs a ≤ k * 2 ^ 45 → unsigned_abs b ≤ 2 ^ 45 → c ≡ a +ℤ b
        → unsigned_abs c ≤ (k + 1) * 2 ^ 45
    more a b c ha hb e = omega (arith, ints, ha, hb, e)

    split : (b : Bool) (c x y : ℤ) → c ≡ x +ℤ y → cond b c (pos 0) ≡ cond b x (pos 0) +ℤ cond b y (pos 0)
    split true c x y e = e
    split false c x y e = refl

pub row_passed : (n : ℕ) (fixed : List Bool) (entries : List ℤ) (k : ℕ) (numbers : List ℤ)
    → AreAddedRows n fixed entries k numbers → AreAddedRows n fixed entries (k + 1) numbers
row_passed n fixed entries k numbers before = record {
  small = λ i. let h = before.small i in omega (arith, h);
  past = before.past;
  none = λ s h. before.none s (λ j lt free. h j (omega arith) free);
}
