-- A coalition with one more player, and sums over parts of a coalition.
use Rattle.std.proofs.Common.{◌≡◌, ◌≢◌, ℕ, zero, suc, ◌+◌, ◌-◌, ◌/◌, ◌^◌, ◌<◌}
use Rattle.std.proofs.Common.{◌≤◌, Bool}
use Rattle.std.proofs.Common.{true, false, not, ◌||◌, cond, ℤ, pos, ◌+ℤ◌, ◌≤ℤ◌, refl}
use Rattle.std.proofs.Common.{sym, ap}
use Rattle.std.proofs.Common.{◌∙◌, inl, inr, arith, nat_eq, if◌then◌else◌}
use Rattle.std.proofs.lemmas.Bool.{false≢true}
use Rattle.std.proofs.lemmas.Bool.Decides.{nat_tests}
use Rattle.std.proofs.lemmas.Nat.Bits.{bit_at-suc, bit_at_lowest, bit_at-lt, bit_at_above, same_from_bits}
use Rattle.std.proofs.Math.Nat.{pow-succ'}
use Rattle.std.specs.Int.{bit_at}
use Rattle.definitions.proofs.Ring.{linear}
use Rattle.definitions.proofs.Members.{has_player-singleton, has_player-singleton_other}
use Rattle.definitions.proofs.Members.{has_player-complement, sum_below-same, sum_below-add, sum_over-singleton}
use Rattle.definitions.specs.Sums.{sum_below}
use Rattle.definitions.specs.Coalitions.{has_player, singleton, grand_coalition, sum_over}
use Rattle.definitions.proofs.Cases.{below_or_above, same_or_other, zero_bit, same_bit, nat_eq-equal, nat_eq-other}

-- ---- one more player

bit_more_same : (s j : ℕ) → bit_at s j ≡ 0 → bit_at (s + 2 ^ j) j ≡ 1
bit_more_same s zero h = omega (arith, bit_at_lowest s, bit_at_lowest (s + 1))
bit_more_same s (suc j) h =
    let p = pow-succ' 2 j in
    let half : (s + 2 ^ suc j) / 2 ≡ s / 2 + 2 ^ j = omega arith in
    let ih = bit_more_same (s / 2) j (sym (bit_at-suc s j) ∙ h) in
    bit_at-suc (s + 2 ^ suc j) j ∙ ap (λ (m : ℕ). bit_at m j) half ∙ ih

bit_more_other : (s j i : ℕ) → bit_at s j ≡ 0 → i ≢ j → bit_at (s + 2 ^ j) i ≡ bit_at s i
bit_more_other s zero zero h ne = absurd (ne refl)
bit_more_other s zero (suc i) h ne =
    let low = bit_at_lowest s in
    let half : (s + 1) / 2 ≡ s / 2 = omega arith in
    bit_at-suc (s + 1) i ∙ ap (λ (m : ℕ). bit_at m i) half ∙ sym (bit_at-suc s i)
bit_more_other s (suc j) zero h ne =
    let p = pow-succ' 2 j in omega (arith, bit_at_lowest s, bit_at_lowest (s + 2 ^ suc j))
bit_more_other s (suc j) (suc i) h ne =
    let p = pow-succ' 2 j in
    let half : (s + 2 ^ suc j) / 2 ≡ s / 2 + 2 ^ j = omega arith in
    let ih = bit_more_other (s / 2) j i (sym (bit_at-suc s j) ∙ h) (λ e. ne (ap suc e)) in
    bit_at-suc (s + 2 ^ suc j) i ∙ ap (λ (m : ℕ). bit_at m i) half ∙ ih ∙ sym (bit_at-suc s i)

pub bit_zero : (s i : ℕ) → has_player s i ≡ false → bit_at s i ≡ 0
bit_zero s i e = zero_bit (bit_at s i) (bit_at-lt s i) e

pub has_player-more_same : (s j : ℕ) → has_player s j ≡ false → has_player (s + 2 ^ j) j ≡ true
has_player-more_same s j h = is_one (bit_at (s + 2 ^ j) j) (bit_more_same s j (bit_zero s j h))
  where
    is_one : (b : ℕ) → b ≡ 1 → nat_eq b 1 ≡ true
    is_one b e = grind (arith, nat_tests)

pub has_player-more_other : (s j i : ℕ) → has_player s j ≡ false → i ≢ j → has_player (s + 2 ^ j) i ≡ has_player s i
has_player-more_other s j i h ne = ap (λ (b : ℕ). nat_eq b 1) (bit_more_other s j i (bit_zero s j h) ne)

bit_more_lt : (n s j : ℕ) → s < 2 ^ n → j < n → bit_at s j ≡ 0 → s + 2 ^ j < 2 ^ n
bit_more_lt zero s j lt k h = absurd (omega arith)
bit_more_lt (suc n) s zero lt k h = let p = pow-succ' 2 n in omega (arith, bit_at_lowest s)
bit_more_lt (suc n) s (suc j) lt k h =
    let p = pow-succ' 2 n in
    let q = pow-succ' 2 j in
    let ih = bit_more_lt n (s / 2) j (omega arith) (omega arith) (sym (bit_at-suc s j) ∙ h) in
    omega (arith, ih)

pub more-lt : (n s j : ℕ) → s < 2 ^ n → j < n → has_player s j ≡ false → s + 2 ^ j < 2 ^ n
more-lt n s j lt k h = bit_more_lt n s j lt k (bit_zero s j h)

-- coalitions of the same players are the same
pub same_coalition : (s t : ℕ) → ((i : ℕ) → has_player s i ≡ has_player t i) → s ≡ t
same_coalition s t h =
    same_from_bits s t (λ i. same_bit (bit_at s i) (bit_at t i) (bit_at-lt s i) (bit_at-lt t i) (h i))

-- the coalition with one player more, by its players
pub more-is : (s i r : ℕ) → has_player s i ≡ false → ((j : ℕ) → has_player r j ≡ (nat_eq j i || has_player s j))
    → r ≡ s + 2 ^ i
more-is s i r lacks h = same_coalition r (s + 2 ^ i) (λ j. elim (same_or_other j i) [
  | inl same ↦ h j
      ∙ rw (nat_eq-equal j i same) (sym (ap (has_player (s + 2 ^ i)) same ∙ has_player-more_same s i lacks))
  | inr other ↦ h j ∙ rw (nat_eq-other j i other) (sym (has_player-more_other s i j lacks other))
])

-- nobody past the last player
pub has_player-past : (n s i : ℕ) → s < 2 ^ n → n ≤ i → has_player s i ≡ false
has_player-past n s i h k = grind (arith, nat_tests, bit_at_above s n i h k)

pub has_player-within : (n s i : ℕ) → s < 2 ^ n → has_player s i ≡ true → i < n
has_player-within n s i within has = elim (below_or_above i n) [
  | inl less ↦ less
  | inr past ↦ absurd (false≢true (sym (has_player-past n s i within past) ∙ has))
]

-- all but one
pub others_has : (n k i : ℕ) → singleton k < 2 ^ n → i < n → i ≢ k
    → has_player (grand_coalition n - singleton k) i ≡ true
others_has n k i lt h ne = has_player-complement n (singleton k) i lt h ∙ ap not (has_player-singleton_other k i ne)

pub others_lacks : (n k : ℕ) → singleton k < 2 ^ n → k < n → has_player (grand_coalition n - singleton k) k ≡ false
others_lacks n k lt h = has_player-complement n (singleton k) k lt h ∙ ap not (has_player-singleton k)

-- ---- sums

pub sum_below-le : (n : ℕ) (f g : ℕ → ℤ) → ((i : ℕ) → i < n → f i ≤ℤ g i) → sum_below n f ≤ℤ sum_below n g
sum_below-le zero f g h = omega (arith, linear)
sum_below-le (suc n) f g h =
    omega (arith, linear, sum_below-le n f g (λ i k. h i (omega arith)), h n (omega arith))

-- the number of player i counts where it is a member
abbrev pub part : (ℕ → ℤ) → ℕ → ℕ → ℤ
part a s i = if has_player s i then a i else pos 0

pub sum_over-more : (n s j : ℕ) (a : ℕ → ℤ) → j < n → has_player s j ≡ false
    → sum_over n a (s + 2 ^ j) ≡ sum_over n a s +ℤ a j
sum_over-more n s j a k h =
    sum_below-same n (part a (s + 2 ^ j)) (λ i. part a s i +ℤ part a (singleton j) i) here
    ∙ sum_below-add n (part a s) (part a (singleton j))
    ∙ ap (λ (z : ℤ). sum_over n a s +ℤ z) (sum_over-singleton n j a k)
  where
    new : (i : ℕ) → i ≡ j → part a (s + 2 ^ j) i ≡ part a s i +ℤ part a (singleton j) i
    new i e = rw e (rw (has_player-more_same s j h, h, has_player-singleton j) (omega (arith, linear)))

    old : (i : ℕ) → i ≢ j → part a (s + 2 ^ j) i ≡ part a s i +ℤ part a (singleton j) i
    old i ne = rw (has_player-more_other s j i h ne, has_player-singleton_other j i ne) (omega (arith, linear))

    here : (i : ℕ) → i < n → part a (s + 2 ^ j) i ≡ part a s i +ℤ part a (singleton j) i
    here i lt = elim (same_or_other i j) [ inl e ↦ new i e | inr ne ↦ old i ne ]

-- where no number is positive and s lies within t, t has no more than s
part_le : (b c : Bool) (z : ℤ) → z ≤ℤ pos 0 → (b ≡ true → c ≡ true) → cond c z (pos 0) ≤ℤ cond b z (pos 0)
part_le true true z low h = omega (arith, linear)
part_le true false z low h = absurd (false≢true (h refl))
part_le false true z low h = low
part_le false false z low h = omega (arith, linear)

pub sum_over-within : (n s t : ℕ) (a : ℕ → ℤ) → ((i : ℕ) → i < n → a i ≤ℤ pos 0)
    → ((i : ℕ) → i < n → has_player s i ≡ true → has_player t i ≡ true) → sum_over n a t ≤ℤ sum_over n a s
sum_over-within n s t a low h =
    sum_below-le n (part a t) (part a s) (λ i k. part_le (has_player s i) (has_player t i) (a i) (low i k) (h i k))

-- the same beside a player of t that s lacks
pub sum_over-within_but : (n s t j : ℕ) (a : ℕ → ℤ) → ((i : ℕ) → i < n → a i ≤ℤ pos 0)
    → ((i : ℕ) → i < n → has_player s i ≡ true → has_player t i ≡ true) → j < n → has_player s j ≡ false
    → has_player t j ≡ true → sum_over n a t ≤ℤ (sum_over n a s +ℤ a j)
sum_over-within_but n s t j a low h k lacks has =
    let le = sum_below-le n (part a t) (λ i. part a s i +ℤ part a (singleton j) i) here in
    let both = sum_below-add n (part a s) (part a (singleton j)) in
    omega (arith, linear, le, both, sum_over-singleton n j a k)
  where
    missing : (i : ℕ) → i ≡ j → part a t i ≤ℤ (part a s i +ℤ part a (singleton j) i)
    missing i e = rw e (rw (lacks, has_player-singleton j, has) (omega (arith, linear)))

    kept : (i : ℕ) → i < n → i ≢ j → part a t i ≤ℤ (part a s i +ℤ part a (singleton j) i)
    kept i lt ne =
        let le = part_le (has_player s i) (has_player t i) (a i) (low i lt) (h i lt) in
        rw (has_player-singleton_other j i ne) (omega (arith, linear, le))

    here : (i : ℕ) → i < n → part a t i ≤ℤ (part a s i +ℤ part a (singleton j) i)
    here i lt = elim (same_or_other i j) [ inl e ↦ missing i e | inr ne ↦ kept i lt ne ]
