-- Coalitions without the last player and with it, and with one player more: their members, how many they are, and
-- sums over all coalitions.
--
--   size_below n s   how many players below n are members of s
use Rattle.std.proofs.Common.{◌≡◌, ℕ, zero, suc, ◌+◌, ◌-◌, ◌*◌, ◌^◌, ◌<◌, ◌≤◌}
use Rattle.std.proofs.Common.{true, false, ◌||◌, length, nat_eq}
use Rattle.std.proofs.Common.{ℤ, pos, ◌+ℤ◌, refl, sym, ap, ◌∙◌, inl, inr, arith}
use Rattle.std.proofs.Common.{if◌then◌else◌}
use Rattle.std.proofs.lemmas.Bool.Decides.{nat_tests}
use Rattle.std.proofs.lemmas.Nat.Bits.{bit_at_cat_low, bit_at_cat_high}
use Rattle.std.proofs.Math.Nat.{pow-suc, le_refl}
use Rattle.std.specs.Int.{bit_at}
use Rattle.definitions.proofs.Cases.{less_or_last, same_or_other, true_or_false, nat_eq-same, nat_eq-other}
use Rattle.definitions.proofs.Ring.{linear}
use Rattle.definitions.proofs.Members.{members-zero, sum_below-same, sum_below-add, sum_below-split}
use Rattle.definitions.proofs.Sizes.{length-more_yes, length-more_no, length-few}
use Rattle.definitions.proofs.Parts.{has_player-past, has_player-more_same, has_player-more_other}
use Rattle.definitions.specs.Sums.{sum_below}
use Rattle.definitions.specs.Coalitions.{has_player, members}

-- ---- the last player, and one player more

pub has_player-last : (n s : ℕ) → s < 2 ^ n → has_player s n ≡ false
has_player-last n s h = has_player-past n s n h (le_refl n)

pub has_player-upper : (n s : ℕ) → s < 2 ^ n → has_player (2 ^ n + s) n ≡ true
has_player-upper n s h = top_bit_is_one (bit_at_cat_high 1 n s n h (le_refl n))
  where
    top_bit_is_one : bit_at (1 * 2 ^ n + s) n ≡ bit_at 1 (n - n) → nat_eq (bit_at (2 ^ n + s) n) 1 ≡ true
    top_bit_is_one e =
        let same : 1 * 2 ^ n + s ≡ 2 ^ n + s = omega arith in
        let low : n - n ≡ 0 = omega arith in
        let one : bit_at (2 ^ n + s) n ≡ 1 =
        ap (λ (k : ℕ). bit_at k n) (sym same) ∙ e ∙ ap (λ (k : ℕ). bit_at 1 k) low in
        grind (arith, nat_tests, one)

pub has_player-lower : (n s i : ℕ) → i < n → has_player (2 ^ n + s) i ≡ has_player s i
has_player-lower n s i h =
    let same : 2 ^ n + s ≡ 1 * 2 ^ n + s = omega arith in
    ap (λ (k : ℕ). has_player k i) same ∙ ap (λ (b : ℕ). nat_eq b 1) (bit_at_cat_low 1 n s i h)

pub has_player-plus : (s i j : ℕ) → has_player s i ≡ false
    → has_player (s + 2 ^ i) j ≡ (nat_eq j i || has_player s j)
has_player-plus s i j h = elim (same_or_other j i) [
  | inl same ↦ rw (same, has_player-more_same s i h, nat_eq-same i) refl
  | inr other ↦ rw (has_player-more_other s i j h other, nat_eq-other j i other) refl
]

-- ---- how many members

-- how many players below n are members of s
abbrev pub size_below : ℕ → ℕ → ℕ
size_below n s = length (members n s)

pub size_below-zero : (s : ℕ) → size_below 0 s ≡ 0
size_below-zero s = ap length (members-zero s)

pub size_below-yes : (n s : ℕ) → has_player s n ≡ true → size_below (suc n) s ≡ suc (size_below n s)
size_below-yes n s h =
    let next : suc n ≡ n + 1 = omega arith in
    rw next (omega (arith, length-more_yes n s h))

pub size_below-no : (n s : ℕ) → has_player s n ≡ false → size_below (suc n) s ≡ size_below n s
size_below-no n s h =
    let next : suc n ≡ n + 1 = omega arith in
    rw next (length-more_no n s h)

pub size_below-most : (n s : ℕ) → size_below n s ≤ n
size_below-most n s = length-few n s

-- the members below n alone count
pub size_below-same : (n s t : ℕ) → ((i : ℕ) → i < n → has_player s i ≡ has_player t i)
    → size_below n s ≡ size_below n t
size_below-same zero s t h = size_below-zero s ∙ sym (size_below-zero t)
size_below-same (suc n) s t h =
    let ih = size_below-same n s t (λ i lt. h i (omega arith)) in
    let here = h n (omega arith) in
    elim (true_or_false (has_player t n)) [
      | inl inside ↦ size_below-yes n s (here ∙ inside) ∙ ap suc ih ∙ sym (size_below-yes n t inside)
      | inr outside ↦ size_below-no n s (here ∙ outside) ∙ ih ∙ sym (size_below-no n t outside)
    ]

pub size_below-without : (n s : ℕ) → s < 2 ^ n → size_below (suc n) s ≡ size_below n s
size_below-without n s h = size_below-no n s (has_player-last n s h)

pub size_below-with : (n s : ℕ) → s < 2 ^ n → size_below (suc n) (2 ^ n + s) ≡ suc (size_below n s)
size_below-with n s h =
    size_below-yes n (2 ^ n + s) (has_player-upper n s h)
    ∙ ap suc (size_below-same n (2 ^ n + s) s (has_player-lower n s))

pub size_below-more : (n i s : ℕ) → i < n → has_player s i ≡ false → size_below n (s + 2 ^ i) ≡ suc (size_below n s)
size_below-more zero i s h e = absurd (omega arith)
size_below-more (suc n) i s h e = elim (less_or_last i n h) [
  | inl less ↦ others (size_below-more n i s less e) (has_player-more_other s i n e (λ same. omega arith))
  | inr same ↦ rw same (itself n (ap (has_player s) (sym same) ∙ e))
]
  where
    others : size_below n (s + 2 ^ i) ≡ suc (size_below n s) → has_player (s + 2 ^ i) n ≡ has_player s n
        → size_below (suc n) (s + 2 ^ i) ≡ suc (size_below (suc n) s)
    others ih here = elim (true_or_false (has_player s n)) [
      | inl inside ↦ size_below-yes n (s + 2 ^ i) (here ∙ inside) ∙ ap suc (ih ∙ sym (size_below-yes n s inside))
      | inr outside ↦ size_below-no n (s + 2 ^ i) (here ∙ outside) ∙ ih ∙ ap suc (sym (size_below-no n s outside))
    ]

    itself : (n : ℕ) → has_player s n ≡ false → size_below (suc n) (s + 2 ^ n) ≡ suc (size_below (suc n) s)
    itself n out =
        size_below-yes n (s + 2 ^ n) (has_player-more_same s n out)
        ∙ ap suc
        (size_below-same n (s + 2 ^ n) s (λ j lt. has_player-more_other s n j out (λ same. omega arith))
        ∙ sym (size_below-no n s out))

pub size_below-some : (n i s : ℕ) → i < n → has_player s i ≡ true → 1 ≤ size_below n s
size_below-some zero i s h e = absurd (omega arith)
size_below-some (suc n) i s h e = elim (less_or_last i n h) [
  | inl less ↦ others (size_below-some n i s less e)
  | inr same ↦ omega (arith, size_below-yes n s (ap (has_player s) (sym same) ∙ e))
]
  where
    others : 1 ≤ size_below n s → 1 ≤ size_below (suc n) s
    others ih = elim (true_or_false (has_player s n)) [
      | inl inside ↦ omega (arith, size_below-yes n s inside)
      | inr outside ↦ omega (arith, size_below-no n s outside, ih)
    ]

pub size_below-less : (n i s : ℕ) → i < n → has_player s i ≡ false → size_below n s < n
size_below-less n i s h e = omega (arith, size_below-more n i s h e, size_below-most n (s + 2 ^ i))

-- ---- sums over all coalitions

-- those without the last player, and those with it
pub sum_below-halves : (n : ℕ) (f : ℕ → ℤ) → sum_below (2 ^ suc n) f ≡ sum_below (2 ^ n) (λ s. f s +ℤ f (2 ^ n + s))
sum_below-halves n f =
    let twice : 2 ^ suc n ≡ 2 ^ n + 2 ^ n = pow-suc 2 n ∙ omega arith in
    ap (λ (k : ℕ). sum_below k f) twice ∙ sum_below-split (2 ^ n) (2 ^ n) f
    ∙ sym (sum_below-add (2 ^ n) f (λ s. f (2 ^ n + s)))

-- what is said of a coalition with player i, at the coalition without it
abbrev pub gained : (ℕ → ℤ) → ℕ → ℕ → ℤ
gained f i s = if has_player s i then pos 0 else f (s + 2 ^ i)

-- the same at the coalition itself
abbrev pub held : (ℕ → ℤ) → ℕ → ℕ → ℤ
held f i s = if has_player s i then f s else pos 0

gained-upper : (f : ℕ → ℤ) (n i s : ℕ) → i < n → gained f i (2 ^ n + s) ≡ gained (λ t. f (2 ^ n + t)) i s
gained-upper f n i s h =
    let moved : 2 ^ n + s + 2 ^ i ≡ 2 ^ n + (s + 2 ^ i) = omega arith in
    rw (has_player-lower n s i h, moved) refl

held-upper : (f : ℕ → ℤ) (n i s : ℕ) → i < n → held f i (2 ^ n + s) ≡ held (λ t. f (2 ^ n + t)) i s
held-upper f n i s h = rw (has_player-lower n s i h) refl

last_gained : (f : ℕ → ℤ) (n s : ℕ) → s < 2 ^ n
    → gained f n s +ℤ gained f n (2 ^ n + s) ≡ held f n s +ℤ held f n (2 ^ n + s)
last_gained f n s h =
    let moved : s + 2 ^ n ≡ 2 ^ n + s = omega arith in
    rw (has_player-last n s h, has_player-upper n s h, moved) (omega (arith, linear))

-- a sum over the coalitions that gain a player is a sum over those that hold it
pub sum_below-moved : (n i : ℕ) (f : ℕ → ℤ) → i < n → sum_below (2 ^ n) (gained f i) ≡ sum_below (2 ^ n) (held f i)
sum_below-moved zero i f h = absurd (omega arith)
sum_below-moved (suc n) i f h = elim (less_or_last i n h) [
  | inl less ↦ from_both_halves less (sum_below-moved n i f less) (sum_below-moved n i (λ t. f (2 ^ n + t)) less)
  | inr same ↦ rw same (itself n)
]
  where
    from_both_halves : i < n → sum_below (2 ^ n) (gained f i) ≡ sum_below (2 ^ n) (held f i)
        → sum_below (2 ^ n) (gained (λ t. f (2 ^ n + t)) i) ≡ sum_below (2 ^ n) (held (λ t. f (2 ^ n + t)) i)
        → sum_below (2 ^ suc n) (gained f i) ≡ sum_below (2 ^ suc n) (held f i)
    from_both_halves less low high =
        let a = sum_below-halves n (gained f i) in
        let b = sum_below-add (2 ^ n) (gained f i) (λ s. gained f i (2 ^ n + s)) in
        let c =
        sum_below-same (2 ^ n) (λ s. gained f i (2 ^ n + s)) (gained (λ t. f (2 ^ n + t)) i)
        (λ s k. gained-upper f n i s less) in
        let d = sum_below-halves n (held f i) in
        let e = sum_below-add (2 ^ n) (held f i) (λ s. held f i (2 ^ n + s)) in
        let g =
        sum_below-same (2 ^ n) (λ s. held f i (2 ^ n + s)) (held (λ t. f (2 ^ n + t)) i)
        (λ s k. held-upper f n i s less) in
        omega (arith, linear, a, b, c, d, e, g, low, high)

    itself : (n : ℕ) → sum_below (2 ^ suc n) (gained f n) ≡ sum_below (2 ^ suc n) (held f n)
    itself n =
        sum_below-halves n (gained f n)
        ∙ sum_below-same (2 ^ n) (λ s. gained f n s +ℤ gained f n (2 ^ n + s))
        (λ s. held f n s +ℤ held f n (2 ^ n + s)) (λ s k. last_gained f n s k)
        ∙ sym (sum_below-halves n (held f n))
