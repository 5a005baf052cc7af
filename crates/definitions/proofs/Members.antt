-- Members of coalitions, and sums over them.
use Rattle.std.proofs.Common.{◌≡◌, ◌≢◌, ℕ, zero, suc, ◌+◌, ◌-◌, ◌*◌, ◌/◌, ◌^◌}
use Rattle.std.proofs.Common.{◌<◌, ◌≤◌, Bool, true, false}
use Rattle.std.proofs.Common.{not, cond, List, [], ◌∷◌, ◌++◌, add-one, ℤ, pos, ◌+ℤ◌}
use Rattle.std.proofs.Common.{◌-ℤ◌, ◌*ℤ◌, ◌≤ℤ◌, refl}
use Rattle.std.proofs.Common.{sym, ap, ◌∙◌, inl, inr, arith, nat_eq, if◌then◌else◌}
use Rattle.std.proofs.lemmas.Bool.Decides.{nat_tests}
use Rattle.std.proofs.lemmas.Nat.Bits.{bit_at-suc, bit_at-zero, bit_at-pow_same}
use Rattle.std.proofs.lemmas.Nat.Bits.{bit_at-pow_other, bit_at_ones, bit_at_lowest}
use Rattle.std.proofs.Math.Nat.{pow-suc, mul_comm, le_refl}
use Rattle.std.specs.Int.{bit_at}
use Rattle.std.specs.List.{AllByRecursion}
use Rattle.definitions.proofs.Ring.{linear, add-mulℤ, mul-addℤ, mul-zeroℤ, zero-mulℤ, mul-oneℤ}
use Rattle.definitions.specs.Sums.{sum_below, weighted_sum}
use Rattle.definitions.specs.Coalitions.{has_player, singleton, grand_coalition, sum_over, weight_at, members}
use Rattle.definitions.proofs.Cases.{less_or_last}

-- ---- bits

pub has_player-empty : (i : ℕ) → has_player 0 i ≡ false
has_player-empty i = grind (arith, nat_tests, bit_at-zero i)

pub has_player-singleton : (i : ℕ) → has_player (singleton i) i ≡ true
has_player-singleton i = grind (arith, nat_tests, bit_at-pow_same i)

pub has_player-singleton_other : (k i : ℕ) → i ≢ k → has_player (singleton k) i ≡ false
has_player-singleton_other k i ne = grind (arith, nat_tests, bit_at-pow_other k i ne)

pub has_player-grand_coalition : (n i : ℕ) → i < n → has_player (grand_coalition n) i ≡ true
has_player-grand_coalition n i h = grind (arith, nat_tests, bit_at_ones n i h)

bit_at-complement : (n s i : ℕ) → s < 2 ^ n → i < n → bit_at (2 ^ n - 1 - s) i + bit_at s i ≡ 1
bit_at-complement zero s i h k = absurd (omega arith)
bit_at-complement (suc n) s zero h k =
    let p : 2 ^ suc n ≡ 2 * 2 ^ n = pow-suc 2 n ∙ mul_comm (2 ^ n) 2 in
    let a = bit_at_lowest (2 ^ suc n - 1 - s) in
    let b = bit_at_lowest s in
    omega (arith, a, b)
bit_at-complement (suc n) s (suc i) h k =
    let p : 2 ^ suc n ≡ 2 * 2 ^ n = pow-suc 2 n ∙ mul_comm (2 ^ n) 2 in
    let half : (2 ^ suc n - 1 - s) / 2 ≡ 2 ^ n - 1 - s / 2 = omega arith in
    let ih = bit_at-complement n (s / 2) i (omega arith) (omega arith) in
    let a = bit_at-suc (2 ^ suc n - 1 - s) i in
    let b = bit_at-suc s i in
    let c : bit_at ((2 ^ suc n - 1 - s) / 2) i ≡ bit_at (2 ^ n - 1 - s / 2) i = ap (λ (m : ℕ). bit_at m i) half in
    omega (arith, a, b, c, ih)

pub has_player-complement : (n s i : ℕ) → s < 2 ^ n → i < n
    → has_player (grand_coalition n - s) i ≡ not (has_player s i)
has_player-complement n s i h k = opposite (bit_at (2 ^ n - 1 - s) i) (bit_at s i) (bit_at-complement n s i h k)
  where
    opposite : (a b : ℕ) → a + b ≡ 1 → nat_eq a 1 ≡ not (nat_eq b 1)
    opposite a b e = grind (arith, nat_tests)

-- ---- numbers at members alone

pub times_bit : (b : Bool) (z : ℤ) → z *ℤ cond b (pos 1) (pos 0) ≡ cond b z (pos 0)
times_bit true z = mul-oneℤ z
times_bit false z = mul-zeroℤ z

pub scaled_either : (b : Bool) (m z : ℤ) → cond b m (pos 0) *ℤ z ≡ m *ℤ cond b z (pos 0)
scaled_either true m z = refl
scaled_either false m z = zero-mulℤ z ∙ sym (mul-zeroℤ m)

pub zero_either : (b : Bool) (z : ℤ) → z ≡ pos 0 → cond b z (pos 0) ≡ pos 0
zero_either true z e = e
zero_either false z e = refl

-- ---- sums

pub sum_below-same : (n : ℕ) (f g : ℕ → ℤ) → ((i : ℕ) → i < n → f i ≡ g i) → sum_below n f ≡ sum_below n g
sum_below-same zero f g h = refl
sum_below-same (suc n) f g h =
    let e = sum_below-same n f g (λ i k. h i (omega arith)) in
    let here = h n (omega arith) in
    cc

pub sum_below-zero : (n : ℕ) (f : ℕ → ℤ) → ((i : ℕ) → i < n → f i ≡ pos 0) → sum_below n f ≡ pos 0
sum_below-zero zero f h = refl
sum_below-zero (suc n) f h = omega (arith, linear, sum_below-zero n f (λ i k. h i (omega arith)), h n (omega arith))

pub sum_below-add : (n : ℕ) (f g : ℕ → ℤ) → sum_below n (λ i. f i +ℤ g i) ≡ sum_below n f +ℤ sum_below n g
sum_below-add zero f g = refl
sum_below-add (suc n) f g = omega (arith, linear, sum_below-add n f g)

pub sum_below-times : (n : ℕ) (f : ℕ → ℤ) (c : ℤ) → sum_below n (λ i. c *ℤ f i) ≡ c *ℤ sum_below n f
sum_below-times zero f c = sym (mul-zeroℤ c)
sum_below-times (suc n) f c = omega (arith, linear, sum_below-times n f c, mul-addℤ c (sum_below n f) (f n))

-- a combination of two shares of each player
pub sum_below-split : (n j : ℕ) (f : ℕ → ℤ) → sum_below (n + j) f ≡ sum_below n f +ℤ sum_below j (λ k. f (n + k))
sum_below-split n zero f = let e : n + 0 ≡ n = omega arith in rw e (omega (arith, linear))
sum_below-split n (suc j) f =
    let e : n + suc j ≡ suc (n + j) = omega arith in
    rw e (omega (arith, linear, sum_below-split n j f))

pub sum_below-front : (n : ℕ) (f : ℕ → ℤ) → sum_below (suc n) f ≡ f 0 +ℤ sum_below n (λ i. f (suc i))
sum_below-front zero f = omega (arith, linear)
sum_below-front (suc n) f = let ih = sum_below-front n f in omega (arith, linear, ih)

pub sum_below-nonnegative : (n : ℕ) (f : ℕ → ℤ) → ((i : ℕ) → i < n → pos 0 ≤ℤ f i) → pos 0 ≤ℤ sum_below n f
sum_below-nonnegative zero f low = omega (arith, linear)
sum_below-nonnegative (suc n) f low =
    omega (arith, linear, sum_below-nonnegative n f (λ i h. low i (omega arith)), low n (omega arith))

pub sum_over-nonnegative : (n s : ℕ) (f : ℕ → ℤ) → ((i : ℕ) → i < n → pos 0 ≤ℤ f i) → pos 0 ≤ℤ sum_over n f s
sum_over-nonnegative zero s f low = omega (arith, linear)
sum_over-nonnegative (suc n) s f low =
    let ih = sum_over-nonnegative n s f (λ i h. low i (omega arith)) in
    let here = low n (omega arith) in
    let step : (b : Bool) → pos 0 ≤ℤ (sum_over n f s +ℤ cond b (f n) (pos 0)) =
    elim [ true ↦ omega (arith, linear) | false ↦ omega (arith, linear) ] in
    step (has_player s n)

pub weight_at-append : (ps qs : List (ℕ × ℤ)) (i : ℕ) → weight_at (ps ++ qs) i ≡ weight_at ps i +ℤ weight_at qs i
weight_at-append [] qs i = omega (arith, linear)
weight_at-append (p ∷ ps) qs i = omega (arith, linear, weight_at-append ps qs i)

pub sum_over-combined : (n : ℕ) (a b : ℕ → ℤ) (p q : ℤ) (s : ℕ)
    → sum_over n (λ i. p *ℤ a i -ℤ q *ℤ b i) s ≡ p *ℤ sum_over n a s -ℤ q *ℤ sum_over n b s
sum_over-combined zero a b p q s = omega (arith, linear, mul-zeroℤ p, mul-zeroℤ q)
sum_over-combined (suc n) a b p q s =
    let ih = sum_over-combined n a b p q s in
    let step : (t : Bool)
    → sum_over n (λ i. p *ℤ a i -ℤ q *ℤ b i) s +ℤ cond t (p *ℤ a n -ℤ q *ℤ b n) (pos 0)
    ≡ p *ℤ (sum_over n a s +ℤ cond t (a n) (pos 0)) -ℤ q *ℤ (sum_over n b s +ℤ cond t (b n) (pos 0)) = elim [
      | true ↦ omega (arith, linear, ih, mul-addℤ p (sum_over n a s) (a n), mul-addℤ q (sum_over n b s) (b n))
      | false ↦ omega (
        arith,
        linear,
        ih,
        mul-addℤ p (sum_over n a s) (pos 0),
        mul-addℤ q (sum_over n b s) (pos 0),
        mul-zeroℤ p,
        mul-zeroℤ q,
      )
    ] in
    step (has_player s n)

pub sum_over-grand_coalition : (n : ℕ) (a : ℕ → ℤ) → sum_over n a (grand_coalition n) ≡ sum_below n a
sum_over-grand_coalition n a =
    sum_below-same n (λ i. if has_player (grand_coalition n) i then a i else pos 0) a
    (λ i h. rw (has_player-grand_coalition n i h) refl)

sum_over-apart : (n k : ℕ) (a : ℕ → ℤ) → n ≤ k → sum_over n a (singleton k) ≡ pos 0
sum_over-apart n k a h =
    sum_below-zero n (λ i. if has_player (singleton k) i then a i else pos 0)
    (λ i lt. rw (has_player-singleton_other k i (ne i lt)) refl)
  where
    ne : (i : ℕ) → i < n → i ≢ k
    ne i lt e = omega arith

pub sum_over-singleton : (n k : ℕ) (a : ℕ → ℤ) → k < n → sum_over n a (singleton k) ≡ a k
sum_over-singleton zero k a h = absurd (omega arith)
sum_over-singleton (suc n) k a h = elim (less_or_last k n h) [
  | inl less ↦ rw (has_player-singleton_other k n (λ e. omega arith))
      (omega (arith, linear, sum_over-singleton n k a less))
  | inr same ↦ rw (sym same) (rw (has_player-singleton k) (omega (arith, linear, sum_over-apart k k a (le_refl k))))
]

pub sum_over-complement : (n s : ℕ) (a : ℕ → ℤ) → s < 2 ^ n
    → sum_over n a (grand_coalition n - s) +ℤ sum_over n a s ≡ sum_below n a
sum_over-complement n s a h =
    sym
    (sum_below-add n (λ i. if has_player (grand_coalition n - s) i then a i else pos 0)
    (λ i. if has_player s i then a i else pos 0))
    ∙ sum_below-same n
    (λ i. (if has_player (grand_coalition n - s) i then a i else pos 0)
    +ℤ (if has_player s i then a i else pos 0)) a here
  where
    one_of : (b : Bool) (z : ℤ) → cond (not b) z (pos 0) +ℤ cond b z (pos 0) ≡ z
    one_of true z = omega (arith, linear)
    one_of false z = omega (arith, linear)

    here : (i : ℕ) → i < n
        → (if has_player (grand_coalition n - s) i then a i else pos 0) +ℤ (if has_player s i then a i else pos 0)
        ≡ a i
    here i k = rw (has_player-complement n s i h k) (one_of (has_player s i) (a i))

-- ---- the exchange of the two sums

pub weighted_sum-add : (f g : ℕ → ℤ) (ps : List (ℕ × ℤ))
    → weighted_sum (λ s. f s +ℤ g s) ps ≡ weighted_sum f ps +ℤ weighted_sum g ps
weighted_sum-add f g [] = refl
weighted_sum-add f g (p ∷ ps) = omega (arith, linear, weighted_sum-add f g ps, mul-addℤ p.1 (f p.0) (g p.0))

weighted_sum-one : (n : ℕ) (a : ℤ) (ps : List (ℕ × ℤ))
    → weighted_sum (λ s. if has_player s n then a else pos 0) ps ≡ weight_at ps n *ℤ a
weighted_sum-one n a [] = sym (zero-mulℤ a)
weighted_sum-one n a (p ∷ ps) =
    let ih = weighted_sum-one n a ps in
    let step : (b : Bool)
    → p.1 *ℤ cond b a (pos 0) +ℤ weighted_sum (λ s. if has_player s n then a else pos 0) ps
    ≡ (cond b p.1 (pos 0) +ℤ weight_at ps n) *ℤ a = elim [
      | true ↦ omega (arith, linear, ih, add-mulℤ p.1 (weight_at ps n) a)
      | false ↦ omega (arith, linear, ih, mul-zeroℤ p.1, add-mulℤ (pos 0) (weight_at ps n) a, zero-mulℤ a)
    ] in
    step (has_player p.0 n)

pub weighted_sum-zero : (ps : List (ℕ × ℤ)) → weighted_sum (λ s. pos 0) ps ≡ pos 0
weighted_sum-zero [] = refl
weighted_sum-zero (p ∷ ps) = omega (arith, linear, weighted_sum-zero ps, mul-zeroℤ p.1)

pub weighted_sum-zero_terms : (f : ℕ → ℤ) (ps : List (ℕ × ℤ)) → AllByRecursion (λ p. f p.0 ≡ pos 0) ps
    → weighted_sum f ps ≡ pos 0
weighted_sum-zero_terms f [] h = refl
weighted_sum-zero_terms f (p ∷ ps) h =
    omega (arith, linear, weighted_sum-zero_terms f ps h.1, ap (λ z. p.1 *ℤ z) h.0, mul-zeroℤ p.1)

-- the weighted sum of what coalitions have is the sum of what players have, times the weights at each player
pub weighted_sum-sum_over : (n : ℕ) (a : ℕ → ℤ) (ps : List (ℕ × ℤ))
    → weighted_sum (λ s. sum_over n a s) ps ≡ sum_below n (λ i. weight_at ps i *ℤ a i)
weighted_sum-sum_over zero a ps = weighted_sum-zero ps
weighted_sum-sum_over (suc n) a ps =
    omega (
      arith,
      linear,
      weighted_sum-add (λ s. sum_over n a s) (λ s. if has_player s n then a n else pos 0) ps,
      weighted_sum-sum_over n a ps,
      weighted_sum-one n (a n) ps,
    )

-- ---- lists of members

pub members-zero : (s : ℕ) → members 0 s ≡ []
unfolding members
members-zero s = refl

pub members-more_yes : (n s : ℕ) → has_player s n ≡ true → members (n + 1) s ≡ members n s ++ n ∷ []
unfolding members
members-more_yes n s h = rw (add-one, h) refl

pub members-more_no : (n s : ℕ) → has_player s n ≡ false → members (n + 1) s ≡ members n s
unfolding members
members-more_no n s h = rw (add-one, h) refl
