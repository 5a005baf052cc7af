-- The total of a player, by the coalitions without it and without another player: who adds no less has no less, and
-- so players that a game doesn't tell apart have the same.
--
-- A sum over coalitions is one over those without j, of s and of s with j. There the terms of i and j compare one by
-- one, so no list is permuted.
use Rattle.std.proofs.Common.{◌≡◌, ◌≢◌, ℕ, ◌+◌, ◌^◌, ◌<◌, Bool, false, cond, ℤ, pos, ◌+ℤ◌, ◌-ℤ◌, ◌*ℤ◌, ◌≤ℤ◌, refl, sym}
use Rattle.std.proofs.Common.{ap, ◌∙◌, inl, inr, arith, if◌then◌else◌}
use Rattle.std.proofs.lemmas.Int.{ints}
use Rattle.definitions.proofs.Cases.{same_or_other}
use Rattle.definitions.proofs.Halves.{size_below, size_below-more, gained, held, sum_below-moved}
use Rattle.definitions.proofs.Members.{sum_below-same, sum_below-add}
use Rattle.definitions.proofs.Parts.{has_player-more_other, sum_below-le}
use Rattle.definitions.proofs.Ring.{linear, mul-leℤ, mul-le_cancelℤ}
use Rattle.definitions.specs.Sums.{sum_below}
use Rattle.definitions.specs.Coalitions.{has_player}
use Rattle.definitions.specs.Games.{Game, Allocation, share}
use Rattle.definitions.specs.Shapley.{shapley_total, factorial, IsShapley}
use Rattle.definitions.specs.Players.{AddsNoLess, AreInterchangeable}
use Rattle.shapley.specs.Subsets.{orders_with, subset_term, subset_total}
use Rattle.law_answers.proofs.SharesAddToAll.{factorial-positive}
use Rattle.shapley.proofs.Orders.{orders_are_subsets}
use Rattle.theorems.proofs.Products.{sorted_products}

-- what player i adds to s and to s with j, at each s without j
abbrev pub pair_term : (ℕ → ℤ) → ℕ → ℕ → ℕ → ℕ → ℤ
pair_term v n i j s = if has_player s j then pos 0 else subset_term v n i s +ℤ subset_term v n i (s + 2 ^ j)

pub by_pairs : (v : ℕ → ℤ) (n i j : ℕ) → j < n → subset_total v n i ≡ sum_below (2 ^ n) (pair_term v n i j)
by_pairs v n i j h =
    let f = subset_term v n i in
    let out = λ (s : ℕ). if has_player s j then pos 0 else f s in
    let split = sum_below-same (2 ^ n) f (λ s. out s +ℤ held f j s) (λ s lt. apart (has_player s j) (f s)) in
    let a = sum_below-add (2 ^ n) out (held f j) in
    let moved = sum_below-moved n j f h in
    let b = sum_below-add (2 ^ n) out (gained f j) in
    let join = sum_below-same (2 ^ n) (λ s. out s +ℤ gained f j s) (pair_term v n i j)
    (λ s lt. together (has_player s j) (f s) (f (s + 2 ^ j))) in
    omega (arith, linear, split, a, moved, b, join)
  where
    apart : (b : Bool) (x : ℤ) → x ≡ cond b (pos 0) x +ℤ cond b x (pos 0)
    apart b x = grind (arith, linear)

    together : (b : Bool) (x y : ℤ) → cond b (pos 0) x +ℤ cond b (pos 0) y ≡ cond b (pos 0) (x +ℤ y)
    together b x y = grind arith

module _ (g : Game) (i j : ℕ) (hi : i < g.players) (hj : j < g.players) (ne : i ≢ j) (adds : AddsNoLess g i j) where
  abbrev n : ℕ
  n = g.players

  abbrev v : ℕ → ℤ
  v = g.worth

  abbrev times : ℕ → ℤ
  times k = pos (orders_with n k)

  times-le : (k : ℕ) (y z : ℤ) → y ≤ℤ z → (times k *ℤ y) ≤ℤ (times k *ℤ z)
  times-le k y z le = mul-leℤ (times k) y z (omega (arith, ints)) le

  pairs-no_less : (s : ℕ) → s < 2 ^ n → pair_term v n j i s ≤ℤ pair_term v n i j s
  pairs-no_less s lt =
      terms_no_less (has_player s i) (has_player s j) (has_player (s + 2 ^ j) i) (has_player (s + 2 ^ i) j) _ _ _ _
      (λ out. has_player-more_other s j i out ne) (λ out. has_player-more_other s i j out (λ e. ne (sym e))) both
      refl refl
    where
      both : has_player s i ≡ false → has_player s j ≡ false
          → (times (size_below n s) *ℤ (v (s + 2 ^ j) -ℤ v s) +ℤ times (size_below n (s + 2 ^ i))
          *ℤ (v (s + 2 ^ i + 2 ^ j) -ℤ v (s + 2 ^ i)))
          ≤ℤ (times (size_below n s) *ℤ (v (s + 2 ^ i) -ℤ v s) +ℤ times (size_below n (s + 2 ^ j))
          *ℤ (v (s + 2 ^ j + 2 ^ i) -ℤ v (s + 2 ^ j)))
      both b c =
          let le = adds s lt b c in
          let turned : s + 2 ^ i + 2 ^ j ≡ s + 2 ^ j + 2 ^ i = omega arith in
          let sizes = size_below-more n i s hi b ∙ sym (size_below-more n j s hj c) in
          let first =
          times-le (size_below n s) (v (s + 2 ^ j) -ℤ v s) (v (s + 2 ^ i) -ℤ v s) (omega (arith, linear, le)) in
          let same = ap (λ k. times k *ℤ (v (s + 2 ^ i + 2 ^ j) -ℤ v (s + 2 ^ i))) sizes
          ∙ ap (λ k. times (size_below n (s + 2 ^ j)) *ℤ (v k -ℤ v (s + 2 ^ i))) turned in
          let second = times-le (size_below n (s + 2 ^ j)) (v (s + 2 ^ j + 2 ^ i) -ℤ v (s + 2 ^ i))
          (v (s + 2 ^ j + 2 ^ i) -ℤ v (s + 2 ^ j)) (omega (arith, linear, le)) in
          omega (arith, linear, first, same, second)

      terms_no_less : (b c p q : Bool) (a d e f : ℤ) → (c ≡ false → p ≡ b) → (b ≡ false → q ≡ c)
          → (has_player s i ≡ false → has_player s j ≡ false → (e +ℤ f) ≤ℤ (a +ℤ d)) → has_player s i ≡ b
          → has_player s j ≡ c
          → cond b (pos 0) (cond c (pos 0) e +ℤ cond q (pos 0) f)
          ≤ℤ cond c (pos 0) (cond b (pos 0) a +ℤ cond p (pos 0) d)
      terms_no_less b c p q a d e f h k le one two = grind (arith, linear)

  apart : shapley_total g j ≤ℤ shapley_total g i
  apart =
      let a = orders_are_subsets g j hj ∙ by_pairs v n j i hi in
      let b = orders_are_subsets g i hi ∙ by_pairs v n i j hj in
      omega (arith, linear, a, b, sum_below-le (2 ^ n) (pair_term v n j i) (pair_term v n i j) pairs-no_less)

totals-no_less : (g : Game) (i j : ℕ) → i < g.players → j < g.players → AddsNoLess g i j
    → shapley_total g j ≤ℤ shapley_total g i
totals-no_less g i j hi hj adds = elim (same_or_other i j) [
  | inl same ↦ omega (arith, linear, ap (shapley_total g) same)
  | inr ne ↦ apart g i j hi hj ne adds
]

-- each adds no less than the other
pub totals-alike : (g : Game) (i j : ℕ) → i < g.players → j < g.players → AreInterchangeable g i j
    → shapley_total g i ≡ shapley_total g j
totals-alike g i j hi hj alike =
    let a = totals-no_less g i j hi hj (λ s lt out other. omega (arith, linear, alike s lt out other)) in
    let b = totals-no_less g j i hj hi (λ s lt other out. omega (arith, linear, alike s lt out other)) in
    omega (arith, linear, a, b)

-- ---- the shares

pub adds_gets_no_less : (g : Game) (x : Allocation) (i j : ℕ) → IsShapley g x → i < g.players → j < g.players
    → AddsNoLess g i j → share x j ≤ℤ share x i
adds_gets_no_less g x i j h hi hj adds =
    let f = pos (factorial g.players) in
    let le = mul-leℤ x.den (shapley_total g j) (shapley_total g i) (omega (arith, linear, h.0.1))
    (totals-no_less g i j hi hj adds) in
    mul-le_cancelℤ f (share x j) (share x i) (factorial-positive g.players)
    (omega (sorted_products, le, h.1 i hi, h.1 j hj))

pub alike_get_alike : (g : Game) (x : Allocation) (i j : ℕ) → IsShapley g x → i < g.players → j < g.players
    → AreInterchangeable g i j → share x i ≡ share x j
alike_get_alike g x i j h hi hj alike =
    let a = adds_gets_no_less g x i j h hi hj (λ s lt out other. omega (arith, linear, alike s lt out other)) in
    let b = adds_gets_no_less g x j i h hj hi (λ s lt other out. omega (arith, linear, alike s lt out other)) in
    omega (arith, linear, a, b)
