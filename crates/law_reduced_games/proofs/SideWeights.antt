-- At the prenucleolus there are for each coalition weights that balance, on it and on coalitions of no less excess
-- (Kohlberg 1971): otherwise some transfer would give it more and take from none of them.
use Rattle.std.proofs.Common.{◌≡◌, ℕ, zero, suc, ◌-◌, ◌^◌, ◌<◌, ◌≤◌, Bool, true, false, ◌||◌, ℤ, pos, ◌<ℤ◌, ◌≤ℤ◌}
use Rattle.std.proofs.Common.{int_le, int_lt, refl, sym, ◌∙◌, inl, inr, arith}
use Rattle.std.proofs.lemmas.Bool.{false≢true}
use Rattle.std.proofs.lemmas.Int.{by_lt_z, ints}
use Rattle.definitions.proofs.Ring.{linear}
use Rattle.std.proofs.Math.Nat.{pow-suc}
use Rattle.definitions.proofs.Cases.{true_or_false, or_cases, neither}
use Rattle.definitions.proofs.Masks.{grand_coalition-within}
use Rattle.definitions.specs.Sums.{sum_below}
use Rattle.definitions.specs.Coalitions.{grand_coalition, sum_over}
use Rattle.definitions.specs.Games.{Game, Allocation, excess, IsNucleolus}
use Rattle.definitions.specs.declared.Family.TheVariants.{Preimputations}
use Rattle.definitions.specs.declared.Measure.TheVariants.{Plain}
use Rattle.theorems.proofs.Certified.{to_int_le}
use Rattle.theorems.proofs.Transfers.{some_greatest}
use Rattle.law_duality.proofs.NoGain.{no_gain}
use Rattle.law_duality.proofs.SideWeights.{SideWeights, side_weights}

module _ (g : Game) (x : Allocation) (is : IsNucleolus Preimputations Plain g x) (some : 1 ≤ g.players) where
  abbrev n : ℕ
  n = g.players

  abbrev all : ℕ
  all = grand_coalition n

  abbrev count : ℕ
  count = 2 ^ n - 2

  two : 2 ≤ 2 ^ n
  two = at_least n some
    where
      at_least : (n : ℕ) → 1 ≤ n → 2 ≤ 2 ^ n
      at_least zero h = absurd (omega arith)
      at_least (suc n) h = (let p = grand_coalition-within n in omega (arith, p, pow-suc 2 n))

  -- no transfer gives a coalition more and takes from none of no less excess
  no_side_payment : (z : ℕ → ℤ) (e : ℤ) (d : ℕ) → sum_below n z ≡ pos 0 → d < count → excess g x (suc d) ≡ e
      → pos 1 ≤ℤ sum_over n z (suc d)
      → ((t : ℕ) → t < count → e ≤ℤ excess g x (suc t) → pos 0 ≤ℤ sum_over n z (suc t)) → ⊥
  no_side_payment z e d total lt here gain low =
      elim (some_greatest moves (λ t. excess g x (suc t)) count) [
        | inl none ↦ false≢true (sym (none d lt) ∙ moves_one)
        | inr found ↦
            let M = found.0 in
            let c = found.1.0.0 in
            let top : e ≤ℤ M = (let le = found.1.1 d (lt, moves_one) in omega (arith, linear, le, here)) in
            let at : excess g x (suc c) ≡ M = sym found.1.0.2 in
            no_gain Preimputations Plain g (inl refl) x is z total (λ i less f. absurd (false≢true f)) M c
            found.1.0.1.0 at (more c found.1.0.1.1 (low c found.1.0.1.0 (omega (arith, linear, at, top))))
            (λ t less. elim (true_or_false (moves t)) [
              | inr still ↦ inl (unmoved t still)
              | inl some ↦ inr
                  (by_lt_z (excess g x (suc t)) M (λ under. inr under)
                  (λ le. (let high = found.1.1 t (less, some) in
                  inl (high, more t some (low t less (omega (arith, linear, top, le)))))))
            ])
      ]
    where
      moves : ℕ → Bool
      moves t = int_lt (sum_over n z (suc t)) (pos 0) || int_lt (pos 0) (sum_over n z (suc t))

      moves_if : (v : ℤ) → pos 1 ≤ℤ v → (int_lt v (pos 0) || int_lt (pos 0) v) ≡ true
      moves_if v one = grind (arith, ints)

      moves_one : moves d ≡ true
      moves_one = moves_if (sum_over n z (suc d)) gain

      still_if : (v : ℤ) → (int_lt v (pos 0) || int_lt (pos 0) v) ≡ false → v ≡ pos 0
      still_if v f = (let both = neither (int_lt v (pos 0)) (int_lt (pos 0) v) f in
          omega (arith, linear, both.0, both.1))

      unmoved : (t : ℕ) → moves t ≡ false → sum_over n z (suc t) ≡ pos 0
      unmoved t f = still_if (sum_over n z (suc t)) f

      up_if : (v : ℤ) → (int_lt v (pos 0) || int_lt (pos 0) v) ≡ true → pos 0 ≤ℤ v → pos 1 ≤ℤ v
      up_if v f low = elim (or_cases (int_lt v (pos 0)) (int_lt (pos 0) v) f) [
        | inl a ↦ absurd (omega (arith, linear, a, low))
        | inr b ↦ omega (arith, linear, b)
      ]

      more : (t : ℕ) → moves t ≡ true → pos 0 ≤ℤ sum_over n z (suc t) → pos 1 ≤ℤ sum_over n z (suc t)
      more t f low = up_if (sum_over n z (suc t)) f low

  -- the coalitions of no less excess than coalition d + 1
  abbrev pub is_high : ℕ → ℕ → Bool
  is_high d s = int_le (excess g x (suc d)) (excess g x s)

  pub weights_at : (d : ℕ) → d < count → SideWeights n (is_high d) some d
  weights_at d lt =
      side_weights n (is_high d) some d lt (to_int_le (excess g x (suc d)) (excess g x (suc d)) (omega (arith, linear)))
      (λ z total gain low.
      no_side_payment z (excess g x (suc d)) d total lt refl gain
      (λ t less le. low t less (to_int_le (excess g x (suc d)) (excess g x (suc t)) le)))

  pub none_at : (d : ℕ) (lt : d < count) (s : ℕ) → excess g x s <ℤ excess g x (suc d)
      → (weights_at d lt).weights s ≡ pos 0
  none_at d lt s less = (weights_at d lt).none s (not_le (excess g x (suc d)) (excess g x s) less)
    where
      not_le : (a b : ℤ) → b <ℤ a → int_le a b ≡ false
      not_le a b lt = grind (arith, ints)
