-- A small transfer from one player to another, by which the prenucleolus balances every two players (Schmeidler
-- 1969; Peleg and Sudhölter).
--
-- Say the surplus m of i against j is above k, that of j against i. Over twice the denominator each excess counts
-- double. Move one unit from j to i. A coalition with both or neither keeps its excess. One with i only had at most 2m,
-- and loses 1. One with j only had at most 2k, and gains 1, which makes at most 2m - 1. So all that changes ends below
-- 2m, and a coalition that had 2m falls. By the lemma on sorted lists the new shares come first, and of two lists only
-- one comes before the other (OneWay.antt). Each surplus exists, since i alone holds i and lacks j
-- (`measured_surplus_of`).
use Rattle.std.proofs.Common.{◌≡◌, ◌≢◌, ◌⊎◌, ℕ, zero, suc, ◌^◌, ◌<◌, Bool, true, false, not, ℤ, pos, ◌<ℤ◌, refl, sym}
use Rattle.std.proofs.Common.{ap, subst, ◌∙◌, inl, inr, arith}
use Rattle.std.proofs.lemmas.Bool.{false≢true}
use Rattle.std.proofs.lemmas.Int.{by_lt_z}
use Rattle.std.proofs.Math.Pow.{pow-lt}
use Rattle.definitions.proofs.Cases.{less_or_last}
use Rattle.definitions.proofs.Members.{has_player-singleton, has_player-singleton_other}
use Rattle.definitions.proofs.Ring.{linear}
use Rattle.theorems.proofs.Moves.{excess-raised, joined, no_gain, IsMeasuredSurplus}
use Rattle.definitions.specs.Sums.{IsGreatest}
use Rattle.definitions.specs.Coalitions.{has_player, singleton}
use Rattle.definitions.specs.Games.{Game, Allocation, measured_excess, IsNucleolus}
use Rattle.definitions.specs.Prekernel.{holds_without, IsSurplus, InPrekernel}
use Rattle.definitions.specs.declared.Family.TheVariants.{Imputations, Preimputations}
use Rattle.definitions.specs.declared.Measure.{Measure}
use Rattle.definitions.specs.declared.Measure.TheVariants.{Plain}

-- any preimputation can be moved to
no_bound : (A : Type 0) → Preimputations ≡ Imputations → A
no_bound A e = absurd (cc)

-- at the prenucleolus no surplus is the greater one
no_greater : (g : Game) (x : Allocation) (i j : ℕ) (m k : ℤ) → IsNucleolus Preimputations Plain g x → i < g.players
    → j < g.players → i ≢ j → IsSurplus g x i j m → IsSurplus g x j i k → k <ℤ m → ⊥
no_greater g x i j m k h hi hj ne most other lt =
    no_gain Preimputations Plain (pos 1) g x i j m (inl refl) h (omega (arith, linear)) hi hj ne (no_bound _) most
    (λ s within holds. omega
    (arith, linear, lt, excess-raised (pos 1) g x i j s h.0.0 hi hj holds, other.1 s (within, holds)))

-- at the prenucleolus the surpluses of two players against each other are equal
pub surpluses_equal : (g : Game) (x : Allocation) (i j : ℕ) (m k : ℤ) → IsNucleolus Preimputations Plain g x
    → i < g.players → j < g.players → i ≢ j → IsSurplus g x i j m → IsSurplus g x j i k → m ≡ k
surpluses_equal g x i j m k h hi hj ne most other =
    by_lt_z k m (λ lt. absurd (no_greater g x i j m k h hi hj ne most other lt))
    (λ le. by_lt_z m k (λ lt. absurd (no_greater g x j i k m h hj hi (λ e. ne (sym e)) other most lt))
    (λ ge. omega (arith, linear)))

-- ---- every surplus exists

-- the coalitions below k that pass a test have a greatest number, where there are any
pub some_greatest : (test : ℕ → Bool) (f : ℕ → ℤ) (k : ℕ)
    → ((s : ℕ) → s < k → test s ≡ false) ⊎ ((m : ℤ) × IsGreatest (λ s. (s < k) × (test s ≡ true)) f m)
some_greatest test f zero = inl (λ s lt. absurd (omega arith))
some_greatest test f (suc k) = decide (test k) refl (some_greatest test f k)
  where
    decide : (b : Bool) → test k ≡ b
        → ((s : ℕ) → s < k → test s ≡ false) ⊎ ((m : ℤ) × IsGreatest (λ s. (s < k) × (test s ≡ true)) f m)
        → ((s : ℕ) → s < suc k → test s ≡ false) ⊎ ((m : ℤ) × IsGreatest (λ s. (s < suc k) × (test s ≡ true)) f m)
    decide false e (inl none) =
        inl (λ s lt. elim (less_or_last s k lt) [ inl less ↦ none s less | inr same ↦ ap test same ∙ e ])
    decide false e (inr (m, h)) =
        inr (
          m,
          ((
            (h.0.0, (omega (arith, h.0.1.0), h.0.1.1), h.0.2),
            λ s p. elim (less_or_last s k p.0) [
              | inl less ↦ h.1 s (less, p.1)
              | inr same ↦ absurd (false≢true (sym e ∙ sym (ap test same) ∙ p.1))
            ],
          )),
        )
    decide true e (inl none) =
        inr (
          f k,
          (
            (k, (omega arith, e), refl),
            λ s p. elim (less_or_last s k p.0) [
              | inl less ↦ absurd (false≢true (sym (none s less) ∙ p.1))
              | inr same ↦ omega (arith, linear, ap f same)
            ],
          ),
        )
    decide true e (inr (m, h)) =
        by_lt_z m (f k)
        (λ lt. inr (
          f k,
          (
            (k, (omega arith, e), refl),
            λ s p. elim (less_or_last s k p.0) [
              | inl less ↦ omega (arith, linear, lt, h.1 s (less, p.1))
              | inr same ↦ omega (arith, linear, ap f same)
            ],
          ),
        ))
        (λ le. inr (
          m,
          (
            (h.0.0, (omega (arith, h.0.1.0), h.0.1.1), h.0.2),
            λ s p. elim (less_or_last s k p.0)
                [ inl less ↦ h.1 s (less, p.1) | inr same ↦ omega (arith, linear, le, ap f same) ],
          ),
        ))

pub holds_without-singleton : (i j : ℕ) → i ≢ j → holds_without i j (singleton i) ≡ true
holds_without-singleton i j ne =
    joined (has_player (singleton i) i) (has_player (singleton i) j) (has_player-singleton i)
    (ap not (has_player-singleton_other i j (λ e. ne (sym e))))

pub measured_surplus_of : (measure : Measure) (g : Game) (x : Allocation) (i j : ℕ) → i < g.players → i ≢ j
    → (m : ℤ) × IsMeasuredSurplus measure g x i j m
measured_surplus_of measure g x i j hi ne =
    elim (some_greatest (holds_without i j) (measured_excess measure g x) (2 ^ g.players)) [
      | inl none ↦ absurd (false≢true (sym (none (singleton i) (pow-lt hi)) ∙ holds_without-singleton i j ne))
      | inr found ↦ found
    ]

pub surplus_of : (g : Game) (x : Allocation) (i j : ℕ) → i < g.players → i ≢ j → (m : ℤ) × IsSurplus g x i j m
surplus_of g x i j hi ne = measured_surplus_of Plain g x i j hi ne

-- the prenucleolus lies in the prekernel
pub prenucleolus_in_prekernel : (g : Game) (x : Allocation) → IsNucleolus Preimputations Plain g x → InPrekernel g x
prenucleolus_in_prekernel g x h = (
  h.0.0,
  h.0.1,
  λ i j hi hj ne.
      let most = surplus_of g x i j hi ne in
      let other = surplus_of g x j i hj (λ e. ne (sym e)) in (
        most.0,
        most.1,
        subst (IsSurplus g x j i) (sym (surpluses_equal g x i j most.0 other.0 h hi hj ne most.1 other.1)) other.1,
      ),
)
