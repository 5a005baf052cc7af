-- If nobody who joins does harm, who is outweighed could join the coalitions that outweigh it, so nobody is: the
-- kernel is the prekernel. And a player that gets less than its worth alone at a prekernel point would be in all
-- coalitions of the greatest excess, but not in those that balance it (Maschler, Peleg and Shapley 1972).
use Rattle.std.proofs.Common.{◌≡◌, ◌≢◌, ℕ, ◌+◌, ◌^◌, ◌<◌, true, false, not, ℤ, pos, ◌*ℤ◌, ◌<ℤ◌, ◌≤ℤ◌, refl, sym, ap}
use Rattle.std.proofs.Common.{◌∙◌, inl, inr, arith}
use Rattle.std.proofs.lemmas.Bool.{false≢true}
use Rattle.std.proofs.lemmas.Int.{by_lt_z}
use Rattle.definitions.proofs.Cases.{same_or_other, true_or_false, from_not}
use Rattle.definitions.proofs.Families.{allocation_of}
use Rattle.definitions.proofs.Masks.{singleton-within, proper_or_all, grand_coalition-within}
use Rattle.definitions.proofs.Parts.{has_player-more_same, has_player-more_other, more-lt}
use Rattle.definitions.proofs.Ring.{ring_laws, linear, mul-cancelℤ, mul_left_commℤ}
use Rattle.definitions.proofs.SomeMembers.{some_outsider}
use Rattle.theorems.proofs.Moves.{parted, joined as both_tests, proper_of}
use Rattle.theorems.proofs.ScaledLists.{order_kept, values_times}
use Rattle.theorems.proofs.Transfers.{surplus_of, holds_without-singleton, prenucleolus_in_prekernel}
use Rattle.definitions.specs.Coalitions.{has_player, singleton, grand_coalition, proper_coalitions}
use Rattle.definitions.specs.Games.{Game, Allocation, share, excess, IsAllocation, IsIndividuallyRational, InFamily}
use Rattle.definitions.specs.Games.{Beats, IsSame, IsNucleolus, excess_list}
use Rattle.definitions.specs.Prekernel.{IsSurplus, InPrekernel}
use Rattle.definitions.specs.declared.Family.{Family}
use Rattle.definitions.specs.declared.Family.TheVariants.{Imputations, Preimputations}
use Rattle.definitions.specs.declared.Measure.TheVariants.{Plain}
use Rattle.law_stability.specs.Kernel.{InKernel}
use Rattle.law_stability.specs.LeastCore.{IsGreatestExcess}
use Rattle.law_stability.specs.ZeroMonotonic.{IsZeroMonotonic, KernelIsPrekernel, PrenucleolusIsNucleolus}
use Rattle.law_duality.proofs.Nucleoli.{prenucleoli_exist}
use Rattle.law_answers.proofs.NucleolusIsUnique.{nucleolus_unique}
use Rattle.law_stability.proofs.CoreKernel.{excess-alone}
use Rattle.law_stability.proofs.Kernel.{kernel_from, prekernel_from}
use Rattle.law_stability.proofs.LeastCore.{greatest_excess_of}
use Rattle.law_answers.proofs.NucleolusIsInCore.{same_excess}
use Rattle.law_stability.proofs.WhoJoins.{joined, somebody_gets_more}
use Rattle.theorems.proofs.Products.{products}

-- ---- the kernel is in the prekernel

module _ (g : Game) (x : Allocation) (mono : IsZeroMonotonic g) (h : InKernel g x) where
  -- with l joining, some coalition without k and with l has no less
  joins : (k l t : ℕ) (b : ℤ) → k < g.players → l < g.players → k ≢ l → share x l ≡ x.den *ℤ g.worth (singleton l)
      → IsSurplus g x l k b → t < 2 ^ g.players → has_player t k ≡ false → excess g x t ≤ℤ b
  joins k l t b hk hl ne just other lt out = elim (true_or_false (has_player t l)) [
    | inl inside ↦ other.1 t (lt, both_tests (has_player t l) (has_player t k) inside (ap not out))
    | inr lacks ↦
        let more = joined g x t l mono h.0.0 lt hl lacks in
        let le =
        other.1 (t + singleton l) (
          more-lt g.players t l lt hl lacks,
          both_tests (has_player (t + singleton l) l) (has_player (t + singleton l) k)
              (has_player-more_same t l lacks)
              (ap not (has_player-more_other t l k lacks ne ∙ out)),
        ) in
        omega (arith, linear, more, le, just)
  ]

  never : (k l : ℕ) (a b : ℤ) → k < g.players → l < g.players → k ≢ l → IsSurplus g x k l a → IsSurplus g x l k b
      → b <ℤ a → ⊥
  never k l a b hk hl ne most other lt =
      let s = most.0.0 in
      let parts = parted (has_player s k) (has_player s l) most.0.1.1 in
      let lacks = from_not (has_player s l) parts.1 in
      let just = h.1 k l hk hl ne (a, b, most, other, lt) in
      let nothing =
      other.1 (singleton l) (singleton-within g.players l hl, holds_without-singleton l k (λ e. ne (sym e))) in
      let r = s + singleton l in
      let within = more-lt g.players s l most.0.1.0 hl lacks in
      let more = joined g x s l mono h.0.0 most.0.1.0 hl lacks in
      let up : a ≤ℤ excess g x r = omega (arith, linear, more, just, most.0.2) in
      let some = somebody_gets_more g x r mono h.0.0 h.0.1 within
      (omega (arith, linear, up, lt, nothing, excess-alone g x l h.0.0 hl, just)) in
      let j = some.0 in
      let has_k : has_player r k ≡ true = has_player-more_other s l k lacks ne ∙ parts.0 in
      let k_j : k ≢ j = λ e. false≢true (sym some.2 ∙ ap (has_player r) (sym e) ∙ has_k) in
      let first = surplus_of g x k j hk k_j in
      let second = surplus_of g x j k some.1 (λ e. k_j (sym e)) in
      let reach = first.1.1 r (within, both_tests (has_player r k) (has_player r j) has_k (ap not some.2)) in
      let no_less : first.0 ≤ℤ second.0 = by_lt_z second.0 first.0
      (λ less. absurd
      (omega (arith, linear, h.1 k j hk some.1 k_j (first.0, second.0, first.1, second.1, less), some.3)))
      (λ le. le) in
      let t = second.1.0.0 in
      let t_parts = parted (has_player t j) (has_player t k) second.1.0.1.1 in
      let low = joins k l t b hk hl ne just other second.1.0.1.0 (from_not (has_player t k) t_parts.1) in
      omega (arith, linear, up, reach, no_less, second.1.0.2, low, lt)

  in_prekernel : InPrekernel g x
  in_prekernel =
      prekernel_from g x h.0
      (λ i j hi hj ne outweighs.
      never i j outweighs.0 outweighs.1 hi hj ne outweighs.2 outweighs.3 outweighs.4)

-- ---- the prekernel is in the kernel

singleton_some : (i : ℕ) → 0 < singleton i
singleton_some i = let within = grand_coalition-within i in omega (arith, within)

module _ (g : Game) (x : Allocation) (mono : IsZeroMonotonic g) (h : InPrekernel g x) (i : ℕ) (hi : i < g.players)
    (less : share x i <ℤ (x.den *ℤ g.worth (singleton i))) where
  -- who gets less than alone is in each coalition of the greatest excess
  in_each : (m : ℤ) (t : ℕ) → IsGreatestExcess Plain g x m → 0 < t → t < grand_coalition g.players → excess g x t ≡ m
      → singleton i < grand_coalition g.players → has_player t i ≡ true
  in_each m t most some within same proper = elim (true_or_false (has_player t i)) [
    | inl inside ↦ inside
    | inr out ↦ absurd (impossible out)
  ]
    where
      impossible : has_player t i ≡ false → ⊥
      impossible out =
          let lt : t < 2 ^ g.players = omega (arith, within) in
          let more = joined g x t i mono h.0 lt hi out in
          let r = t + singleton i in
          elim (proper_or_all g.players r (more-lt g.players t i lt hi out)) [
            | inl r_proper ↦ omega
                (arith, linear, more, less, same, most.1 r (omega (arith, some), r_proper))
            | inr all ↦ omega (
              products,
              more,
              less,
              same,
              ap (excess g x) all,
              h.1,
              excess-alone g x i h.0 hi,
              most.1 (singleton i) (singleton_some i, proper),
            )
          ]

  no_less : ⊥
  no_less = elim (proper_or_all g.players (singleton i) (singleton-within g.players i hi)) [
    | inr all ↦ omega (arith, linear, excess-alone g x i h.0 hi, ap (excess g x) all, h.1, less)
    | inl proper ↦
        let (m, most) = greatest_excess_of Plain g x (singleton i) (singleton_some i) proper in
        let s = most.0.0 in
        let inside = in_each m s most most.0.1.0 most.0.1.1 (sym most.0.2) proper in
        let lt : s < 2 ^ g.players = omega (arith, most.0.1.1) in
        let out = some_outsider g.players s lt (λ e. omega (arith, e, most.0.1.1)) in
        let l = out.0 in
        let ne : i ≢ l = λ e. false≢true (sym out.2 ∙ ap (has_player s) (sym e) ∙ inside) in
        let balanced = h.2 i l hi out.1 ne in
        let reach = balanced.1.1 s (lt, both_tests (has_player s i) (has_player s l) inside (ap not out.2)) in
        let t = balanced.2.0.0 in
        let parts = parted (has_player t l) (has_player t i) balanced.2.0.1.1 in
        let t_proper = proper_of g.players l i t hi balanced.2.0.1.0 balanced.2.0.1.1 in
        let t_low = most.1 t (omega (arith, t_proper.0), omega (arith, t_proper.1)) in
        let t_same : excess g x t ≡ m = omega (arith, linear, reach, most.0.2, balanced.2.0.2, t_low) in
        let t_inside = in_each m t most (omega (arith, t_proper.0)) (omega (arith, t_proper.1)) t_same proper in
        false≢true (sym (from_not (has_player t i) parts.1) ∙ t_inside)
  ]

nobody_gets_less : (g : Game) (x : Allocation) → IsZeroMonotonic g → InPrekernel g x → IsIndividuallyRational g x
nobody_gets_less g x mono h i lt =
    by_lt_z (share x i) (x.den *ℤ g.worth (singleton i))
    (λ less. absurd (no_less g x mono h i lt less))
    (λ le. le)

pub kernel_is_prekernel : KernelIsPrekernel
kernel_is_prekernel g x mono = (in_prekernel g x mono, λ h. kernel_from g x (nobody_gets_less g x mono h) h)

-- ---- the nucleolus

same_both : (a b c p q r : ℤ) → pos 0 <ℤ q → a *ℤ q ≡ b *ℤ p → b *ℤ r ≡ c *ℤ q → a *ℤ r ≡ c *ℤ p
same_both a b c p q r some e f =
    let first : q *ℤ (a *ℤ r) ≡ r *ℤ (a *ℤ q) = simp ring_laws in
    let second : r *ℤ (b *ℤ p) ≡ p *ℤ (b *ℤ r) = simp ring_laws in
    let third : p *ℤ (c *ℤ q) ≡ q *ℤ (c *ℤ p) = simp ring_laws in
    mul-cancelℤ q (a *ℤ r) (c *ℤ p) some
    (first ∙ ap (◌*ℤ◌ r) e ∙ second ∙ ap (◌*ℤ◌ p) f ∙ third)

-- what one allocation beats, another with the same shares beats
beats-same : (g : Game) (x p y : Allocation) → IsAllocation g x → IsAllocation g p → IsSame g x p → Beats Plain g p y
    → Beats Plain g x y
beats-same g x p y hx hp same h =
    order_kept x.den p.den (excess_list Plain g p y.den) (excess_list Plain g y p.den) (excess_list Plain g x y.den)
    (excess_list Plain g y x.den) (omega (arith, linear, hx.1)) (omega (arith, linear, hp.1))
    (values_times x.den p.den (λ s. y.den *ℤ excess g p s) (λ s. y.den *ℤ excess g x s)
    (proper_coalitions g.players)
    (λ s. mul_left_commℤ x.den y.den (excess g p s)
    ∙ ap (◌*ℤ◌ y.den) (same_excess g x p s hx hp same)
    ∙ mul_left_commℤ y.den p.den (excess g x s)))
    (values_times x.den p.den (λ s. p.den *ℤ excess g y s) (λ s. x.den *ℤ excess g y s)
    (proper_coalitions g.players) (λ s. mul_left_commℤ x.den p.den (excess g y s))) h

-- a member of the family with the shares of a nucleolus is one
pub nucleolus-same : (family : Family) (g : Game) (x p : Allocation) → InFamily family g x
    → IsNucleolus family Plain g p → IsSame g x p → IsNucleolus family Plain g x
nucleolus-same family g x p hx hp same = (
  hx,
  λ y hy differs. beats-same g x p y (allocation_of family g x hx) here same
      (hp.1 y hy
      (λ other. differs
      (λ i lt. same_both (share x i) (share p i) (share y i) x.den p.den y.den
      (omega (arith, linear, here.1)) (same i lt) (other i lt)))),
)
  where
    here : IsAllocation g p
    here = allocation_of family g p hp.0

to_nucleolus : (g : Game) (x : Allocation) → IsZeroMonotonic g → IsNucleolus Preimputations Plain g x
    → IsNucleolus Imputations Plain g x
to_nucleolus g x mono h = (
  (h.0.0, h.0.1, nobody_gets_less g x mono (prenucleolus_in_prekernel g x h)),
  λ y hy differs. h.1 y (hy.0, hy.1) differs,
)

from_nucleolus : (g : Game) (x : Allocation) → IsZeroMonotonic g → IsNucleolus Imputations Plain g x
    → IsNucleolus Preimputations Plain g x
from_nucleolus g x mono h = elim (same_or_other g.players 0) [
  | inl none ↦
      ((h.0.0, h.0.1), λ y hy differs. absurd (differs (λ i lt. absurd (omega (arith, none, lt)))))
  | inr some ↦
      let (p, hp) = prenucleoli_exist Plain g (inl refl) (omega (arith, some)) in
      nucleolus-same Preimputations g x p (h.0.0, h.0.1) hp
      (nucleolus_unique Imputations Plain g x p h (to_nucleolus g p mono hp))
]

pub prenucleolus_is_nucleolus : PrenucleolusIsNucleolus
prenucleolus_is_nucleolus g x mono = (to_nucleolus g x mono, from_nucleolus g x mono)
