-- A player that adds no less than another to every coalition without both gets no less: otherwise the nucleolus, with
-- the two shares made equal, would be beaten.
--
-- Say j gets c more than i, which adds no less. With i in the place of j a coalition has the same size, and an excess
-- that is greater by at least c. So the two shares made equal are a move (Moves.antt of theorems), and at a nucleolus
-- there is none.
use Rattle.std.proofs.Common.{◌≡◌, ◌≢◌, ℕ, ◌+◌, ◌^◌, ◌<◌, true, false, not, length, ℤ, pos, ◌+ℤ◌, ◌-ℤ◌, ◌*ℤ◌, ◌≤ℤ◌}
use Rattle.std.proofs.Common.{refl, sym, ap, ◌∙◌, inl, inr, arith}
use Rattle.std.proofs.lemmas.Int.{by_lt_z}
use Rattle.definitions.proofs.Cases.{same_or_other, from_not}
use Rattle.definitions.proofs.Families.{allocation_of, individual_of}
use Rattle.definitions.proofs.Halves.{size_below-more}
use Rattle.definitions.proofs.Masks.{singleton-within}
use Rattle.definitions.proofs.Measured.{weight, measured-weight, weight-positive}
use Rattle.definitions.proofs.Members.{has_player-empty}
use Rattle.definitions.proofs.Parts.{has_player-more_same, has_player-more_other, more-lt, sum_over-more}
use Rattle.definitions.proofs.Ring.{linear, mul-leℤ}
use Rattle.definitions.proofs.Sizes.{size-at}
use Rattle.theorems.proofs.Moves.{moved, excess-raised, IsMeasuredSurplus, CanGive, measured-less, parted, joined}
use Rattle.theorems.proofs.Moves.{proper_of, no_gain}
use Rattle.theorems.proofs.Transfers.{measured_surplus_of}
use Rattle.law_answers.proofs.Withouts.{without}
use Rattle.definitions.specs.Coalitions.{has_player}
use Rattle.definitions.specs.Measures.{IsMeasurable}
use Rattle.definitions.specs.Games.{Game, Allocation, share, amount, excess, measured_excess, IsAllocation, IsNucleolus}
use Rattle.definitions.specs.Prekernel.{holds_without}
use Rattle.definitions.specs.declared.Family.{Family}
use Rattle.definitions.specs.declared.Family.TheVariants.{Imputations}
use Rattle.definitions.specs.declared.Measure.{Measure}
use Rattle.definitions.specs.Players.{AddsNoLess}
use Rattle.theorems.proofs.Products.{products}

-- ---- the coalition with one player in the place of the other

-- as many members, so the same weight
same_weight : (measure : Measure) (n r i j : ℕ) → IsMeasurable measure n → r < 2 ^ n → i < n → j < n
    → has_player r i ≡ false → has_player r j ≡ false → weight measure (r + 2 ^ i) ≡ weight measure (r + 2 ^ j)
same_weight measure n r i j m within hi hj a b = grind (arith, more-lt, size-at, size_below-more)

amount-more : (g : Game) (x : Allocation) (r i : ℕ) → IsAllocation g x → i < g.players → has_player r i ≡ false
    → amount x (r + 2 ^ i) ≡ amount x r +ℤ share x i
amount-more g x r i h hi a = sum_over-more (length x.shares) r i (share x) (rw h.0 hi) a

-- with i in the place of j, a coalition could do better by itself by what j gets more, or by more than that
pub excess-other : (g : Game) (x : Allocation) (r i j : ℕ) → AddsNoLess g i j → IsAllocation g x → r < 2 ^ g.players
    → i < g.players → j < g.players → has_player r i ≡ false → has_player r j ≡ false
    → (excess g x (r + 2 ^ j) +ℤ (share x j -ℤ share x i)) ≤ℤ excess g x (r + 2 ^ i)
excess-other g x r i j adds h within hi hj a b =
    let worth = mul-leℤ x.den (g.worth (r + 2 ^ j)) (g.worth (r + 2 ^ i)) (omega (arith, linear, h.1))
    (adds r within a b) in
    omega (arith, linear, worth, amount-more g x r i h hi a, amount-more g x r j h hj b)

-- ---- the nucleolus

-- j gets no more, by c, than a player i that adds no less
no_more_by : (family : Family) (measure : Measure) (g : Game) (x : Allocation) (i j : ℕ) (c : ℤ)
    → IsMeasurable measure g.players → IsNucleolus family measure g x → i < g.players → j < g.players → i ≢ j
    → AddsNoLess g i j → c ≡ share x j -ℤ share x i → pos 1 ≤ℤ c → ⊥
no_more_by family measure g x i j c can h hi hj ne adds gap one =
    let most = measured_surplus_of measure g x i j hi ne in
    no_gain family measure c g x i j most.0 can h one hi hj ne give most.1 (rising most.0 most.1)
  where
    hx : IsAllocation g x
    hx = allocation_of family g x h.0

    give : family ≡ Imputations → CanGive c g x j
    give e =
        let r = individual_of family g x h.0 e in
        let v = adds 0 (omega (arith, singleton-within g.players i hi)) (has_player-empty i) (has_player-empty j) in
        let a : 0 + 2 ^ i ≡ 2 ^ i = omega arith in
        let b : 0 + 2 ^ j ≡ 2 ^ j = omega arith in
        let alone = mul-leℤ x.den (g.worth (2 ^ j)) (g.worth (2 ^ i)) (omega (arith, linear, hx.1))
        (omega (arith, linear, v, ap g.worth a, ap g.worth b)) in
        omega (arith, linear, r i hi, r j hj, alone, gap)

    rising : (m : ℤ) → IsMeasuredSurplus measure g x i j m → (s : ℕ) → s < 2 ^ g.players
        → holds_without j i s ≡ true → measured_excess measure g (moved c x i j) s ≤ℤ (m +ℤ m -ℤ pos 1)
    rising m most s within holds =
        let n = g.players in
        let both = parted (has_player s j) (has_player s i) holds in
        let part = without n s j within hj both.0 in
        let r = part.0 in
        let lacks_i : has_player r i ≡ false =
        sym (has_player-more_other r j i part.2 ne) ∙ sym (ap (λ (k : ℕ). has_player k i) part.3)
        ∙ from_not (has_player s i) both.1 in
        let t = r + 2 ^ i in
        let t_within = more-lt n r i part.1 hi lacks_i in
        let t_holds : holds_without i j t ≡ true =
        joined (has_player t i) (has_player t j) (has_player-more_same r i lacks_i)
        (ap not (has_player-more_other r i j lacks_i (λ e. ne (sym e)) ∙ part.2)) in
        let e = excess g x t in
        let u = excess g (moved c x i j) s in
        let other = excess-other g x r i j adds hx part.1 hi hj lacks_i part.2 in
        let raised = excess-raised c g x i j s hx hi hj holds in
        let at_most : u ≤ℤ (e +ℤ e -ℤ c) = omega (arith, linear, raised, other, ap (excess g x) part.3, gap) in
        let w = weight measure t in
        let weighs : weight measure s ≡ w =
        ap (weight measure) part.3 ∙ same_weight measure n r j i can part.1 hj hi part.2 lacks_i in
        let some = (proper_of n i j t hj t_within t_holds).0 in
        let up = weight-positive measure n t can (omega (arith, some)) t_within in
        omega (
          products,
          mul-leℤ w u (e +ℤ e -ℤ c) (omega (arith, linear, up)) at_most,
          measured-less measure n t e c m can (omega (arith, some)) t_within one (most.1 t (t_within, t_holds)),
          measured-weight measure s u,
          ap (λ (z : ℤ). z *ℤ u) weighs,
          measured-weight measure t (e +ℤ e -ℤ c),
        )

pub adds_gets_no_less : (family : Family) (measure : Measure) (g : Game) (x : Allocation) (i j : ℕ)
    → IsMeasurable measure g.players → IsNucleolus family measure g x → i < g.players → j < g.players
    → AddsNoLess g i j → share x j ≤ℤ share x i
adds_gets_no_less family measure g x i j can h hi hj adds = elim (same_or_other i j) [
  | inl same ↦ omega (arith, linear, ap (share x) same)
  | inr ne ↦
      by_lt_z (share x i) (share x j)
      (λ lt. absurd
      (no_more_by family measure g x i j (share x j -ℤ share x i) can h hi hj ne adds refl
      (omega (arith, linear, lt))))
      (λ le. le)
]
