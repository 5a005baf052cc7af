-- The nucleolus of a game with its players renumbered has the renumbered shares: a coalition's excess is that of the
-- coalition that its members were, so both games have the same excesses in another order.
use Rattle.std.proofs.Common.{◌≡◌, ℕ, ◌+◌, ◌-◌, ◌^◌, ◌<◌, List, length, ℤ, pos, ◌-ℤ◌, ◌*ℤ◌, refl, sym, ap, subst, ◌∙◌}
use Rattle.std.proofs.Common.{arith}
use Rattle.std.proofs.lemmas.List.FromFn.{get_or-map-range_with_len, length-map-range_with_len}
use Rattle.definitions.proofs.Ring.{linear}
use Rattle.definitions.proofs.Masks.{grand_coalition-within, singleton-within}
use Rattle.definitions.proofs.Families.{allocation_of}
use Rattle.definitions.specs.Coalitions.{singleton, grand_coalition, sum_over}
use Rattle.definitions.specs.Measures.{IsMeasurable}
use Rattle.definitions.specs.Games.{Game, Allocation, share, amount, excess, measured_excess, excess_list, IsEfficient}
use Rattle.definitions.specs.Games.{InFamily}
use Rattle.definitions.specs.Order.{sorted, ComesBefore}
use Rattle.definitions.specs.declared.Family.{Family}
use Rattle.definitions.specs.declared.Family.TheVariants.{Imputations, Preimputations}
use Rattle.definitions.specs.declared.Measure.{Measure}
use Rattle.definitions.proofs.SumsOver.{sum_over-same}
use Rattle.law_answers.specs.Renumbering.{IsRenumbering, renumbered_coalition, renumbered_shares}
use Rattle.law_answers.specs.Renumbering.{RenumberingChangesNothing}
use Rattle.law_answers.proofs.Gathered.{sorted-renumbered}
use Rattle.law_answers.proofs.RenumberedCoalitions.{reverse_of, was_grand, was_singleton, was_some, sum_over-was}
use Rattle.law_answers.proofs.RenumberedCoalitions.{size-was}
use Rattle.law_answers.proofs.RenumberedCoalitions.{was_back, places}

pub renumbered_share : (to : ℕ → ℕ) (x : Allocation) (i : ℕ) → i < length x.shares
    → share (renumbered_shares to x) i ≡ share x (to i)
renumbered_share to x i lt =
    get_or-map-range_with_len (λ i. share x (to i)) 0 (length x.shares) i i (pos 0) lt (omega arith)

-- ---- the game and the shares, where u is the worth of the coalition that s was

module _ (n : ℕ) (to back : ℕ → ℕ) (r : IsRenumbering n to back) (v u : ℕ → ℤ)
    (worths : (s : ℕ) → s < 2 ^ n → u s ≡ v (renumbered_coalition n back s)) (x : Allocation)
    (shares : length x.shares ≡ n) where
  abbrev old : Game
  old = record { players = n; worth = v }

  abbrev new : Game
  new = record { players = n; worth = u }

  abbrev image : ℕ → ℕ
  image s = renumbered_coalition n back s

  abbrev y : Allocation
  y = renumbered_shares to x

  y_length : length y.shares ≡ n
  y_length = length-map-range_with_len (λ i. share x (to i)) 0 (length x.shares) ∙ shares

  y_share : (i : ℕ) → i < n → share y i ≡ share x (to i)
  y_share i lt = renumbered_share to x i (omega (arith, lt, shares))

  y_amount : (s : ℕ) → amount y s ≡ amount x (image s)
  y_amount s =
      ap (λ k. sum_over k (share y) s) y_length ∙ sum_over-same n (share y) (λ i. share x (to i)) s y_share
      ∙ sum_over-was n to back r (share x) s ∙ ap (λ k. sum_over k (share x) (image s)) (sym shares)

  y_excess : (s : ℕ) → s < 2 ^ n → excess new y s ≡ excess old x (image s)
  y_excess s within =
      ap (λ z. x.den *ℤ z -ℤ amount y s) (worths s within)
      ∙ ap (λ z. x.den *ℤ v (image s) -ℤ z) (y_amount s)

  y_measured : (measure : Measure) → IsMeasurable measure n → (s : ℕ) → s < 2 ^ n
      → measured_excess measure new y s ≡ measured_excess measure old x (image s)
  y_measured measure m s within = grind (arith, size-was, y_excess)

  y_efficient : IsEfficient old x → IsEfficient new y
  y_efficient e =
      let all = grand_coalition n in
      y_amount all ∙ ap (amount x) (was_grand n to back r) ∙ e
      ∙ ap (λ t. x.den *ℤ v t) (sym (was_grand n to back r))
      ∙ ap (◌*ℤ◌ x.den) (sym (worths all (grand_coalition-within n)))

  y_member : (family : Family) → InFamily family old x → InFamily family new y
  y_member Imputations h = (
    (y_length, h.0.1),
    y_efficient h.1,
    λ i lt.
        let alone = worths (singleton i) (singleton-within n i lt) ∙ ap v (was_singleton n to back r i lt) in
        omega (arith, linear, h.2 (to i) (r.to_within i lt), y_share i lt, ap (◌*ℤ◌ x.den) alone),
  )
  y_member Preimputations h = ((y_length, h.0.1), y_efficient h.1)

  -- the excesses are the same, in another order
  y_sorted : (measure : Measure) → IsMeasurable measure n → (scale : ℤ)
      → sorted (excess_list measure new y scale) ≡ sorted (excess_list measure old x scale)
  y_sorted measure m scale =
      sorted-renumbered (λ s. scale *ℤ measured_excess measure old x s)
      (λ s. scale *ℤ measured_excess measure new y s) 1 (2 ^ n - 2) (λ t. image (1 + t) - 1)
      (λ t. renumbered_coalition n to (1 + t) - 1) (places n to back r)
      (λ t lt.
      let some = was_some n to back r (1 + t) (omega (arith, lt)) (omega arith) in
      let whole : image (1 + t) ≡ 1 + (image (1 + t) - 1) = omega (arith, some) in
      ap (◌*ℤ◌ scale) (y_measured measure m (1 + t) (omega (arith, lt)))
      ∙ ap (λ s. scale *ℤ measured_excess measure old x s) whole)

-- ---- the nucleolus

pub renumbering_changes_nothing : RenumberingChangesNothing
renumbering_changes_nothing family measure g x to back m r h =
    let n = g.players in
    let v = g.worth in
    let u : ℕ → ℤ = λ s. v (renumbered_coalition n back s) in
    let q = reverse_of n to back r in
    let undone : (s : ℕ) → s < 2 ^ n → v s ≡ u (renumbered_coalition n to s) =
    λ s within. ap v (sym (was_back n back to q s within)) in
    let shares = (allocation_of family g x h.0).0 in
    let y = renumbered_shares to x in (
      y_member n to back r v u (λ s within. refl) x shares family h.0,
      λ w hw differs.
          let length_w = (allocation_of family (record { players = n; worth = u }) w hw).0 in
          let w' = renumbered_shares back w in
          let member = y_member n back to q u v undone w length_w family hw in
          let beats = h.1 w' member (λ same. differs (λ i lt.
          let there = r.to_within i lt in
          let first = y_share n to back r v u (λ s within. refl) x shares i lt in
          let second = y_share n back to q u v undone w length_w (to i) there ∙ ap (share w) (r.back_to i lt) in
          ap (λ z. z *ℤ w.den) first ∙ same (to i) there ∙ ap (λ z. z *ℤ x.den) second)) in
          let left = y_sorted n to back r v u (λ s within. refl) x shares measure m w.den in
          let right = y_sorted n back to q u v undone w length_w measure m x.den in
          subst (λ (zs : List ℤ). ComesBefore zs
          (sorted (excess_list measure (record { players = n; worth = u }) w x.den))) (sym left)
          (subst (λ (zs : List ℤ). ComesBefore (sorted (excess_list measure g x w.den)) zs) right beats),
    )
