-- Shares with their signs turned are shares.
use Rattle.std.proofs.Common.{◌≡◌, ℕ, ◌<◌, ◌≤◌, ◌^◌, List, length, map}
use Rattle.std.proofs.Common.{take, ℤ, pos}
use Rattle.std.proofs.Common.{Option, Some, None, MatchOption}
use Rattle.std.proofs.Common.{neg_ℤ, unsigned_abs, sym, ap, ap₂, ◌∙◌, subst, arith}
use Rattle.std.proofs.Math.ListN.{get_or-map}
use Rattle.std.proofs.lemmas.List.{length-map, take_all}
use Rattle.definitions.specs.Games.{Allocation, IsShares, share}
use Rattle.worth_core.specs.Allocations.{allocation}
use Rattle.document_parts.specs.Shares.{negated}
use Rattle.definitions.proofs.Casts.{unsigned_abs-neg}

negated_shares : (x : Allocation) → IsShares x → IsShares (negated x)
negated_shares x h =
    let long = length-map x.shares neg_ℤ in
    record {
      some = omega (arith, h.some, long);
      few = omega (arith, h.few, long);
      positive = h.positive;
      common = h.common;
      small = λ i l.
          let same = ap unsigned_abs (get_or-map neg_ℤ x.shares i (pos 0)) ∙ unsigned_abs-neg (share x i) in
          subst (λ k. k < 2 ^ 110) (sym same) (h.small i (omega (arith, l, long)));
    }

turned_shares : (x : Allocation) (num : List ℤ) (den : ℤ) (i : ℕ) → IsShares x
    → num ≡ map neg_ℤ (take i x.shares) → length x.shares ≤ i → den ≡ x.den → IsShares (allocation num den)
turned_shares x num den i h e over f =
    let same : num ≡ map neg_ℤ x.shares = e ∙ ap (map neg_ℤ) (take_all i x.shares over) in
    subst IsShares (sym (ap₂ allocation same f)) (negated_shares x h)

made : (o : Option Allocation) (y : Allocation) → IsShares y
    → MatchOption o (¬ IsShares y) (λ z. (z ≡ y) × IsShares y) → o ≡ Some y
made None y s h = absurd (h s)
made (Some z) y s h = ap Some h.0

pub turned_made : (x : Allocation) (num : List ℤ) (den : ℤ) (i : ℕ) (o : Option Allocation) → IsShares x
    → num ≡ map neg_ℤ (take i x.shares) → length x.shares ≤ i → den ≡ x.den
    → MatchOption o (¬ IsShares (allocation num den))
    (λ y. (y ≡ allocation num den) × IsShares (allocation num den))
    → o ≡ Some (negated x)
turned_made x num den i o h e over f new =
    let same : num ≡ map neg_ℤ x.shares = e ∙ ap (map neg_ℤ) (take_all i x.shares over) in
    made o (allocation num den) (turned_shares x num den i h e over f) new ∙ ap Some (ap₂ allocation same f)
