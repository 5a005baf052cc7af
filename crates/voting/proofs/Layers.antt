-- The best sets of each weight, with one player more, and the best of all.
use Rattle.std.proofs.Common.{◌≡◌, ◌⊎◌, ℕ, zero, suc, ◌+◌, ◌-◌, ◌^◌, ◌<◌, ◌≤◌}
use Rattle.std.proofs.Common.{Bool, true, false}
use Rattle.std.proofs.Common.{cond, not, ◌&&◌, nat_le, ℤ, pos, ◌+ℤ◌, ◌<ℤ◌, ◌≤ℤ◌, None}
use Rattle.std.proofs.Common.{Some}
use Rattle.std.proofs.Common.{refl, sym, ap, ◌∙◌, inl, inr, arith}
use Rattle.std.proofs.lemmas.Bool.{false≢true}
use Rattle.std.proofs.lemmas.Bool.Decides.{nat_tests}
use Rattle.definitions.proofs.Ring.{linear}
use Rattle.definitions.proofs.Members.{sum_over-nonnegative}
use Rattle.definitions.specs.Coalitions.{has_player, sum_over}
use Rattle.voting.specs.declared.layer.Layer.{Layer}
use Rattle.voting.specs.Candidates.{better, joined, raised, at_weight, joined_at, best_below, IsBest}
use Rattle.voting.specs.SetKinds.{Numbers, passes, weights, IsOfKind, IsOfWeight, IsLayer}
use Rattle.voting.proofs.Best.{IsUnion, IsBest-better, IsBest-joined, IsBest-raised}
use Rattle.voting.proofs.SetKinds.{IsOfKind-without, IsOfKind-with, IsOfKind-cases, sum_over-last}
use Rattle.voting.proofs.SetKinds.{natural-nonnegative}
use Rattle.definitions.proofs.SumsOver.{sum_over-empty}
use Rattle.definitions.proofs.Casts.{none_below_zero}

-- ---- one player more

abbrev Old : Numbers → Bool → Bool → ℕ → ℕ → ℕ → ℕ → Type 0
Old m h l f i w s = IsOfWeight m h l f i w s

abbrev Grown : Numbers → Bool → Bool → ℕ → ℕ → ℕ → ℕ → Type 0
Grown m h l f i w s = (t : ℕ) × Old m h l f i w t × (s ≡ t + 2 ^ i)

abbrev IsFree : ℕ → ℕ → Bool
IsFree f i = not (has_player f i)

weight_low : (m : Numbers) (t : ℕ) → pos 0 ≤ℤ sum_over m.players (weights m) t
weight_low m t = sum_over-nonnegative m.players t (weights m) (λ i h. natural-nonnegative (m.weight i))

-- the weights of a set with player i and without
weight-less : (w k : ℕ) (u z : ℤ) → z ≡ pos w → z ≡ u +ℤ pos k → pos 0 ≤ℤ u → (k ≤ w) × (u ≡ pos (w - k))
weight-less w k u z e more low = (omega (arith, linear), omega (arith, linear))

weight-more : (w k : ℕ) (u z : ℤ) → k ≤ w → u ≡ pos (w - k) → z ≡ u +ℤ pos k → z ≡ pos w
weight-more w k u z le e more = omega (arith, linear)

-- where the player's weight is at most w
union-some : (m : Numbers) (h l : Bool) (f i w : ℕ) → i < m.players → m.weight i ≤ w
    → IsUnion (Old m h (l && IsFree f i) f i w) (Grown m (h && IsFree f i) l f i (w - m.weight i))
    (Old m h l f (i + 1) w)
union-some m h l f i w lt le = record {
  cases = λ s k. elim (IsOfKind-cases h l f i s k.0)
      [ inl old ↦ inl (old, k.1) | inr (t, old, e) ↦ inr (t, (old, (weight_before s t k.1 old.0 e).1), e) ];
  left = λ s k. (IsOfKind-without h l f i s k.0, k.1);
  right = λ s (t, k, e). rw e (IsOfKind-with h l f i t k.0, weight_after t k.0.0 k.1);
}
  where
    weight_before : (s t : ℕ) → sum_over m.players (weights m) s ≡ pos w → t < 2 ^ i → s ≡ t + 2 ^ i
        → (m.weight i ≤ w) × (sum_over m.players (weights m) t ≡ pos (w - m.weight i))
    weight_before s t e low same =
        weight-less w (m.weight i) (sum_over m.players (weights m) t) (sum_over m.players (weights m) s) e
        (ap (sum_over m.players (weights m)) same ∙ sum_over-last m.players i t (weights m) lt low)
        (weight_low m t)

    weight_after : (t : ℕ) → t < 2 ^ i → sum_over m.players (weights m) t ≡ pos (w - m.weight i)
        → sum_over m.players (weights m) (t + 2 ^ i) ≡ pos w
    weight_after t low e =
        weight-more w (m.weight i) (sum_over m.players (weights m) t) (sum_over m.players (weights m) (t + 2 ^ i))
        le e (sum_over-last m.players i t (weights m) lt low)

-- where it is more
union-none : (m : Numbers) (h l : Bool) (f i w : ℕ) → i < m.players → w < m.weight i
    → IsUnion (Old m h (l && IsFree f i) f i w) (λ s. ⊥) (Old m h l f (i + 1) w)
union-none m h l f i w lt less = record {
  cases = λ s k. elim (IsOfKind-cases h l f i s k.0)
      [ inl old ↦ inl (old, k.1) | inr (t, old, e) ↦ absurd (heavy s t k.1 old.0 e) ];
  left = λ s k. (IsOfKind-without h l f i s k.0, k.1);
  right = λ s none. absurd none;
}
  where
    heavy : (s t : ℕ) → sum_over m.players (weights m) s ≡ pos w → t < 2 ^ i → s ≡ t + 2 ^ i → ⊥
    heavy s t e low same =
        let k =
        weight-less w (m.weight i) (sum_over m.players (weights m) t) (sum_over m.players (weights m) s) e
        (ap (sum_over m.players (weights m)) same ∙ sum_over-last m.players i t (weights m) lt low)
        (weight_low m t) in
        omega arith

nobody : (v : ℕ → ℤ) → IsBest (λ s. ⊥) v None
nobody v = λ s none. none

-- the layer of one player more
pub IsLayer-more : (m : Numbers) (h l : Bool) (f i : ℕ) (without others next : Layer) → i < m.players
    → IsLayer m h (l && not (has_player f i)) f i without → IsLayer m (h && not (has_player f i)) l f i others
    → ((w : ℕ) → w < 1001 → at_weight next w ≡ joined_at without others i (m.weight i) (m.number i) w)
    → IsLayer m h l f (i + 1) next
IsLayer-more m h l f i without others next lt hw ho entries = record {
  each = λ w few. rw (entries w few) (best_at w few (nat_le (m.weight i) w) refl);
}
  where
    best_at : (w : ℕ) → w < 1001 → (b : Bool) → nat_le (m.weight i) w ≡ b
        → IsBest (Old m h l f (i + 1) w) (sum_over m.players m.number)
        (better (at_weight without w) (cond b (joined (at_weight others (w - m.weight i)) i (m.number i)) None))
    best_at w few true e =
        let le : m.weight i ≤ w = at_most (m.weight i) w e in
        IsBest-better (Old m h (l && IsFree f i) f i w) (Grown m (h && IsFree f i) l f i (w - m.weight i))
        (Old m h l f (i + 1) w) (sum_over m.players m.number) (at_weight without w)
        (joined (at_weight others (w - m.weight i)) i (m.number i)) (hw.each w few)
        (IsBest-joined (Old m (h && IsFree f i) l f i (w - m.weight i)) (sum_over m.players m.number) i (m.number i)
        (at_weight others (w - m.weight i)) (ho.each (w - m.weight i) (omega arith))
        (λ t k. sum_over-last m.players i t m.number lt k.0.0))
        (union-some m h l f i w lt le)
      where
        at_most : (k w : ℕ) → nat_le k w ≡ true → k ≤ w
        at_most k w e = grind (arith, nat_tests)
    best_at w few false e =
        IsBest-better (Old m h (l && IsFree f i) f i w) (λ s. ⊥) (Old m h l f (i + 1) w)
        (sum_over m.players m.number) (at_weight without w) None (hw.each w few)
        (nobody (sum_over m.players m.number)) (union-none m h l f i w lt (above (m.weight i) w e))
      where
        above : (k w : ℕ) → nat_le k w ≡ false → w < k
        above k w e = grind (arith, nat_tests)

-- the same, where it is known whether the player is one of f, and what its weight and number are
pub IsLayer-step : (m : Numbers) (h l b : Bool) (f i weight : ℕ) (number z : ℤ) (without others next : Layer)
    → i < m.players → has_player f i ≡ b → m.weight i ≡ weight → m.number i ≡ number → z ≡ number
    → IsLayer m h (l && not b) f i without → IsLayer m (h && not b) l f i others
    → ((w : ℕ) → w < 1001 → at_weight next w ≡ joined_at without others i weight z w) → IsLayer m h l f (i + 1) next
IsLayer-step m h l b f i weight number z without others next lt is heavy worth kept hw ho entries =
    IsLayer-more m h l f i without others next lt (rw is hw) (rw is ho)
    (λ w few. rw (heavy, worth ∙ sym kept) (entries w few))

-- ---- the best of all weights

-- a set of the kind, of a weight below k
abbrev pub IsBelow : Numbers → Bool → Bool → ℕ → ℕ → ℕ → Type 0
IsBelow m h l f k s = IsOfKind h l f m.players s × (sum_over m.players (weights m) s <ℤ pos k)

-- so much more from the quota on
abbrev pub bonus : ℤ → ℕ → ℕ → ℤ
bonus more quota w = cond (nat_le quota w) more (pos 0)

union-weights : (m : Numbers) (h l : Bool) (f k : ℕ)
    → IsUnion (IsBelow m h l f k) (Old m h l f m.players k) (IsBelow m h l f (suc k))
union-weights m h l f k = record {
  cases =
      λ s r. elim (less_or_equal (sum_over m.players (weights m) s) r.1)
      [ inl less ↦ inl (r.0, less) | inr e ↦ inr (r.0, e) ];
  left = λ s r. (r.0, still_less (sum_over m.players (weights m) s) r.1);
  right = λ s r. (r.0, equal_is_less (sum_over m.players (weights m) s) r.1);
}
  where
    less_or_equal : (z : ℤ) → z <ℤ pos (suc k) → (z <ℤ pos k) ⊎ (z ≡ pos k)
    less_or_equal z h = grind (arith, linear)

    still_less : (z : ℤ) → z <ℤ pos k → z <ℤ pos (suc k)
    still_less z h = omega (arith, linear)

    equal_is_less : (z : ℤ) → z ≡ pos k → z <ℤ pos (suc k)
    equal_is_less z h = omega (arith, linear)

-- where a set's value is its sum and the bonus of its weight
pub IsBest-below : (m : Numbers) (h l : Bool) (f : ℕ) (layer : Layer) (more : ℤ) (quota : ℕ) (value : ℕ → ℤ)
    → IsLayer m h l f m.players layer
    → ((s w : ℕ) → sum_over m.players (weights m) s ≡ pos w
    → value s ≡ sum_over m.players m.number s +ℤ bonus more quota w)
    → (k : ℕ) → k ≤ 1001 → IsBest (IsBelow m h l f k) value (best_below more quota layer k)
unfolding best_below
IsBest-below m h l f layer more quota value hl e zero le =
    λ s r. let low = weight_low m s in none_below_zero (sum_over m.players (weights m) s) low r.1
IsBest-below m h l f layer more quota value hl e (suc k) le =
    IsBest-better (IsBelow m h l f k) (Old m h l f m.players k) (IsBelow m h l f (suc k)) value
    (best_below more quota layer k) (raised (at_weight layer k) (bonus more quota k))
    (IsBest-below m h l f layer more quota value hl e k (omega arith))
    (IsBest-raised (Old m h l f m.players k) (sum_over m.players m.number) value (bonus more quota k)
    (at_weight layer k) (hl.each k (omega arith)) (λ s r. e s k r.1))
    (union-weights m h l f k)

-- ---- nobody

-- the empty set alone
pub IsLayer-nobody : (m : Numbers) (f : ℕ) (l : Layer)
    → at_weight l 0 ≡ Some (record { sum = pos 0; coalition = 0 }) → ((w : ℕ) → 0 < w → at_weight l w ≡ None)
    → IsLayer m false false f 0 l
IsLayer-nobody m f l first others = record { each = λ w few. best_of_empty w }
  where
    only : (s : ℕ) → s < 2 ^ 0 → s ≡ 0
    only s lt = omega arith

    heavy : (w s : ℕ) → s < 2 ^ 0 → sum_over m.players (weights m) s ≡ pos (suc w) → ⊥
    heavy w s lt e =
        let none = sum_over-empty m.players (weights m) in
        let same = ap (sum_over m.players (weights m)) (only s lt) in
        omega (arith, linear)

    at_most : (t : ℕ) → t < 2 ^ 0 → sum_over m.players m.number t ≤ℤ pos 0
    at_most t lt =
        rw (ap (sum_over m.players m.number) (only t lt), sum_over-empty m.players m.number) (omega (arith, linear))

    best_of_empty : (w : ℕ) → IsBest (IsOfWeight m false false f 0 w) (sum_over m.players m.number) (at_weight l w)
    best_of_empty zero = rw first (record {
      of_kind = ((omega arith, refl, refl), sum_over-empty m.players (weights m));
      value = sym (sum_over-empty m.players m.number);
      greatest = λ t k. at_most t k.0.0;
      least = λ t k lt. absurd (omega arith);
    })
    best_of_empty (suc w) = rw (others (suc w) (omega arith)) (λ s k. heavy w s k.0.0 k.1)

-- nobody holds some of f, or lacks some
pub IsLayer-none : (m : Numbers) (h l : Bool) (f : ℕ) (layer : Layer) → ((h ≡ true) ⊎ (l ≡ true))
    → ((w : ℕ) → at_weight layer w ≡ None) → IsLayer m h l f 0 layer
IsLayer-none m h l f layer some none = record { each = λ w few. rw (none w) (λ s k. refused some k.0.1 k.0.2) }
  where
    refused : ((h ≡ true) ⊎ (l ≡ true)) → passes h false ≡ true → passes l false ≡ true → ⊥
    refused (inl e) p q = false≢true (rw e at p)
    refused (inr e) p q = false≢true (rw e at q)
