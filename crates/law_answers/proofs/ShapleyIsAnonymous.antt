-- What a player adds to a coalition, it adds in the renumbered game to the renumbered coalition, which comes before it
-- in as many orders. So the sums over all coalitions are the same.
use Rattle.std.proofs.Common.{◌≡◌, ℕ, zero, suc, ◌+◌, ◌^◌, ◌<◌, Bool, cond, length, ℤ, pos, ◌-ℤ◌, ◌*ℤ◌, sym, ap}
use Rattle.std.proofs.Common.{◌∙◌, inl, inr, true, false, refl, arith}
use Rattle.std.proofs.lemmas.Bool.{false≢true}
use Rattle.std.proofs.lemmas.List.FromFn.{length-map-range_with_len}
use Rattle.definitions.proofs.Cases.{same_or_other, true_or_false}
use Rattle.definitions.proofs.Halves.{size_below, size_below-yes, size_below-no, size_below-zero}
use Rattle.definitions.proofs.Members.{sum_below-same}
use Rattle.definitions.proofs.Parts.{has_player-more_same, has_player-more_other, more-lt}
use Rattle.definitions.proofs.Ring.{linear}
use Rattle.definitions.specs.Coalitions.{has_player, sum_over}
use Rattle.definitions.specs.Games.{share}
use Rattle.definitions.specs.Shapley.{shapley_total, factorial}
use Rattle.shapley.specs.Subsets.{orders_with, subset_term}
use Rattle.shapley.proofs.Orders.{orders_are_subsets}
use Rattle.law_answers.specs.Renumbering.{IsRenumbering, renumbered_coalition}
use Rattle.law_answers.specs.ShapleyEquivalence.{ShapleyIsAnonymous}
use Rattle.law_answers.proofs.Gathered.{sum_below-renumbered}
use Rattle.law_answers.proofs.RenumberedCoalitions.{coalition_where-within, coalition_where-has, reverse_of, same_below}
use Rattle.law_answers.proofs.RenumberedCoalitions.{sum_over-was, was_back}
use Rattle.law_answers.proofs.RenumberingChangesNothing.{renumbered_share}

-- the coalitions of n players, renumbered
pub coalitions_renumbered : (n : ℕ) (to back : ℕ → ℕ) → IsRenumbering n to back
    → IsRenumbering (2 ^ n) (renumbered_coalition n back) (renumbered_coalition n to)
coalitions_renumbered n to back r = record {
  to_within = λ s lt. coalition_where-within n (λ i. has_player s (back i));
  back_within = λ s lt. coalition_where-within n (λ i. has_player s (to i));
  back_to = λ s lt. was_back n to back r s lt;
  to_back = λ s lt. was_back n back to (reverse_of n to back r) s lt;
}

-- a sum of ones over the members counts them
counted_below : (k s : ℕ) → pos (size_below k s) ≡ sum_over k (λ i. pos 1) s
counted_below zero s = ap pos (size_below-zero s)
counted_below (suc k) s = elim (true_or_false (has_player s k)) [
  | inl e ↦ ap pos (size_below-yes k s e)
      ∙ omega (arith, linear, counted_below k s, ap (λ (b : Bool). cond b (pos 1) (pos 0)) e)
  | inr e ↦ ap pos (size_below-no k s e)
      ∙ omega (arith, linear, counted_below k s, ap (λ (b : Bool). cond b (pos 1) (pos 0)) e)
]

module _ (n : ℕ) (to back : ℕ → ℕ) (r : IsRenumbering n to back) where
  abbrev was : ℕ → ℕ
  was s = renumbered_coalition n back s

  has_was : (s i : ℕ) → i < n → has_player (was s) i ≡ has_player s (back i)
  has_was s i lt = coalition_where-has n (λ i. has_player s (back i)) i lt

  has_was_to : (s i : ℕ) → i < n → has_player (was s) (to i) ≡ has_player s i
  has_was_to s i lt = has_was s (to i) (r.to_within i lt) ∙ ap (has_player s) (r.back_to i lt)

  size_was : (s : ℕ) → size_below n s ≡ size_below n (was s)
  size_was s =
      let a = counted_below n s in
      omega (arith, linear, a, counted_below n (was s), sum_over-was n to back r (λ i. pos 1) s)

  -- with player i as well, the coalition was that with who i was
  was_more : (s i : ℕ) → i < n → has_player s i ≡ false → was (s + 2 ^ i) ≡ was s + 2 ^ to i
  was_more s i lt out =
      let k = to i in
      let hk = r.to_within i lt in
      let out_was = has_was_to s i lt ∙ out in
      same_below n (was (s + 2 ^ i)) (was s + 2 ^ k) (coalition_where-within n (λ j. has_player (s + 2 ^ i) (back j)))
      (more-lt n (was s) k (coalition_where-within n (λ j. has_player s (back j))) hk out_was)
      (λ j h. has_was (s + 2 ^ i) j h ∙ elim (same_or_other j k) [
        | inl same ↦
            let b : back j ≡ i = ap back same ∙ r.back_to i lt in
            ap (has_player (s + 2 ^ i)) b ∙ has_player-more_same s i out
            ∙ sym (ap (has_player (was s + 2 ^ k)) same ∙ has_player-more_same (was s) k out_was)
        | inr other ↦
            has_player-more_other s i (back j) out (λ e. other (sym (r.to_back j h) ∙ ap to e))
            ∙ sym (has_player-more_other (was s) k j out_was other ∙ has_was s j h)
      ])

  pub total_renumbered : (v : ℕ → ℤ) (i : ℕ) → i < n
      → shapley_total (record { players = n; worth = λ s. v (was s) }) i
      ≡ shapley_total (record { players = n; worth = v }) (to i)
  total_renumbered v i lt =
      orders_are_subsets (record { players = n; worth = λ s. v (was s) }) i lt
      ∙ sum_below-same (2 ^ n) (subset_term (λ s. v (was s)) n i) (λ s. subset_term v n (to i) (was s))
      (λ s h. term s (has_player s i) (has_player (was s) (to i)) (has_was_to s i lt) (was_more s i lt))
      ∙ sum_below-renumbered (2 ^ n) was (renumbered_coalition n to) (subset_term v n (to i))
      (coalitions_renumbered n to back r)
      ∙ sym (orders_are_subsets (record { players = n; worth = v }) (to i) (r.to_within i lt))
    where
      term : (s : ℕ) (b c : Bool) → c ≡ b → (b ≡ false → was (s + 2 ^ i) ≡ was s + 2 ^ to i)
          → cond b (pos 0) (pos (orders_with n (size_below n s)) *ℤ (v (was (s + 2 ^ i)) -ℤ v (was s)))
          ≡ cond c (pos 0) (pos (orders_with n (size_below n (was s))) *ℤ (v (was s + 2 ^ to i) -ℤ v (was s)))
      term s true true e more = refl
      term s true false e more = absurd (false≢true e)
      term s false true e more = absurd (false≢true (sym e))
      term s false false e more =
          ap (λ (k : ℕ). pos (orders_with n k) *ℤ (v (was (s + 2 ^ i)) -ℤ v (was s))) (size_was s)
          ∙ ap (λ (t : ℕ). pos (orders_with n (size_below n (was s))) *ℤ (v t -ℤ v (was s))) (more refl)

pub shapley_is_anonymous : ShapleyIsAnonymous
shapley_is_anonymous g x to back r h = (
  (length-map-range_with_len (λ i. share x (to i)) 0 (length x.shares) ∙ h.0.0, h.0.1),
  λ i lt.
      ap (λ z. z *ℤ pos (factorial g.players)) (renumbered_share to x i (let long = h.0.0 in omega (arith, lt, long)))
      ∙ h.1 (to i) (r.to_within i lt)
      ∙ ap (◌*ℤ◌ x.den) (sym (total_renumbered g.players to back r g.worth i lt)),
)
