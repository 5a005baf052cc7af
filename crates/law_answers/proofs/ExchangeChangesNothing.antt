-- Two players that exchange their numbers exchange their shares of the nucleolus: an exchange is a renumbering that is
-- its own way back.
use Rattle.std.proofs.Common.{◌≡◌, ◌≢◌, ℕ, ◌<◌, refl, sym, ap, ◌∙◌, inl, inr}
use Rattle.definitions.proofs.Cases.{same_or_other, nat_eq-same, nat_eq-other}
use Rattle.law_answers.specs.Renumbering.{IsRenumbering, exchanged, ExchangeChangesNothing}
use Rattle.law_answers.proofs.RenumberingChangesNothing.{renumbering_changes_nothing}

pub exchanged_first : (i j : ℕ) → exchanged i j i ≡ j
exchanged_first i j = rw (nat_eq-same i) refl

pub exchanged_other : (i j k : ℕ) → k ≢ i → k ≢ j → exchanged i j k ≡ k
exchanged_other i j k a b = rw (nat_eq-other k i a) (rw (nat_eq-other k j b) refl)

pub exchanged_second : (i j : ℕ) → exchanged i j j ≡ i
exchanged_second i j = elim (same_or_other j i) [
  | inl same ↦ ap (exchanged i j) same ∙ exchanged_first i j ∙ same
  | inr other ↦ rw (nat_eq-other j i other) (rw (nat_eq-same j) refl)
]

exchanged_within : (n i j : ℕ) → i < n → j < n → (k : ℕ) → k < n → exchanged i j k < n
exchanged_within n i j hi hj k hk = elim (same_or_other k i) [
  | inl first ↦ rw (ap (exchanged i j) first ∙ exchanged_first i j) hj
  | inr other ↦ elim (same_or_other k j) [
    | inl second ↦ rw (ap (exchanged i j) second ∙ exchanged_second i j) hi
    | inr neither ↦ rw (exchanged_other i j k other neither) hk
  ]
]

exchanged_twice : (i j k : ℕ) → exchanged i j (exchanged i j k) ≡ k
exchanged_twice i j k = elim (same_or_other k i) [
  | inl first ↦
      ap (exchanged i j) (ap (exchanged i j) first ∙ exchanged_first i j) ∙ exchanged_second i j ∙ sym first
  | inr other ↦ elim (same_or_other k j) [
    | inl second ↦
        ap (exchanged i j) (ap (exchanged i j) second ∙ exchanged_second i j) ∙ exchanged_first i j ∙ sym second
    | inr neither ↦
        ap (exchanged i j) (exchanged_other i j k other neither) ∙ exchanged_other i j k other neither
  ]
]

pub exchange_is_renumbering : (n i j : ℕ) → i < n → j < n → IsRenumbering n (exchanged i j) (exchanged i j)
exchange_is_renumbering n i j hi hj = record {
  to_within = exchanged_within n i j hi hj;
  back_within = exchanged_within n i j hi hj;
  back_to = λ k lt. exchanged_twice i j k;
  to_back = λ k lt. exchanged_twice i j k;
}

pub exchange_changes_nothing : ExchangeChangesNothing
exchange_changes_nothing family measure g x i j m hi hj h =
    renumbering_changes_nothing family measure g x (exchanged i j) (exchanged i j) m
    (exchange_is_renumbering g.players i j hi hj) h
