-- Chains of the places of a table's numbers: one more place, and what is found along a chain.
use Rattle.std.proofs.Common.{◌≡◌, ◌≢◌, ◌∙◌, ℕ, ◌+◌, ◌-◌, ◌<◌, ◌≤◌, Bool, ◌&&◌}
use Rattle.std.proofs.Common.{◌||◌, nat_eq, replicate, List, length, set, get_or-set_same, get_or-set_other}
use Rattle.std.proofs.Common.{slice_index_or, ℤ, inl, inr, sym, ap, subst, arith}
use Rattle.std.specs.Bool.{Decides}
use Rattle.definitions.proofs.Cases.{last_or_less_of, below_or_above, same_or_other, nat_eq-equal, nat_eq-other}
use Rattle.definitions.proofs.Cases.{not_true, or_false}
use Rattle.spans.specs.Outside.{is_marked}
use Rattle.spans.specs.Places.{slot_of, IsLastPlace}
use Rattle.spans.specs.Sums.{number_at}
use Rattle.spans.proofs.Marks.{zeros_at}

-- ---- one more place

-- a place is the last one of its own slot
IsLastPlace-here : (numbers : List ℤ) (n : ℕ) → IsLastPlace numbers (slot_of (number_at numbers n)) (n + 1) (n + 1)
IsLastPlace-here numbers n = record {
  within = omega arith;
  has_slot = λ some. ap (λ (b : ℕ). slot_of (number_at numbers b)) (omega arith);
  none_behind = λ a le lt. absurd (omega arith);
}

-- a place of another slot changes nothing
IsLastPlace-more : (numbers : List ℤ) (slot n p : ℕ) → slot ≢ slot_of (number_at numbers n)
    → IsLastPlace numbers slot n p → IsLastPlace numbers slot (n + 1) p
IsLastPlace-more numbers slot n p other h = record {
  within = let le = h.within in omega (arith, le);
  has_slot = h.has_slot;
  none_behind = λ a le lt. elim (last_or_less_of a n lt) [
    | inl same ↦ λ e. other (sym e ∙ ap (λ (b : ℕ). slot_of (number_at numbers b)) same)
    | inr less ↦ h.none_behind a le less
  ];
}

-- before any place
pub no_place : (numbers : List ℤ) (slot t : ℕ) → IsLastPlace numbers slot 0 (slice_index_or (replicate 1024 0) t 0)
no_place numbers slot t = subst (IsLastPlace numbers slot 0) (sym (zeros_at 1024 t)) (record {
  within = omega arith;
  has_slot = λ some. absurd (omega arith);
  none_behind = λ a le lt. absurd (omega arith);
})

pub last_more : (numbers : List ℤ) (last : List ℕ) (n slot : ℕ) → length last ≡ 1024 → slot < 1024
    → ((t : ℕ) → t < 1024 → IsLastPlace numbers t n (slice_index_or last t 0))
    → slot ≡ slot_of (number_at numbers n) → (t : ℕ) → t < 1024
    → IsLastPlace numbers t (n + 1) (slice_index_or (set last slot (n + 1)) t 0)
last_more numbers last n slot len lt h is t less = elim (same_or_other t slot) [
  | inl same ↦ subst (λ (u : ℕ). IsLastPlace numbers u (n + 1) (slice_index_or (set last slot (n + 1)) u 0))
      (sym same)
      (subst (IsLastPlace numbers slot (n + 1))
      (sym (get_or-set_same last slot (n + 1) 0 (subst (λ (k : ℕ). slot < k) (sym len) lt)))
      (subst (λ (u : ℕ). IsLastPlace numbers u (n + 1) (n + 1)) (sym is) (IsLastPlace-here numbers n)))
  | inr other ↦ subst (IsLastPlace numbers t (n + 1)) (sym (get_or-set_other last slot t (n + 1) 0 other))
      (IsLastPlace-more numbers t n (slice_index_or last t 0) (λ e. other (e ∙ sym is)) (h t less))
]

pub before_more : (numbers : List ℤ) (before : List ℕ) (n p : ℕ) → n < length before
    → IsLastPlace numbers (slot_of (number_at numbers n)) n p
    → ((a : ℕ) → a < n → IsLastPlace numbers (slot_of (number_at numbers a)) a (slice_index_or before a 0))
    → (a : ℕ) → a < n + 1
    → IsLastPlace numbers (slot_of (number_at numbers a)) a (slice_index_or (set before n p) a 0)
before_more numbers before n p len here h a lt = elim (last_or_less_of a n lt) [
  | inl same ↦ subst
      (λ (b : ℕ). IsLastPlace numbers (slot_of (number_at numbers b)) b (slice_index_or (set before n p) b 0))
      (sym same)
      (subst (IsLastPlace numbers (slot_of (number_at numbers n)) n) (sym (get_or-set_same before n p 0 len)) here)
  | inr less ↦
      let other : a ≢ n = omega arith in
      subst (IsLastPlace numbers (slot_of (number_at numbers a)) a) (sym (get_or-set_other before n a p 0 other))
      (h a less)
]

-- ---- along a chain

-- the places from p on where a number stands are found, and p ends a chain of its slot
pub record IsFoundFrom (numbers : List ℤ) (z : ℤ) (found : List ℕ) (p : ℕ) : Type 0 where
  pub within : p ≤ 256
  pub has_slot : 0 < p → slot_of (number_at numbers (p - 1)) ≡ slot_of z
  pub found_is : (i : ℕ) → i < 256 → Decides (is_marked found i) ((p ≤ i) × (number_at numbers i ≡ z))

module _ (numbers : List ℤ) (z : ℤ) (found next : List ℕ) (p q : ℕ) (holds : Bool) (some : 0 < p)
    (old : IsFoundFrom numbers z found p) (decides : Decides holds (number_at numbers (p - 1) ≡ z))
    (marks : (i : ℕ) → i < 256 → is_marked next i ≡ ((nat_eq i (p - 1) && holds) || is_marked found i))
    (before : IsLastPlace numbers (slot_of (number_at numbers (p - 1))) (p - 1) q) where
  marked_here : (i : ℕ) → i < 256 → i ≡ p - 1 → Decides (is_marked next i) ((q ≤ i) × (number_at numbers i ≡ z))
  marked_here i lt same =
      let is : is_marked next i ≡ holds =
      marks i lt ∙ ap (λ (b : Bool). (b && holds) || is_marked found i) (nat_eq-equal i (p - 1) same)
      ∙ ap (λ (b : Bool). holds || b) (not_true (is_marked found i) (λ e. below ((old.found_is i lt).0 e).0))
      ∙ or_false holds in
      let number : number_at numbers i ≡ number_at numbers (p - 1) = ap (number_at numbers) same in (
        λ e. (let le = before.within in omega (arith, same, le), number ∙ decides.0 (sym is ∙ e)),
        λ h. is ∙ decides.1 (sym number ∙ h.1),
      )
    where
      below : p ≤ i → ⊥
      below le = absurd (omega (arith, le, same, some))

  marked_else : (i : ℕ) → i < 256 → i ≢ p - 1 → Decides (is_marked next i) ((q ≤ i) × (number_at numbers i ≡ z))
  marked_else i lt other =
      let is : is_marked next i ≡ is_marked found i =
      marks i lt ∙ ap (λ (b : Bool). (b && holds) || is_marked found i) (nat_eq-other i (p - 1) other) in (
        λ e.
            let h = (old.found_is i lt).0 (sym is ∙ e) in
            (let le = h.0 in let back = before.within in omega (arith, le, back), h.1),
        λ h. is ∙ (old.found_is i lt).1 (behind h.0 h.1, h.1),
      )
    where
      behind : q ≤ i → number_at numbers i ≡ z → p ≤ i
      behind le e = elim (below_or_above i (p - 1)) [
        | inl less ↦ absurd (before.none_behind i le less (ap slot_of e ∙ sym (old.has_slot some)))
        | inr more ↦ omega (arith, more, other, some)
      ]

  pub found_step : IsFoundFrom numbers z next q
  found_step = record {
    within = let within = old.within in let back = before.within in omega (arith, within, back);
    has_slot = λ more. before.has_slot more ∙ old.has_slot some;
    found_is = λ i lt. elim (same_or_other i (p - 1))
        [ inl same ↦ marked_here i lt same | inr other ↦ marked_else i lt other ];
  }
