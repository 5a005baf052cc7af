-- The floor of a table's row, found column by column.
--
-- The floor is a number that no entry of the row is below. If an excess isn't above the floor, the row stays as it is.
-- So most coalitions need only one comparison for each member.
use Rattle.std.proofs.Common.{◌≡◌, ◌≢◌, ℕ, ◌+◌, ◌<◌, Bool, true, false, not, nat_eq}
use Rattle.std.proofs.Common.{List, ℤ, ◌≤ℤ◌}
use Rattle.std.proofs.Common.{int_lt, Option, Some, None, arith, refl, ◌∙◌, inl, inr, cond}
use Rattle.std.proofs.lemmas.Int.{ints}
use Rattle.definitions.proofs.Cases.{same_or_other, less_or_last_of, nat_eq-equal, nat_eq-other}
use Rattle.kernel_test.specs.Tables.{number_at, lesser, lesser_where, IsFrom, IsFloor}

from_lesser : (m k : ℤ) (x : Option ℤ) → k ≤ℤ m → IsFrom m x → IsFrom k x
from_lesser m k None le h = h
from_lesser m k (Some v) le h = omega (arith, ints, le, h)

pub floor_more : (old new : List (Option ℤ)) (i k : ℕ) (m next : Option ℤ) → IsFloor old i k m
    → ((j : ℕ) → j < k → number_at new i j ≡ number_at old i j)
    → next ≡ lesser_where (not (nat_eq k i)) m (number_at new i k) → IsFloor new i (k + 1) next
floor_more old new i k None next h same e = rw (e ∙ nothing (not (nat_eq k i))) tt
  where
    nothing : (b : Bool) → lesser_where b None (number_at new i k) ≡ None
    nothing true = refl
    nothing false = refl
floor_more old new i k (Some m) next h same e = rw e (elim (same_or_other k i) [
  | inl own ↦ rw (nat_eq-equal k i own)
      (λ j lt ne. elim (less_or_last_of j k lt) [ inl less ↦ kept j less ne | inr last ↦ absurd (ne (last ∙ own)) ])
  | inr other ↦ rw (nat_eq-other k i other) (found (number_at new i k) refl)
])
  where
    kept : (j : ℕ) → j < k → j ≢ i → IsFrom m (number_at new i j)
    kept j less ne = rw (same j less) (h j less ne)

    found : (x : Option ℤ) → number_at new i k ≡ x → IsFloor new i (k + 1) (lesser (Some m) x)
    found None f = tt
    found (Some v) f = decide (int_lt v m) refl
      where
        decide : (b : Bool) → int_lt v m ≡ b → IsFloor new i (k + 1) (Some (cond b v m))
        decide true lt = λ j within ne. elim (less_or_last_of j k within) [
          | inl less ↦ from_lesser m v (number_at new i j) (omega (arith, ints)) (kept j less ne)
          | inr last ↦ rw (last, f) (omega (arith, ints))
        ]
        decide false ge = λ j within ne. elim (less_or_last_of j k within)
            [ inl less ↦ kept j less ne | inr last ↦ rw (last, f) (omega (arith, ints)) ]
