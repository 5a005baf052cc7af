-- Numbers of columns are 0 or one weight each, so net numbers are small.
use Rattle.std.proofs.Common.{◌≡◌, ◌≢◌, ℕ, ◌^◌, ◌<◌}
use Rattle.std.proofs.Common.{nat_eq, List, [], ◌∷◌, map, ℤ, pos}
use Rattle.std.proofs.Common.{◌-ℤ◌, ◌≤ℤ◌, unsigned_abs, sym, ap, ◌∙◌, inl, inr, arith}
use Rattle.std.proofs.lemmas.Bool.Decides.{nat_tests}
use Rattle.std.proofs.lemmas.Int.{ints}
use Rattle.std.specs.List.{AllByRecursion, IsDistinct}
use Rattle.definitions.proofs.Ring.{linear}
use Rattle.definitions.specs.Certificates.{number_at, IsSmall}
use Rattle.nested_programs.specs.Numbers.{AreNumbers, net}
use Rattle.nested_programs.proofs.NumberedColumns.{number_past_other, number_apart}
use Rattle.definitions.proofs.Alls.{all_with}
use Rattle.definitions.proofs.Cases.{true_or_false}

-- at least 0, and below 2^62
abbrev IsNumber : ℤ → Type 0
IsNumber z = (pos 0 ≤ℤ z) × (unsigned_abs z < 2 ^ 62)

one_number : (w : ℤ) → pos 1 ≤ℤ w → unsigned_abs w < 2 ^ 62 → IsNumber w
one_number w one small = (omega (arith, linear, one), small)

no_number : IsNumber (pos 0)
no_number = (omega (arith, linear), omega arith)

number_is : (k : ℕ) (ws : List (ℕ × ℤ)) → AllByRecursion (λ w. IsNumber w.1) ws
    → IsDistinct nat_eq (map (λ (w : ℕ × ℤ). w.0) ws) → IsNumber (number_at ws k)
unfolding IsDistinct
number_is k [] h apart = no_number
number_is k (w ∷ ws) h apart = elim (true_or_false (nat_eq w.0 k)) [
  | inl t ↦
      let e : w.0 ≡ k = grind (arith, nat_tests) in
      let none : number_at ws k ≡ pos 0 = ap (number_at ws) (sym e) ∙ number_apart w.0 ws apart.0 in
      let one : number_at (w ∷ ws) k ≡ w.1 = rw t (omega (arith, linear, none)) in
      rw one h.0
  | inr t ↦
      let ne : w.0 ≢ k = grind (arith, nat_tests) in
      rw (number_past_other w ws k ne) (number_is k ws h.1 apart.1)
]

are_numbers : (ws : List (ℕ × ℤ)) → AreNumbers ws → AllByRecursion (λ w. IsNumber w.1) ws
are_numbers ws h =
    all_with (λ w. pos 1 ≤ℤ w.1) (λ w. unsigned_abs w.1 < 2 ^ 62) (λ w. IsNumber w.1) ws
    (λ w one small. one_number w.1 one small) h.positive h.small

difference_small : (a b : ℤ) → pos 0 ≤ℤ a → pos 0 ≤ℤ b → unsigned_abs a < 2 ^ 62 → unsigned_abs b < 2 ^ 62
    → unsigned_abs (a -ℤ b) < 2 ^ 63
difference_small a b ha hb sa sb = omega (arith, ints)

pub net_small : (ws : List (ℕ × ℤ)) (a b : ℕ) → AreNumbers ws → IsSmall (net ws a b)
net_small ws a b h =
    let na = number_is a ws (are_numbers ws h) h.distinct in
    let nb = number_is b ws (are_numbers ws h) h.distinct in
    difference_small (number_at ws a) (number_at ws b) na.0 nb.0 na.1 nb.1
