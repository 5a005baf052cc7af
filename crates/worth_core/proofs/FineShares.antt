-- Fractions over their least common denominator are shares, or too fine for that.
use Rattle.std.proofs.Common.{◌≡◌, ℕ, ◌<◌, ◌≤◌, ◌^◌, arith, sym, ap, subst, ◌∙◌}
use Rattle.std.proofs.Common.{List, [], ◌∷◌, ◌++◌, ◌+◌}
use Rattle.std.proofs.Common.{length, get_or, take, map, All, ℤ, pos, ◌≤ℤ◌, unsigned_abs}
use Rattle.std.proofs.lemmas.List.{length-map, get_or-map, take_more, map-append}
use Rattle.definitions.specs.Games.{IsShares}
use Rattle.fractions.specs.Fraction.{Fraction}
use Rattle.worth_core.specs.Allocations.{allocation}
use Rattle.worth_core.specs.LeastDenominators.{IsLeastDenominator, numerator_over, AreTooFine}
use Rattle.worth_core.proofs.LeastMultiples.{one_denominator}

pub fine_shares : (fs : List Fraction) (d : ℤ) (zs : List ℤ) → zs ≡ map (numerator_over d) fs → 1 ≤ length fs
    → length fs ≤ 64 → pos 1 ≤ℤ d → d ≤ℤ pos (2 ^ 63) → All (λ z. unsigned_abs z < 2 ^ 110) zs
    → IsShares (allocation zs d)
fine_shares fs d zs e some few positive common small = record {
  some = omega (arith, ap length e, length-map fs (numerator_over d));
  few = omega (arith, ap length e, length-map fs (numerator_over d));
  positive = positive;
  common = common;
  small = λ i lt. small i (pos 0) lt;
}

pub too_fine_numerator : (fs : List Fraction) (d : ℤ) (i : ℕ) (f : Fraction) → IsLeastDenominator fs d
    → i < length fs → f ≡ get_or fs i f → (unsigned_abs (numerator_over d f) < 2 ^ 110 → ⊥) → AreTooFine fs
too_fine_numerator fs d i f h lt is large e k shares =
    let same = one_denominator fs d e h k in
    let place : i < length (map (numerator_over e) fs) =
    subst (λ (n : ℕ). i < n) (sym (length-map fs (numerator_over e))) lt in
    large
    (subst (λ (z : ℤ). unsigned_abs z < 2 ^ 110)
    (get_or-map (numerator_over e) fs i f (pos 0) lt ∙ sym (ap (numerator_over e) is)
    ∙ ap (λ (z : ℤ). numerator_over z f) (sym same)) (shares.small i place))

-- one numerator more
pub over_more : (d : ℤ) (fs : List Fraction) (i : ℕ) (f : Fraction) (zs : List ℤ) (z : ℤ) → i < length fs
    → f ≡ get_or fs i f → zs ≡ map (numerator_over d) (take i fs) → z ≡ numerator_over d f
    → zs ++ z ∷ [] ≡ map (numerator_over d) (take (i + 1) fs)
over_more d fs i f zs z lt is e same =
    ap (λ (ys : List ℤ). ys ++ z ∷ []) e
    ∙ ap (λ (y : ℤ). map (numerator_over d) (take i fs) ++ y ∷ []) (same ∙ ap (numerator_over d) is)
    ∙ sym (map-append (numerator_over d) (take i fs) (get_or fs i f ∷ []))
    ∙ ap (map (numerator_over d)) (sym (take_more fs i f lt))
