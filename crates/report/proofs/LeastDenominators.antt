-- The least common denominator of shares as it is printed.
use Rattle.std.proofs.Common.{◌≡◌, ℕ, ◌+◌, ◌/◌, ◌^◌, ◌<◌, ◌≤◌, ℤ, pos, ◌≤ℤ◌}
use Rattle.std.proofs.Common.{List, [], ◌∷◌, ◌++◌, length, get_or}
use Rattle.std.proofs.Common.{unsigned_abs, refl, sym, ap, ap₂, ◌∙◌, subst, arith, append_assoc, length-append}
use Rattle.std.proofs.lemmas.Int.{ints}
use Rattle.std.proofs.Math.Nat.{div-le_self}
use Rattle.std.proofs.Math.Seq.{get_or-append_seam}
use Rattle.definitions.specs.Games.{Allocation}
use Rattle.fractions.specs.Divisors.{gcd}
use Rattle.worth_core.specs.LeastDenominators.{IsLeastDenominator, as_fractions}
use Rattle.worth_core.proofs.LeastMultiples.{one_denominator}
use Rattle.worth_core.proofs.SharedDivisors.{IsFrontDivisor, divisor_first, divisor_more, divisor_last}
use Rattle.report.specs.SummaryTrees.{common_divisor, least_denominator}

-- what is in front has been taken into g, and what is behind is still to come
divisor_of_front : (q : ℕ) (all front back : List ℤ) (i g : ℕ) → all ≡ front ++ back → i ≡ length front
    → IsFrontDivisor q all i g → IsFrontDivisor q all (length all) (common_divisor g back)
divisor_of_front q all front [] i g e len f =
    let whole : length all ≡ length front + 0 = ap (λ (l : List ℤ). length l) e ∙ length-append front [] in
    let same : i ≡ length all = omega (arith, whole, len) in
    subst (λ (n : ℕ). IsFrontDivisor q all n g) same f
divisor_of_front q all front (z ∷ back) i g e len f =
    let whole : length all ≡ length front + length (z ∷ back) =
    ap (λ (l : List ℤ). length l) e ∙ length-append front (z ∷ back) in
    let lt : i < length all = omega (arith, whole, len) in
    let here : get_or all i z ≡ z =
    ap₂ (λ (l : List ℤ) (n : ℕ). get_or l n z) e len ∙ get_or-append_seam front z back z in
    let longer : i + 1 ≡ length (front ++ z ∷ []) =
    let more = length-append front (z ∷ []) in omega (arith, more, len) in
    divisor_of_front q all (front ++ z ∷ []) back (i + 1) (gcd g (unsigned_abs z))
    (e ∙ sym (append_assoc front (z ∷ []) back)) longer
    (divisor_more q all i g (gcd g (unsigned_abs z)) z lt f (ap (λ (w : ℤ). gcd g (unsigned_abs w)) (sym here)))

pub least_denominator_is : (x : Allocation) (d : ℤ) → pos 1 ≤ℤ x.den → IsLeastDenominator (as_fractions x) d
    → d ≡ least_denominator x
least_denominator_is x d p h =
    let q = unsigned_abs x.den in
    let some : 0 < q = omega (arith, ints) in
    one_denominator (as_fractions x) d (least_denominator x) h
    (divisor_last x.den x.shares (length x.shares) (common_divisor q x.shares) p (omega arith)
    (divisor_of_front q x.shares [] x.shares 0 q refl refl (divisor_first q x.shares some)))

-- it is no greater than the denominator
pub least_denominator_small : (x : Allocation) (d : ℤ) → pos 1 ≤ℤ x.den → x.den ≤ℤ pos (2 ^ 63)
    → IsLeastDenominator (as_fractions x) d → unsigned_abs d < 2 ^ 127
least_denominator_small x d p h k =
    let q = unsigned_abs x.den in
    let same : unsigned_abs d ≡ q / common_divisor q x.shares = ap unsigned_abs (least_denominator_is x d p k) in
    let most : q / common_divisor q x.shares ≤ q = div-le_self q (common_divisor q x.shares) in
    let small : q ≤ 2 ^ 63 = omega (arith, ints, p, h) in
    omega (arith, same, most, small)
