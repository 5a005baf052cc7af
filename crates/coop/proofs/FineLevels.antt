-- The excesses of a certificate that a solver found stand over denominators that can be printed over any scale.
use Rattle.std.proofs.Common.{◌≡◌, ◌<◌, ◌≤◌, ◌^◌, ℕ, List, [], ◌∷◌, ◌++◌, length}
use Rattle.std.proofs.Common.{ℤ}
use Rattle.std.proofs.Common.{pos, ◌≤ℤ◌, ◌*ℤ◌, unsigned_abs, sym, arith}
use Rattle.std.specs.List.{AllByRecursion}
use Rattle.std.proofs.lemmas.Int.{ints}
use Rattle.std.proofs.lemmas.Nat.Gcd.{le_of_dvd}
use Rattle.definitions.specs.Certificates.{Level, LevelsForm, HasExcess, LevelsHold}
use Rattle.definitions.specs.Games.{Game, Allocation, IsShares, measured_excess}
use Rattle.definitions.specs.Measures.{measured_den}
use Rattle.definitions.specs.declared.Family.{Family}
use Rattle.definitions.specs.declared.Measure.{Measure}
use Rattle.definitions.specs.declared.Measure.TheVariants.{Plain, PerHead}
use Rattle.definitions.specs.declared.Mode.{Mode}
use Rattle.fractions.specs.Fraction.{Fraction, IsReduced, IsRatio}
use Rattle.fractions.proofs.Ratios.{apart, denominator_divides}
use Rattle.kohlberg.specs.Certificate.{CertificateData, IsCertificate}
use Rattle.kohlberg.specs.Solved.{IsLowest, IsSolved}
use Rattle.report.specs.Certificates.{excess_of}
use Rattle.report.specs.Limits.{IsFine}

-- a fraction in lowest terms of a value over a denominator has no greater one
pub reduced_is_fine : (f : Fraction) (e d : ℤ) → IsReduced f → pos 1 ≤ℤ d → unsigned_abs d < 2 ^ 100
    → e *ℤ f.den ≡ f.num *ℤ d
    → IsFine f.den
reduced_is_fine f e d r p small same =
    let ratio : IsRatio f e d = record { divisor = apart d p; reduced = r; same = sym same } in
    let some : 0 < unsigned_abs d = omega (arith, ints, p) in
    let le = le_of_dvd some (denominator_divides f e d ratio) in
    let low = r.positive in
    (low, omega (arith, ints, low, le, small))

-- likewise of a fraction over the denominator of shares
pub ratio_is_fine : (f : Fraction) (n d : ℤ) → IsRatio f n d → pos 1 ≤ℤ d → d ≤ℤ pos (2 ^ 63) → IsFine f.den
ratio_is_fine f n d r p h = reduced_is_fine f n d r.reduced p (omega (arith, ints, p, h)) (sym r.same)

-- the denominator of measured excesses
pub measured_den_positive : (measure : Measure) (q : ℤ) → pos 1 ≤ℤ q → pos 1 ≤ℤ measured_den measure q
measured_den_positive Plain q p = p
measured_den_positive PerHead q p = omega (arith, ints, p)

pub measured_den_small : (measure : Measure) (q : ℤ) → pos 1 ≤ℤ q → q ≤ℤ pos (2 ^ 63)
    → unsigned_abs (measured_den measure q) < 2 ^ 100
measured_den_small Plain q p h = omega (arith, ints, p, h)
measured_den_small PerHead q p h = omega (arith, ints, p, h)

-- a level has a coalition, whose excess it has
some_coalition_has_it : (measure : Measure) (g : Game) (x : Allocation) (l : Level) (cs : List (ℕ × ℤ))
    → 1 ≤ length cs
    → AllByRecursion (λ c. HasExcess measure g x l c.0) cs → (s : ℕ) × HasExcess measure g x l s
some_coalition_has_it measure g x l [] some h = absurd (omega (arith, some))
some_coalition_has_it measure g x l (c ∷ cs) some h = (c.0, h.0)

module _ (mode : Mode) (family : Family) (measure : Measure) (g : Game) (x : Allocation) (n : ℕ)
    (p : pos 1 ≤ℤ x.den) (q : x.den ≤ℤ pos (2 ^ 63)) where
  levels_are_fine : (front levels : List Level) → LevelsForm n front levels
      → LevelsHold mode family measure g x front levels → AllByRecursion IsLowest levels
      → AllByRecursion (λ l. IsFine l.excess_den) levels
  levels_are_fine front [] form holds low = tt
  levels_are_fine front (l ∷ levels) form holds low =
      let one = some_coalition_has_it measure g x l l.coalitions form.0.some holds.0.excesses in (
        reduced_is_fine (excess_of l) (measured_excess measure g x one.0) (measured_den measure x.den) low.0.0
            (measured_den_positive measure x.den p) (measured_den_small measure x.den p q) one.1,
        levels_are_fine (front ++ l ∷ []) levels form.1 holds.1 low.1,
      )

pub fine_levels : (mode : Mode) (family : Family) (measure : Measure) (g : Game) (x : Allocation)
    (c : CertificateData) → IsShares x → IsCertificate c → IsSolved mode family measure g x c
    → AllByRecursion (λ l. IsFine l.excess_den) c.levels
fine_levels mode family measure g x c s h found =
    levels_are_fine mode family measure g x c.players s.positive s.common [] c.levels h.form.each found.certifies.1
    found.lowest
