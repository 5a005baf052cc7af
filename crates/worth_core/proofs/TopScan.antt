-- What a scan over masks in some order knows of the greatest measured excess, over the masks behind it that P holds of.
use Rattle.std.proofs.Common.{◌≡◌, ◌⊎◌, ℕ, ◌+◌, ◌-◌, ◌^◌, ◌<◌, Bool, true, false}
use Rattle.std.proofs.Common.{ℤ, pos, ◌*ℤ◌, ◌≤ℤ◌, Option, Some}
use Rattle.std.proofs.Common.{None, MatchOption, IsSome, IsTrue, arith, refl, sym, subst, ◌∙◌, inl}
use Rattle.std.proofs.Common.{inr}
use Rattle.std.proofs.lemmas.Bool.{false≢true}
use Rattle.fractions.specs.Fraction.{Fraction, IsRatio}
use Rattle.definitions.proofs.Ring.{linear}
use Rattle.definitions.proofs.Measured.{measured-order, measured-same}
use Rattle.definitions.specs.Sums.{IsGreatest}
use Rattle.definitions.specs.Measures.{divisor, IsMeasurable}
use Rattle.std.proofs.Math.Pow.{pow-lt, pow_pos}
use Rattle.definitions.specs.Coalitions.{singleton, grand_coalition}
use Rattle.definitions.specs.Games.{Game, Allocation, excess, measured_excess, HasTwo}
use Rattle.definitions.specs.declared.Measure.{Measure}
use Rattle.worth_core.proofs.SplitScan.{is_split, is_split-singleton}
use Rattle.worth_core.specs.Measured.{Divided, IsDivided, IsGreatestDivided, is_below, IsValueOf}
use Rattle.definitions.proofs.Cases.{less_or_last_of}

-- of the masks of the steps below m, where step t has the mask order t: among those that P holds of, one has the
-- greatest
-- measured excess, and most is its excess and divisor; none is there where most is none
pub record IsTop (measure : Measure) (g : Game) (x : Allocation) (P : ℕ → Type 0) (order : ℕ → ℕ) (m : ℕ)
    (most : Option Divided) : Type 0 where
  pub found : MatchOption most ((t : ℕ) → t < m → ¬ P (order t))
      (λ d. (t : ℕ) × (t < m) × (0 < order t) × (order t < 2 ^ g.players) × P (order t)
      × IsDivided measure g x (order t) d
      × ((u : ℕ) → u < m → P (order u)
      → measured_excess measure g x (order u) ≤ℤ measured_excess measure g x (order t)))

-- the masks in ascending order
abbrev pub ascending : ℕ → ℕ
ascending t = t

pub IsTop-start : (measure : Measure) (g : Game) (x : Allocation) (P : ℕ → Type 0) (order : ℕ → ℕ)
    → IsTop measure g x P order 0 None
IsTop-start measure g x P order = record { found = λ t lt p. omega arith }

-- a mask that P doesn't hold of changes nothing
pub IsTop-skip : (measure : Measure) (g : Game) (x : Allocation) (P : ℕ → Type 0) (order : ℕ → ℕ) (m : ℕ)
    (most : Option Divided) → IsTop measure g x P order m most → ¬ P (order m)
    → IsTop measure g x P order (m + 1) most
IsTop-skip measure g x P order m None h out =
    record {
      found = λ t lt p. elim (less_or_last_of t m lt)
          [ inl less ↦ h.found t less p | inr same ↦ out (subst (λ (u : ℕ). P (order u)) same p) ];
    }
IsTop-skip measure g x P order m (Some d) h out = record {
  found = (
    h.found.0,
    omega (arith, h.found.1),
    h.found.2,
    h.found.3,
    h.found.4,
    h.found.5,
    λ u lt p. elim (less_or_last_of u m lt)
        [ inl less ↦ h.found.6 u less p | inr same ↦ absurd (out (subst (λ (v : ℕ). P (order v)) same p)) ],
  );
}

pub IsTop-one : (measure : Measure) (g : Game) (x : Allocation) (P : ℕ → Type 0) → ¬ P 0
    → IsTop measure g x P ascending 1 None
IsTop-one measure g x P out = IsTop-skip measure g x P ascending 0 None (IsTop-start measure g x P ascending) out

abbrev pub IsMore : Option Divided → Divided → Bool → Type 0
IsMore most here b = MatchOption most (b ≡ true) (λ m. b ≡ is_below m here)

-- where the excess of s over its divisor isn't below that of t, the measured one isn't either
ordered : (measure : Measure) (g : Game) (x : Allocation) (s t : ℕ) (d e : Divided) → IsMeasurable measure g.players
    → 0 < s → s < 2 ^ g.players → 0 < t → t < 2 ^ g.players → IsDivided measure g x s d → IsDivided measure g x t e
    → (e.excess *ℤ pos d.divisor) ≤ℤ (d.excess *ℤ pos e.divisor)
    → measured_excess measure g x t ≤ℤ measured_excess measure g x s
ordered measure g x s t d e m some_s within_s some_t within_t is_s is_t le =
    measured-order measure g.players t s (excess g x t) (excess g x s) m some_t within_t some_s within_s
    (rw (is_s.0, is_s.1, is_t.0, is_t.1) at le)

not_below : (d e : Divided) → is_below d e ≡ false → (e.excess *ℤ pos d.divisor) ≤ℤ (d.excess *ℤ pos e.divisor)
not_below d e h = omega (arith, linear, h)

below : (d e : Divided) → is_below d e ≡ true → (d.excess *ℤ pos e.divisor) ≤ℤ (e.excess *ℤ pos d.divisor)
below d e h = omega (arith, linear, h)

-- nor does one whose measured excess isn't more than the greatest so far
pub IsTop-below : (measure : Measure) (g : Game) (x : Allocation) (P : ℕ → Type 0) (order : ℕ → ℕ) (m : ℕ)
    (most : Option Divided) (here : Divided) (b : Bool) → IsMeasurable measure g.players
    → IsTop measure g x P order m most → 0 < order m → order m < 2 ^ g.players
    → IsDivided measure g x (order m) here → IsMore most here b → b ≡ false → IsTop measure g x P order (m + 1) most
IsTop-below measure g x P order m None here b able h some within is more off = absurd (false≢true (sym off ∙ more))
IsTop-below measure g x P order m (Some d) here b able h some within is more off =
    let t = h.found.0 in
    let low =
    ordered measure g x (order t) (order m) d here able h.found.2 h.found.3 some within h.found.5 is
    (not_below d here (sym more ∙ off)) in
    record {
      found = (
        t,
        omega (arith, h.found.1),
        h.found.2,
        h.found.3,
        h.found.4,
        h.found.5,
        λ u lt p. elim (less_or_last_of u m lt) [
          | inl less ↦ h.found.6 u less p
          | inr same ↦ subst
              (λ (v : ℕ). measured_excess measure g x (order v) ≤ℤ measured_excess measure g x (order t))
              (sym same) low
        ],
      );
    }

-- one that P holds of and that has more is the new greatest
pub IsTop-new : (measure : Measure) (g : Game) (x : Allocation) (P : ℕ → Type 0) (order : ℕ → ℕ) (m : ℕ)
    (most : Option Divided) (here : Divided) (b : Bool) → IsMeasurable measure g.players
    → IsTop measure g x P order m most → 0 < order m → order m < 2 ^ g.players → P (order m)
    → IsDivided measure g x (order m) here → IsMore most here b → b ≡ true
    → IsTop measure g x P order (m + 1) (Some here)
IsTop-new measure g x P order m None here b able h some within holds is more on = record {
  found = (
    m,
    omega arith,
    some,
    within,
    holds,
    is,
    λ u lt p. elim (less_or_last_of u m lt) [
      | inl less ↦ absurd (h.found u less p)
      | inr same ↦ subst
          (λ (v : ℕ). measured_excess measure g x (order v) ≤ℤ measured_excess measure g x (order m)) (sym same)
          (omega (arith, linear))
    ],
  );
}
IsTop-new measure g x P order m (Some d) here b able h some within holds is more on =
    let t = h.found.0 in
    let low =
    ordered measure g x (order m) (order t) here d able some within h.found.2 h.found.3 is h.found.5
    (below d here (sym more ∙ on)) in
    record {
      found = (
        m,
        omega arith,
        some,
        within,
        holds,
        is,
        λ u lt p. elim (less_or_last_of u m lt) [
          | inl less ↦ omega (arith, linear, h.found.6 u less p, low)
          | inr same ↦ subst
              (λ (v : ℕ). measured_excess measure g x (order v) ≤ℤ measured_excess measure g x (order m)) (sym same)
              (omega (arith, linear))
        ],
      );
    }

-- one step of a scan, which takes the mask of step m where it has more and P holds of it
pub IsTop-next : (measure : Measure) (g : Game) (x : Allocation) (P : ℕ → Type 0) (order : ℕ → ℕ) (m : ℕ)
    (most next : Option Divided) (here : Divided) (more taken : Bool) → IsMeasurable measure g.players
    → IsTop measure g x P order m most → 0 < order m → order m < 2 ^ g.players
    → IsDivided measure g x (order m) here → IsMore most here more
    → (taken ≡ true → (more ≡ true) × P (order m)) → (taken ≡ false → (more ≡ false) ⊎ ¬ P (order m))
    → (taken ≡ true → next ≡ Some here) → (taken ≡ false → next ≡ most)
    → IsTop measure g x P order (m + 1) next
IsTop-next measure g x P order m most next here more true able h some within is is_more on off new kept =
    let top = on refl in
    subst (IsTop measure g x P order (m + 1)) (sym (new refl))
    (IsTop-new measure g x P order m most here more able h some within top.1 is is_more top.0)
IsTop-next measure g x P order m most next here more false able h some within is is_more on off new kept =
    let unchanged : IsTop measure g x P order (m + 1) most = elim (off refl) [
      | inl less ↦ IsTop-below measure g x P order m most here more able h some within is is_more less
      | inr out ↦ IsTop-skip measure g x P order m most h out
    ] in
    subst (IsTop measure g x P order (m + 1)) (sym (kept refl)) unchanged

-- a fraction of the excess over the denominator and the divisor is the measured excess
pub value_from_ratio : (measure : Measure) (g : Game) (x : Allocation) (t : ℕ) (d : Divided) (f : Fraction)
    → IsMeasurable measure g.players → 0 < t → t < 2 ^ g.players → IsDivided measure g x t d
    → IsRatio f d.excess (x.den *ℤ pos d.divisor) → IsValueOf measure x (measured_excess measure g x t) f
value_from_ratio measure g x t d f able some within is ratio =
    let same : f.num *ℤ (x.den *ℤ pos (divisor measure t)) ≡ excess g x t *ℤ f.den =
    rw (is.0, is.1) at ratio.same in
    sym (measured-same measure g.players t (excess g x t) x.den f.num f.den able some within (sym same))

-- at the grand coalition every mask is seen
pub all_seen : (n k s : ℕ) → k ≡ n → s ≡ grand_coalition k → s + 1 ≡ 2 ^ n
all_seen n k s same e =
    let all : s ≡ 2 ^ n - 1 = subst (λ (m : ℕ). s ≡ grand_coalition m) same e in
    omega (arith, all, pow_pos n)

-- at the end of a scan in ascending order
pub greatest_from_top : (measure : Measure) (g : Game) (x : Allocation) (P : ℕ → Type 0) (most : Option Divided)
    (d : Divided) → IsTop measure g x P ascending (2 ^ g.players) most → most ≡ Some d
    → IsGreatestDivided measure g x P d
greatest_from_top measure g x P most d h e = at_some (rw e at h)
  where
    at_some : IsTop measure g x P ascending (2 ^ g.players) (Some d) → IsGreatestDivided measure g x P d
    at_some h = (h.found.0, h.found.1, h.found.2, h.found.4, h.found.5, h.found.6)

pub greatest_value : (measure : Measure) (g : Game) (x : Allocation) (P : ℕ → Type 0) (d : Divided) (f : Fraction)
    → IsMeasurable measure g.players → IsGreatestDivided measure g x P d
    → IsRatio f d.excess (x.den *ℤ pos d.divisor)
    → (m : ℤ) × IsGreatest (λ s. (s < 2 ^ g.players) × P s) (measured_excess measure g x) m
    × IsValueOf measure x m f
greatest_value measure g x P d f able h ratio =
    let t = h.0 in (
      measured_excess measure g x t,
      ((t, (h.1, h.3), refl), λ u k. h.5 u k.0 k.1),
      value_from_ratio measure g x t d f able h.2 h.1 h.4 ratio,
    )

-- where two players are free, some mask was found
pub some-from_top : (measure : Measure) (g : Game) (x : Allocation) (f : ℕ) (most : Option Divided)
    → IsTop measure g x (λ t. IsTrue (is_split g f t)) ascending (2 ^ g.players) most → HasTwo g.players f
    → IsSome most
some-from_top measure g x f None h (i, j, lt, within, hi, hj) =
    let low : i < g.players = omega arith in
    absurd (h.found (singleton i) (pow-lt low) (is_split-singleton g f i j lt within hi hj))
some-from_top measure g x f (Some d) h two = refl
