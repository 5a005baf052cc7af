-- What the definitions imply. Each statement is the contract of a function of this crate.
--
--   MeasuresDivide         a measured excess over its denominator is the excess over the denominator times the divisor
--   CertificatesAreSound   a certificate that meets its conditions certifies the nucleolus (Kohlberg 1971)
--   CollectionsBlock       no core point stands beside a balanced collection of excess worth (Bondareva 1963, Shapley
--                          1967)
--   PrenucleolusBalances   the prenucleolus lies in the prekernel (Schmeidler 1969; Maschler, Peleg and Shapley 1979)
use Rattle.std.specs.Prelude.{◌≡◌, ℕ, ◌^◌, ◌<◌, ℤ, pos, ◌*ℤ◌, List}
use Rattle.definitions.specs.Measures.{divisor, measured, measured_den, IsMeasurable}
use Rattle.definitions.specs.Games.{Game, Allocation, InCore, IsNucleolus}
use Rattle.definitions.specs.Balanced.{IsBalancedOfExcessWorth}
use Rattle.definitions.specs.Certificates.{Level, HasForm, Certifies}
use Rattle.definitions.specs.Prekernel.{InPrekernel}
use Rattle.definitions.specs.declared.Family.{Family}
use Rattle.definitions.specs.declared.Family.TheVariants.{Preimputations}
use Rattle.definitions.specs.declared.Measure.{Measure}
use Rattle.definitions.specs.declared.Measure.TheVariants.{Plain}
use Rattle.definitions.specs.declared.Mode.{Mode}

-- a measured excess of a coalition over its denominator is the excess over the denominator times the divisor
abbrev pub MeasuresDivide : Type 0
MeasuresDivide =
    (measure : Measure) (n s : ℕ) (e q : ℤ) → IsMeasurable measure n → 0 < s → s < 2 ^ n
    → measured measure s e *ℤ (q *ℤ pos (divisor measure s)) ≡ e *ℤ measured_den measure q

abbrev pub CertificatesAreSound : Type 0
CertificatesAreSound =
    (mode : Mode) (family : Family) (measure : Measure) (g : Game) (x : Allocation) (levels : List Level)
    → IsMeasurable measure g.players → HasForm mode g.players levels → Certifies mode family measure g x levels
    → IsNucleolus family measure g x

-- if a balanced collection has excess worth, the core is empty
abbrev pub CollectionsBlock : Type 0
CollectionsBlock =
    (g : Game) (ps : List (ℕ × ℤ)) (k : ℤ) (x : Allocation) → IsBalancedOfExcessWorth g ps k → InCore g x → ⊥

abbrev pub PrenucleolusBalances : Type 0
PrenucleolusBalances = (g : Game) (x : Allocation) → IsNucleolus Preimputations Plain g x → InPrekernel g x
