-- The nucleolus is what has a certificate: every nucleolus has one, and what a certificate certifies is the nucleolus,
-- whatever the size of its numbers.
use Rattle.std.proofs.Common.{ℕ, List, [], ◌∷◌, ◌++◌}
use Rattle.definitions.specs.Certificates.{Level}
use Rattle.definitions.specs.declared.Mode.TheVariants.{Span}
use Rattle.real_shares.specs.Theorems.{fractions_over}
use Rattle.real_shares.proofs.FractionShares.{fractions_ordered, fraction_shares}
use Rattle.real_shares.proofs.Soundness.{LevelsFit, IsNucleolusOver-from_levels}
use Rattle.law_duality.specs.Kohlberg.{LevelsShape, KohlbergTheorem}
use Rattle.law_duality.proofs.NucleoliAreCertified.{nucleoli_are_certified}

pub shape_fits : (n : ℕ) (front levels : List Level) → LevelsShape n front levels → LevelsFit n front levels
shape_fits n front [] shape = tt
shape_fits n front (l ∷ levels) shape = (
  record {
    fraction = shape.0.fraction;
    proper = shape.0.proper;
    listed = shape.0.listed;
    players = shape.0.players;
  },
  shape_fits n (front ++ l ∷ []) levels shape.1,
)

pub kohlberg_theorem : KohlbergTheorem
kohlberg_theorem family measure g x m = (
  nucleoli_are_certified family measure g x m,
  λ c. (fraction_shares family measure g x).1
      (λ q one. IsNucleolusOver-from_levels (fractions_over q) (fractions_ordered q one) Span family measure g x
      c.0 m (shape_fits g.players [] c.0 c.1.each) c.2),
)
