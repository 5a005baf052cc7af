-- What stays true if the same shares are written over another denominator.
--
--   SameSharesStayInTheFamily  membership of a family
--   SameSharesCertify          what a certificate certifies
--   SameSharesAreTheNucleolus  the nucleolus
use Rattle.std.specs.Prelude.{List}
use Rattle.definitions.specs.Games.{Game, Allocation, IsAllocation, InFamily, IsSame, IsNucleolus}
use Rattle.definitions.specs.Certificates.{Level, Certifies}
use Rattle.definitions.specs.declared.Family.{Family}
use Rattle.definitions.specs.declared.Measure.{Measure}
use Rattle.definitions.specs.declared.Mode.{Mode}

-- an imputation's shares over another denominator are an imputation, and a preimputation's a preimputation
abbrev pub SameSharesStayInTheFamily : Type 0
SameSharesStayInTheFamily = (family : Family) (g : Game) (x y : Allocation)
    → IsAllocation g y → IsSame g x y → InFamily family g x → InFamily family g y

-- what certifies the shares of x certifies the same shares over another denominator
abbrev pub SameSharesCertify : Type 0
SameSharesCertify =
    (mode : Mode) (family : Family) (measure : Measure) (g : Game) (x y : Allocation) (levels : List Level)
    → IsAllocation g y → IsSame g x y → Certifies mode family measure g x levels
    → Certifies mode family measure g y levels

-- the shares of the nucleolus over another denominator are the nucleolus
abbrev pub SameSharesAreTheNucleolus : Type 0
SameSharesAreTheNucleolus = (family : Family) (measure : Measure) (g : Game) (x y : Allocation)
    → IsAllocation g y → IsSame g x y → IsNucleolus family measure g x → IsNucleolus family measure g y
