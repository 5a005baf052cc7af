-- What the definitions of a certificate's verdict imply. Each is the contract of a function of this crate.
use Rattle.std.specs.Prelude.{◌≡◌, List}
use Rattle.definitions.specs.Games.{Game, Allocation}
use Rattle.definitions.specs.Certificates.{Level, Certifies}
use Rattle.definitions.specs.Failures.{Reason, IsFirstFailure}
use Rattle.definitions.specs.declared.Family.{Family}
use Rattle.definitions.specs.declared.Measure.{Measure}
use Rattle.definitions.specs.declared.Mode.{Mode}

-- a certificate that meets its conditions fails for no reason
abbrev pub NoReasonBesideACertificate : Type 0
NoReasonBesideACertificate =
    (mode : Mode) (family : Family) (measure : Measure) (g : Game) (x : Allocation) (levels : List Level)
    (r : Reason) → Certifies mode family measure g x levels → IsFirstFailure mode family measure g x levels r
    → ⊥

-- a certificate has at most one first failure
abbrev pub OneFirstFailure : Type 0
OneFirstFailure =
    (mode : Mode) (family : Family) (measure : Measure) (g : Game) (x : Allocation) (levels : List Level)
    (r s : Reason) → IsFirstFailure mode family measure g x levels r
    → IsFirstFailure mode family measure g x levels s → r ≡ s
