-- What a write to a sink does.
use Rattle.std.specs.Prelude.{◌≡◌, ℕ, ◌<◌, Bool, List, length, Option, Result, IfOk, is_err}
use Rattle.std.specs.Io.{WritesAtMost}
use Rattle.std.specs.Io.KnownBytes.{WriteAppends}
use Rattle.ports.specs.Causes.{HasCause}

-- bytes of the piece's front are put behind those taken before, at least one unless the piece is empty; a failure is
-- counted, takes nothing, and is seen as the last call's
pub record IsWrite {E : Type 0} (before now : Option (List ℕ)) (faults_before faults_now : ℕ) (failed_now : Bool)
    (result : Result ℕ E) (piece : List ℕ) : Type 0 where
  pub bound : WritesAtMost result piece
  pub progress : IfOk result (λ n. 0 < length piece → 0 < n)
  pub bytes : WriteAppends before now result piece
  pub cause : HasCause faults_before faults_now result
  pub last : failed_now ≡ is_err result
