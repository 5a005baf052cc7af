-- Why an answer isn't found.
use Rattle.std.specs.Prelude.{◌≡◌, ℕ, Bool, true, Result, MatchResult}
use Rattle.ports.specs.Causes.{CountRose}
use Rattle.coop.specs.declared.status.Stop.{Stop}
use Rattle.coop.specs.declared.status.Stop.TheVariants.{Fault, Memory}

-- after a fault, the count rose by one or stays at its last value, and the fault was the last call; if memory ran out,
-- the count is as before
abbrev pub IsStopBetween : ℕ → ℕ → Bool → Stop → Type 0
IsStopBetween before now failed Fault = CountRose before now × (failed ≡ true)
IsStopBetween before now failed Memory = now ≡ before

-- if the call stopped, the count is as `IsStopBetween` says; otherwise it is as before
abbrev pub IsFaultOf : {T : Type 0} → ℕ → ℕ → Bool → Result T Stop → Type 0
IsFaultOf before now failed r = MatchResult r (λ _. now ≡ before) (IsStopBetween before now failed)
