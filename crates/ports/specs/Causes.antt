-- A count of faults beside a call that may fail.
use Rattle.std.specs.Prelude.{◌≡◌, ℕ, ◌+◌, ◌-◌, ◌^◌, ◌≤◌, min, Result, OnOk, OnErr}

-- the count rose by one, or stands at its last value
abbrev pub CountRose : ℕ → ℕ → Type 0
CountRose before now = now ≡ min (before + 1) (2 ^ 64 - 1)

-- the count never falls, rises by one at each failure up to its last value, and is as before if the call succeeds
pub record HasCause {T E : Type 0} (before now : ℕ) (result : Result T E) : Type 0 where
  pub later : before ≤ now
  pub unchanged : OnOk result (now ≡ before)
  pub failed : OnErr result (CountRose before now)
