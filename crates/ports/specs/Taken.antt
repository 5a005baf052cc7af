-- What a sink in memory holds.
use Rattle.std.specs.Prelude.{ℕ, List, Bool}

-- the bytes taken so far, how many it can take in all, how often a write failed, and whether the last one did
pub record Taken : Type 0 where
  pub bytes : List ℕ
  pub capacity : ℕ
  pub faults : ℕ
  pub failed : Bool
