-- What a port in memory holds that fails at chosen calls.
--
--   is_chosen   a call is chosen to fail
--   after       the number of the next call
--   Remaining   what a source holds: the bytes that are left, and its calls
--   Held        what a sink holds: the bytes taken so far, and its calls
use Rattle.std.specs.Prelude.{ℕ, ◌+◌, ◌-◌, ◌^◌, ◌==◌, min, List, Bool}
use Rattle.std.specs.List.{list_any}

-- the call of this number, from 0, is chosen to fail
abbrev pub is_chosen : List ℕ → ℕ → Bool
is_chosen fails call = list_any (λ f. f == call) fails

-- the number of the next call; the last value stays
abbrev pub after : ℕ → ℕ
after calls = min (calls + 1) (2 ^ 64 - 1)

-- the bytes that are left, the most that a call gives, the calls that fail, the number of the next call, how often a
-- read failed, and whether the last one did
pub record Remaining : Type 0 where
  pub left : List ℕ
  pub piece : ℕ
  pub fails : List ℕ
  pub calls : ℕ
  pub faults : ℕ
  pub failed : Bool

-- the bytes taken so far, how many fit in all, the most that a call takes, the calls that fail, the number of the next
-- call, how often a write failed, and whether the last one did
pub record Held : Type 0 where
  pub bytes : List ℕ
  pub capacity : ℕ
  pub piece : ℕ
  pub fails : List ℕ
  pub calls : ℕ
  pub faults : ℕ
  pub failed : Bool
