-- What each class says of the tree of a game: one record a class, which stands beside the class.
--
--   ClassRules   what a class asks of a game that names it, and what it describes
--   no_test      the test of a class that makes none
use Rattle.std.specs.Prelude.{ℕ, List, Bool, true}
use Rattle.serde_json.specs.Data.{Data}
use Rattle.kinds.specs.declared.refusal.Refusal.{Refusal}
use Rattle.kinds.specs.declared.refusal.Refusal.TheVariants.{Shape}

-- The game has the keys and kinds that the class asks for; it has as many players, and numbers for them, as the class
-- allows; how many they are; each number, times the scale k, is within its limits; the values that are its numbers, in
-- the order in which they are read; numbers are within the limits of the class, times their scale; the test that the
-- class makes of its own, and its refusal, and what the game describes, both for n players and with the numbers times
-- the scale k.
pub record ClassRules (Described : Type 0) : Type 0 where
  pub is_shaped : Data → Bool
  pub has_players : Data → Bool
  pub players : Data → ℕ
  pub has_numbers : (k : ℕ) → Data → Bool
  pub values : Data → List Data
  pub are_numbers : List Data → Bool
  pub own_test : (k n : ℕ) → Data → Refusal × Bool
  pub description : (k n : ℕ) → Data → Described

-- this test passes, so its refusal stands for none and is never given
abbrev pub no_test : Refusal × Bool
no_test = (Shape, true)
