-- Players that add their own worth alone, or nothing, players that add no less than others, and players that a game
-- doesn't tell apart.
-- Sources: Maschler and Peleg 1966 (adding no less: the desirability relation); Peleg and Sudhölter, Introduction to
-- the Theory of Cooperative Games.
--
--   IsDummy g i                player i adds its worth alone to each coalition without it
--   AddsNothing g i            player i adds nothing to each coalition without it
--   AddsNoLess g i j           player i adds to each coalition without both at least what player j adds
--   AreInterchangeable g i j   both add the same to each coalition without both
use Rattle.std.specs.Prelude.{◌≡◌, ℕ, ◌+◌, ◌^◌, ◌<◌, false, ◌+ℤ◌, ◌≤ℤ◌}
use Rattle.definitions.specs.Coalitions.{has_player, singleton}
use Rattle.definitions.specs.Games.{Game}

abbrev pub IsDummy : Game → ℕ → Type 0
IsDummy g i =
    (s : ℕ) → s < 2 ^ g.players → has_player s i ≡ false →
    g.worth (s + singleton i) ≡ g.worth s +ℤ g.worth (singleton i)

abbrev pub AddsNothing : Game → ℕ → Type 0
AddsNothing g i =
    (s : ℕ) → s < 2 ^ g.players → has_player s i ≡ false → g.worth (s + singleton i) ≡ g.worth s

-- each coalition without i and j is worth with i at least what it is worth with j
abbrev pub AddsNoLess : Game → ℕ → ℕ → Type 0
AddsNoLess g i j =
    (s : ℕ) → s < 2 ^ g.players → has_player s i ≡ false → has_player s j ≡ false →
    g.worth (s + singleton j) ≤ℤ g.worth (s + singleton i)

-- each coalition without i and j is worth with i what it is worth with j
abbrev pub AreInterchangeable : Game → ℕ → ℕ → Type 0
AreInterchangeable g i j =
    (s : ℕ) → s < 2 ^ g.players → has_player s i ≡ false → has_player s j ≡ false →
    g.worth (s + singleton i) ≡ g.worth (s + singleton j)
