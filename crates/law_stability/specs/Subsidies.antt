-- Shares by which nobody subsidizes anybody.
-- Source: Faulhaber 1975; Peleg and Sudhölter, Introduction to the Theory of Cooperative Games. Each law is the
-- contract of a function of this crate.
--
--   IsSubsidyFree g x    efficient, and no coalition gets more than it adds to the worth of the others
--   CoreIsSubsidyFree    exactly the core points are so
--   DummiesInTheCore     so by each core point a dummy gets its worth alone
use Rattle.std.specs.Prelude.{◌≡◌, ◌↔◌, ℕ, ◌-◌, ◌^◌, ◌<◌, ◌-ℤ◌, ◌*ℤ◌, ◌≤ℤ◌}
use Rattle.definitions.specs.Coalitions.{singleton, grand_coalition}
use Rattle.definitions.specs.Games.{Game, Allocation, share, amount, IsAllocation, IsEfficient, InCore}
use Rattle.definitions.specs.Players.{IsDummy}

-- efficient, and each coalition gets at most what all are worth less what the others are worth by themselves: of costs,
-- it pays at least what they rise by when it joins the others
abbrev pub IsSubsidyFree : Game → Allocation → Type 0
IsSubsidyFree g x =
    IsAllocation g x
    × IsEfficient g x
    × ((s : ℕ) → s < 2 ^ g.players
    → amount x s ≤ℤ (x.den *ℤ (g.worth (grand_coalition g.players) -ℤ g.worth (grand_coalition g.players - s))))

abbrev pub CoreIsSubsidyFree : Type 0
CoreIsSubsidyFree = (g : Game) (x : Allocation) → InCore g x ↔ IsSubsidyFree g x

-- by each core point a player that adds its worth alone to each coalition without it gets just that
abbrev pub DummiesInTheCore : Type 0
DummiesInTheCore =
    (g : Game) (x : Allocation) (i : ℕ) → InCore g x → i < g.players → IsDummy g i →
    share x i ≡ x.den *ℤ g.worth (singleton i)
