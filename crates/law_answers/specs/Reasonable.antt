-- Reasonable shares: nobody gets more than the most that it adds to any coalition, nor less than the least.
-- Source: Milnor 1952; Peleg and Sudhölter, Introduction to the Theory of Cooperative Games. Each law is the contract
-- of a function of this crate.
--
--   AddsAtMost g i m      player i adds at most m to each coalition without it
--   AddsAtLeast g i m     player i adds at least m to each coalition without it
--   IsReasonable g x      who adds at most m gets at most m, and who adds at least m gets at least m
--   ShapleyIsReasonable   Shapley shares are so
--   PerHeadMayGiveLess    the prenucleolus per head may give a player less than the least that it adds
use Rattle.std.specs.Prelude.{◌≡◌, ℕ, ◌+◌, ◌^◌, ◌<◌, false, ℤ, pos, ◌-ℤ◌, ◌*ℤ◌, ◌≤ℤ◌}
use Rattle.definitions.specs.Coalitions.{has_player, singleton}
use Rattle.definitions.specs.Games.{Game, Allocation, share, IsNucleolus}
use Rattle.definitions.specs.declared.Family.TheVariants.{Preimputations}
use Rattle.definitions.specs.declared.Measure.TheVariants.{PerHead}
use Rattle.definitions.specs.Shapley.{IsShapley}

abbrev pub AddsAtMost : Game → ℕ → ℤ → Type 0
AddsAtMost g i m =
    (s : ℕ) → s < 2 ^ g.players → has_player s i ≡ false → (g.worth (s + singleton i) -ℤ g.worth s) ≤ℤ m

abbrev pub AddsAtLeast : Game → ℕ → ℤ → Type 0
AddsAtLeast g i m =
    (s : ℕ) → s < 2 ^ g.players → has_player s i ≡ false → m ≤ℤ (g.worth (s + singleton i) -ℤ g.worth s)

-- of the most and of the least that a player adds, this says Milnor's bounds
pub record IsReasonable (g : Game) (x : Allocation) : Type 0 where
  pub at_most : (i : ℕ) (m : ℤ) → i < g.players → AddsAtMost g i m → share x i ≤ℤ (x.den *ℤ m)
  pub at_least : (i : ℕ) (m : ℤ) → i < g.players → AddsAtLeast g i m → (x.den *ℤ m) ≤ℤ share x i

abbrev pub ShapleyIsReasonable : Type 0
ShapleyIsReasonable = (g : Game) (x : Allocation) → IsShapley g x → IsReasonable g x

-- in some game the prenucleolus per head gives a player less than it adds to each coalition
abbrev pub PerHeadMayGiveLess : Type 0
PerHeadMayGiveLess =
    (g : Game) × (x : Allocation) × (g.worth 0 ≡ pos 0) × IsNucleolus Preimputations PerHead g x × ¬ IsReasonable g x
