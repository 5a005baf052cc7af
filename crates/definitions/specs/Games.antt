-- Games with transferable worth, allocations, the nucleolus and the core.
-- Sources: Peleg and Sudhölter, Introduction to the Theory of Cooperative Games; for the nucleolus Schmeidler 1969.
--
--   Game                     players, and the worth of each coalition
--   Allocation               a share of each player over a common denominator
--   share x i                the share of player i, over the denominator
--   amount x s               what the members of s get together, over the denominator
--   excess g x s             the worth of s less what its members get, over the denominator
--   IsAllocation             a share for each player, over a positive denominator
--   IsEfficient              the shares add to the worth of the grand coalition
--   IsIndividuallyRational   each player gets at least what it is worth alone
--   InFamily                 an imputation, or a preimputation
--   measured_excess          the excess of s by a measure
--   excess_list              the measured excesses of all proper coalitions, in mask order
--   Beats                    the excesses from the greatest come before those of another allocation
--   IsSame                   two allocations have the same shares
--   IsNucleolus              a member of the family that beats every other member
--   Blocks, InCore           a coalition is worth more than its members get; none is
--   IsChosenBlocker          the least mask among the coalitions of greatest positive excess
--   IsSplitMaximum           the greatest excess over the coalitions that split a set of players
--   IsMeasuredMaximum        the greatest measured excess over these coalitions
--   HasTwo                   a coalition has at least two players
--   IsGame, IsShares         the limits of the toolbox
use Rattle.std.specs.Prelude.{◌≡◌, ℕ, ◌^◌, ◌<◌, ◌≤◌, List, length, map, IsTrue, ℤ}
use Rattle.std.specs.Prelude.{pos, ◌-ℤ◌}
use Rattle.std.specs.Prelude.{◌*ℤ◌, ◌<ℤ◌, ◌≤ℤ◌, slice_index_or, unsigned_abs}
use Rattle.definitions.specs.Sums.{IsGreatest}
use Rattle.definitions.specs.Coalitions.{has_player, singleton, grand_coalition}
use Rattle.definitions.specs.Coalitions.{proper_coalitions, sum_over, splits}
use Rattle.definitions.specs.Measures.{measured}
use Rattle.definitions.specs.Order.{sorted, ComesBefore}
use Rattle.definitions.specs.declared.Family.{Family}
use Rattle.definitions.specs.declared.Family.TheVariants.{Imputations, Preimputations}
use Rattle.definitions.specs.declared.Measure.{Measure}

-- players 0 .. n - 1, and the worth of each coalition
pub record Game : Type 0 where
  pub players : ℕ
  pub worth : ℕ → ℤ

-- each player's share over a common denominator
pub record Allocation : Type 0 where
  pub shares : List ℤ
  pub den : ℤ

abbrev pub share : Allocation → ℕ → ℤ
share x i = slice_index_or x.shares i (pos 0)

abbrev pub amount : Allocation → ℕ → ℤ
amount x s = sum_over (length x.shares) (share x) s

-- what s could do better by itself, over the denominator
abbrev pub excess : Game → Allocation → ℕ → ℤ
excess g x s = x.den *ℤ g.worth s -ℤ amount x s

-- a share for each player, over a denominator of at least 1
abbrev pub IsAllocation : Game → Allocation → Type 0
IsAllocation g x = (length x.shares ≡ g.players) × (pos 1 ≤ℤ x.den)

-- the shares add to the worth of all
abbrev pub IsEfficient : Game → Allocation → Type 0
IsEfficient g x = amount x (grand_coalition g.players) ≡ x.den *ℤ g.worth (grand_coalition g.players)

abbrev pub IsIndividuallyRational : Game → Allocation → Type 0
IsIndividuallyRational g x = (i : ℕ) → i < g.players → (x.den *ℤ g.worth (singleton i)) ≤ℤ share x i

-- an imputation; a preimputation
abbrev pub InFamily : Family → Game → Allocation → Type 0
InFamily Imputations g x = IsAllocation g x × IsEfficient g x × IsIndividuallyRational g x
InFamily Preimputations g x = IsAllocation g x × IsEfficient g x

-- ---- the nucleolus (Schmeidler 1969; per head Grotte 1970)

abbrev pub measured_excess : Measure → Game → Allocation → ℕ → ℤ
measured_excess measure g x s = measured measure s (excess g x s)

-- the measured excesses over all coalitions but the empty one and that of all, at a scale. Textbooks list these two as
-- well, which have the excess 0 at every efficient allocation
abbrev pub excess_list : Measure → Game → Allocation → ℤ → List ℤ
excess_list measure g x scale = map (λ s. scale *ℤ measured_excess measure g x s) (proper_coalitions g.players)

-- over one denominator, the measured excesses of x from the greatest come before those of y
abbrev pub Beats : Measure → Game → Allocation → Allocation → Type 0
Beats measure g x y =
    ComesBefore (sorted (excess_list measure g x y.den)) (sorted (excess_list measure g y x.den))

abbrev pub IsSame : Game → Allocation → Allocation → Type 0
IsSame g x y = (i : ℕ) → i < g.players → share x i *ℤ y.den ≡ share y i *ℤ x.den

-- a member of the family that beats every member with other shares: the minimum of textbooks, and that it is the
-- only one
abbrev pub IsNucleolus : Family → Measure → Game → Allocation → Type 0
IsNucleolus family measure g x =
    InFamily family g x × ((y : Allocation) → InFamily family g y → ¬ IsSame g x y → Beats measure g x y)

-- ---- the core

-- s is worth more than its members get
abbrev pub Blocks : Game → Allocation → ℕ → Type 0
Blocks g x s = amount x s <ℤ (x.den *ℤ g.worth s)

-- efficient, and no coalition blocks
abbrev pub InCore : Game → Allocation → Type 0
InCore g x = IsAllocation g x × IsEfficient g x × ((s : ℕ) → s < 2 ^ g.players → ¬ Blocks g x s)

-- s blocks, no coalition has a greater excess, and no lesser mask has as great a one
pub record IsChosenBlocker (g : Game) (x : Allocation) (s : ℕ) : Type 0 where
  pub within : s < 2 ^ g.players
  pub blocks : Blocks g x s
  pub greatest : (t : ℕ) → t < 2 ^ g.players → excess g x t ≤ℤ excess g x s
  pub least : (t : ℕ) → t < s → excess g x t <ℤ excess g x s

-- the greatest excess over the coalitions that hold some but not all of the players of f
abbrev pub IsSplitMaximum : Game → Allocation → ℕ → ℤ → Type 0
IsSplitMaximum g x f m =
    IsGreatest (λ s. (s < 2 ^ g.players) × IsTrue (splits g.players (has_player f) s)) (excess g x) m

abbrev pub IsMeasuredMaximum : Measure → Game → Allocation → ℕ → ℤ → Type 0
IsMeasuredMaximum measure g x f m =
    IsGreatest (λ s. (s < 2 ^ g.players) × IsTrue (splits g.players (has_player f) s)) (measured_excess measure g x)
    m

-- f has at least two players
abbrev pub HasTwo : ℕ → ℕ → Type 0
HasTwo n f =
    (i : ℕ) × (j : ℕ) × (i < j) × (j < n) × IsTrue (has_player f i) × IsTrue (has_player f j)

-- a game of the toolbox: 1 to 64 players, nothing for nobody, and each worth below 2 ^ 46 in size
pub record IsGame (g : Game) : Type 0 where
  pub some : 1 ≤ g.players
  pub few : g.players ≤ 64
  pub nobody : g.worth 0 ≡ pos 0
  pub small : (s : ℕ) → s < 2 ^ g.players → unsigned_abs (g.worth s) < 2 ^ 46

-- shares of the toolbox: 1 to 64, over a denominator of at most 2 ^ 63, each below 2 ^ 110 in size
pub record IsShares (x : Allocation) : Type 0 where
  pub some : 1 ≤ length x.shares
  pub few : length x.shares ≤ 64
  pub positive : pos 1 ≤ℤ x.den
  pub common : x.den ≤ℤ pos (2 ^ 63)
  pub small : (i : ℕ) → i < length x.shares → unsigned_abs (share x i) < 2 ^ 110
