-- A game and shares under strategic equivalence: a change of the unit, and what each player has beside the game
-- (Peleg and Sudhölter, Introduction to the Theory of Cooperative Games).
--
--   shifted_game b g          the game in which each coalition is worth more by the numbers of its members
--   shifted b x               the shares, each more by the number of its player
--   AreShiftedAlike           what the shares are in the game, the moved shares are in the moved game
--   ShiftsChangeNothing       that is so of every game and allocation
--   scaled_game k g           the game in which each coalition is worth k times as much
--   equivalent_game k b g     k times the game, moved by a number of each player
--   equivalent_shares k b x   the same done to shares
--   AreEquivalent             what the shares are in the game, those made of them are in the game made of it
--   EquivalentGamesAgree      that is so of every game and allocation
use Rattle.std.specs.Prelude.{◌≡◌, ◌↔◌, ℕ, map, length, ℤ, pos, ◌+ℤ◌, ◌*ℤ◌, ◌≤ℤ◌}
use Rattle.std.specs.List.{range_with_len}
use Rattle.definitions.specs.Coalitions.{sum_over}
use Rattle.definitions.specs.Games.{Game, Allocation, share, excess, IsAllocation}
use Rattle.definitions.specs.Games.{InFamily, Beats, IsSame, IsNucleolus}
use Rattle.definitions.specs.Games.{Blocks, InCore}
use Rattle.definitions.specs.Scales.{times}
use Rattle.definitions.specs.declared.Family.{Family}
use Rattle.definitions.specs.declared.Measure.{Measure}

abbrev pub shifted_game : (ℕ → ℤ) → Game → Game
shifted_game b g = record { players = g.players; worth = λ s. g.worth s +ℤ sum_over g.players b s }

-- each share is more by the number of its player
abbrev pub shifted : (ℕ → ℤ) → Allocation → Allocation
shifted b x =
    record { shares = map (λ i. share x i +ℤ x.den *ℤ b i) (range_with_len 0 (length x.shares)); den = x.den }

pub record AreShiftedAlike (b : ℕ → ℤ) (g : Game) (x : Allocation) : Type 0 where
  pub excess : (s : ℕ) → excess (shifted_game b g) (shifted b x) s ≡ excess g x s
  pub family : (f : Family) → InFamily f g x ↔ InFamily f (shifted_game b g) (shifted b x)
  pub same : (y : Allocation) → IsAllocation g y
      → IsSame g x y ↔ IsSame (shifted_game b g) (shifted b x) (shifted b y)
  pub beats : (m : Measure) (y : Allocation) → IsAllocation g y
      → Beats m g x y ↔ Beats m (shifted_game b g) (shifted b x) (shifted b y)
  pub nucleolus : (f : Family) (m : Measure)
      → IsNucleolus f m g x ↔ IsNucleolus f m (shifted_game b g) (shifted b x)
  pub blocks : (s : ℕ) → Blocks g x s ↔ Blocks (shifted_game b g) (shifted b x) s
  pub core : InCore g x ↔ InCore (shifted_game b g) (shifted b x)

-- a game and the game moved by a number of each player agree, for every allocation
abbrev pub ShiftsChangeNothing : Type 0
ShiftsChangeNothing = (b : ℕ → ℤ) (g : Game) (x : Allocation) → IsAllocation g x → AreShiftedAlike b g x

-- ---- and a change of the unit

abbrev pub scaled_game : ℤ → Game → Game
scaled_game k g = record { players = g.players; worth = λ s. k *ℤ g.worth s }

abbrev pub equivalent_game : ℤ → (ℕ → ℤ) → Game → Game
equivalent_game k b g = shifted_game b (scaled_game k g)

abbrev pub equivalent_shares : ℤ → (ℕ → ℤ) → Allocation → Allocation
equivalent_shares k b x = shifted b (times k x)

pub record AreEquivalent (k : ℤ) (b : ℕ → ℤ) (g : Game) (x : Allocation) : Type 0 where
  pub excess : (s : ℕ) → excess (equivalent_game k b g) (equivalent_shares k b x) s ≡ k *ℤ excess g x s
  pub family : (f : Family) → InFamily f g x ↔ InFamily f (equivalent_game k b g) (equivalent_shares k b x)
  pub nucleolus : (f : Family) (m : Measure)
      → IsNucleolus f m g x ↔ IsNucleolus f m (equivalent_game k b g) (equivalent_shares k b x)
  pub core : InCore g x ↔ InCore (equivalent_game k b g) (equivalent_shares k b x)

-- a game and k times it, moved by a number of each player, agree, for every allocation
abbrev pub EquivalentGamesAgree : Type 0
EquivalentGamesAgree =
    (k : ℤ) (b : ℕ → ℤ) (g : Game) (x : Allocation) → pos 1 ≤ℤ k → IsAllocation g x → AreEquivalent k b g x
