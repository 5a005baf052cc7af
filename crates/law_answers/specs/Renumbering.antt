-- A game with its players renumbered. Anonymity is among the axioms of the prenucleolus (Sobolev 1975).
--
--   IsRenumbering               two maps of the players' numbers are inverse to each other
--   coalition_where             the coalition of the players below n that pass a test
--   renumbered_coalition        what the members of a coalition were
--   renumbered_game             player i is now who was player number i of the map
--   renumbered_shares           and so are the shares
--   exchanged                   two numbers exchanged, all others as they are
--   RenumberingChangesNothing   the nucleolus of the renumbered game has the renumbered shares
--   ExchangeChangesNothing      who exchange their numbers exchange their shares, and all others keep theirs
use Rattle.std.specs.Prelude.{◌≡◌, ℕ, zero, suc, ◌+◌, ◌^◌, ◌<◌, Bool, nat_eq, length}
use Rattle.std.specs.Prelude.{map, if◌then◌else◌}
use Rattle.std.specs.List.{range_with_len}
use Rattle.definitions.specs.Coalitions.{has_player}
use Rattle.definitions.specs.Measures.{IsMeasurable}
use Rattle.definitions.specs.Games.{Game, Allocation, share, IsNucleolus}
use Rattle.definitions.specs.declared.Family.{Family}
use Rattle.definitions.specs.declared.Measure.{Measure}

-- the numbers of n players, there and back
pub record IsRenumbering (n : ℕ) (to back : ℕ → ℕ) : Type 0 where
  pub to_within : (i : ℕ) → i < n → to i < n
  pub back_within : (i : ℕ) → i < n → back i < n
  pub back_to : (i : ℕ) → i < n → back (to i) ≡ i
  pub to_back : (i : ℕ) → i < n → to (back i) ≡ i

abbrev pub coalition_where : ℕ → (ℕ → Bool) → ℕ
coalition_where zero test = 0
coalition_where (suc n) test = if test n then coalition_where n test + 2 ^ n else coalition_where n test

-- the coalition that the members of s were, where player i was player to i
abbrev pub renumbered_coalition : ℕ → (ℕ → ℕ) → ℕ → ℕ
renumbered_coalition n back s = coalition_where n (λ i. has_player s (back i))

-- the game in which player i is who was player to i
abbrev pub renumbered_game : (ℕ → ℕ) → Game → Game
renumbered_game back g =
    record { players = g.players; worth = λ s. g.worth (renumbered_coalition g.players back s) }

-- player i has the share of who was player to i
abbrev pub renumbered_shares : (ℕ → ℕ) → Allocation → Allocation
renumbered_shares to x =
    record { shares = map (λ i. share x (to i)) (range_with_len 0 (length x.shares)); den = x.den }

-- renumbering the players renumbers the shares of the nucleolus, and changes nothing else
abbrev pub RenumberingChangesNothing : Type 0
RenumberingChangesNothing =
    (family : Family) (measure : Measure) (g : Game) (x : Allocation) (to back : ℕ → ℕ)
    → IsMeasurable measure g.players → IsRenumbering g.players to back → IsNucleolus family measure g x
    → IsNucleolus family measure (renumbered_game back g) (renumbered_shares to x)

-- i and j exchanged
abbrev pub exchanged : ℕ → ℕ → ℕ → ℕ
exchanged i j k = if nat_eq k i then j else if nat_eq k j then i else k

-- two players that exchange their numbers exchange their shares of the nucleolus, and nothing else changes
abbrev pub ExchangeChangesNothing : Type 0
ExchangeChangesNothing =
    (family : Family) (measure : Measure) (g : Game) (x : Allocation) (i j : ℕ) → IsMeasurable measure g.players
    → i < g.players → j < g.players → IsNucleolus family measure g x
    → IsNucleolus family measure (renumbered_game (exchanged i j) g) (renumbered_shares (exchanged i j) x)
