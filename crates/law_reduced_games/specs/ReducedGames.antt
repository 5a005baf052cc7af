-- Reduced games: what a game leaves to some of its players, once the others have taken their shares and gone.
-- Sources: Davis and Maschler 1965; Sobolev 1975; Peleg 1986; Peleg and Sudhölter, Introduction to the Theory of
-- Cooperative Games.
--
--   AreSome n m who             m of n players stay: number k of them is player who k
--   staying m who s             the members of s who stay, by their new numbers
--   staying_shares m who x      the shares of those who stay
--   amount_leaving              what the members of s get who go
--   worth_left                  what s keeps of its worth when those members are paid
--   IsReducedGame               the reduced game of those who stay
--   ReducedGamesExist           there is one
--   ReducedGameIsOne            and no other
--   ReducedGameProperty         the prenucleolus of the reduced game has the shares of the prenucleolus
--   NucleolusReduces            the same of the nucleolus, if the core isn't empty
--   PrekernelReduces            the same of the prekernel
--   the_two i j                 two who stay
--   IsStandard                  each of two players gets its worth alone, and they share the rest alike
--   left_to_two, without_third  games of two, of the example
--   PrekernelByPairs            the prekernel: each two have the standard solution of their reduced game
--   EachTwoAreStandard          so at the prenucleolus each two have it
--   CoreReduces                 a core point's shares are a core point of the reduced game
--   CoreByPairs                 the core: the shares of each two are a core point of their reduced game
--   TwoOfThreeVoters            an example that meets these definitions, and one that doesn't
use Rattle.std.specs.Prelude.{◌≡◌, ◌≢◌, ◌↔◌, ℕ, ◌^◌, ◌<◌, ◌≤◌, nat_eq, [], ◌∷◌, map, if◌then◌else◌}
use Rattle.std.specs.Prelude.{pos, ℤ, ◌-ℤ◌, ◌*ℤ◌}
use Rattle.std.specs.List.{range_with_len}
use Rattle.definitions.specs.Sums.{IsGreatest}
use Rattle.definitions.specs.Classes.{table_worth}
use Rattle.definitions.specs.Coalitions.{has_player, singleton, grand_coalition}
use Rattle.definitions.specs.Games.{Game, Allocation, share, amount, IsAllocation, IsEfficient, IsNucleolus, InCore}
use Rattle.definitions.specs.Prekernel.{InPrekernel}
use Rattle.definitions.specs.declared.Family.TheVariants.{Imputations, Preimputations}
use Rattle.definitions.specs.declared.Measure.TheVariants.{Plain}
use Rattle.law_answers.specs.ClassGames.{voting_game}
use Rattle.law_answers.specs.Renumbering.{coalition_where}
use Rattle.law_answers.specs.SmallNucleoli.{thirds}

-- ---- those who stay

-- m of n players, at least one of them and none twice: number k of the m is player who k of the n
pub record AreSome (n m : ℕ) (who : ℕ → ℕ) : Type 0 where
  pub some : 1 ≤ m
  pub players : (k : ℕ) → k < m → who k < n
  pub once : (k l : ℕ) → k < m → l < m → who k ≡ who l → k ≡ l

abbrev pub staying : ℕ → (ℕ → ℕ) → ℕ → ℕ
staying m who s = coalition_where m (λ k. has_player s (who k))

-- the shares of those who stay, in units of 1 over the denominator of x: whole numbers
-- (a reduced game stands over that denominator, so that all games have whole numbers as worths)
abbrev pub staying_shares : ℕ → (ℕ → ℕ) → Allocation → Allocation
staying_shares m who x = record { shares = map (λ k. share x (who k)) (range_with_len 0 m); den = pos 1 }

-- ---- the reduced game (Davis and Maschler 1965)

-- what the members of s get who go, in those units: all that s gets, less what its members get who stay
abbrev pub amount_leaving : ℕ → (ℕ → ℕ) → Allocation → ℕ → ℤ
amount_leaving m who x s = amount x s -ℤ amount (staying_shares m who x) (staying m who s)

-- what s keeps of its worth, in those units, when its members who go are paid their shares
abbrev pub worth_left : ℕ → (ℕ → ℕ) → Game → Allocation → ℕ → ℤ
worth_left m who g x s = x.den *ℤ g.worth s -ℤ amount_leaving m who x s

-- The game h of those who stay, in those units. All of them are worth what is left when all others are paid, and some
-- of them the most that they keep with any partners among the others, who are paid
pub record IsReducedGame (m : ℕ) (who : ℕ → ℕ) (g : Game) (x : Allocation) (h : Game) : Type 0 where
  pub players : h.players ≡ m
  pub nobody : h.worth 0 ≡ pos 0
  pub all : h.worth (grand_coalition m) ≡ worth_left m who g x (grand_coalition g.players)
  pub some : (t : ℕ) → 0 < t → t < grand_coalition m
      → IsGreatest (λ s. (s < 2 ^ g.players) × (staying m who s ≡ t)) (worth_left m who g x) (h.worth t)

abbrev pub ReducedGamesExist : Type 0
ReducedGamesExist =
    (m : ℕ) (who : ℕ → ℕ) (g : Game) (x : Allocation) → AreSome g.players m who →
    (h : Game) × IsReducedGame m who g x h

abbrev pub ReducedGameIsOne : Type 0
ReducedGameIsOne =
    (m : ℕ) (who : ℕ → ℕ) (g h k : Game) (x : Allocation) →
    IsReducedGame m who g x h → IsReducedGame m who g x k →
    (h.players ≡ k.players) × ((t : ℕ) → t < 2 ^ h.players → h.worth t ≡ k.worth t)

-- ---- the reduced game property

-- if some go with their shares of the prenucleolus, the prenucleolus of the game that is left gives each who stays
-- what it got (Sobolev 1975)
abbrev pub ReducedGameProperty : Type 0
ReducedGameProperty =
    (m : ℕ) (who : ℕ → ℕ) (g h : Game) (x : Allocation) → AreSome g.players m who → IsReducedGame m who g x h →
    IsNucleolus Preimputations Plain g x → IsNucleolus Preimputations Plain h (staying_shares m who x)

-- and so does the nucleolus, if some allocation is in the core
abbrev pub NucleolusReduces : Type 0
NucleolusReduces =
    (m : ℕ) (who : ℕ → ℕ) (g h : Game) (x z : Allocation) → AreSome g.players m who → IsReducedGame m who g x h →
    InCore g z → IsNucleolus Imputations Plain g x → IsNucleolus Imputations Plain h (staying_shares m who x)

-- of the prekernel (Peleg 1986)
abbrev pub PrekernelReduces : Type 0
PrekernelReduces =
    (m : ℕ) (who : ℕ → ℕ) (g h : Game) (x : Allocation) → AreSome g.players m who → IsReducedGame m who g x h →
    InPrekernel g x → InPrekernel h (staying_shares m who x)

-- of the core (Peleg 1986)
abbrev pub CoreReduces : Type 0
CoreReduces =
    (m : ℕ) (who : ℕ → ℕ) (g h : Game) (x : Allocation) → AreSome g.players m who → IsReducedGame m who g x h →
    InCore g x → InCore h (staying_shares m who x)

-- ---- two who stay

abbrev pub the_two : ℕ → ℕ → ℕ → ℕ
the_two i j k = if nat_eq k 0 then i else j

-- the standard solution of a game of two: they share the worth of both, and each gets as much above its worth alone
pub record IsStandard (h : Game) (y : Allocation) : Type 0 where
  pub players : h.players ≡ 2
  pub shares : IsAllocation h y
  pub all : IsEfficient h y
  pub alike : share y 0 -ℤ y.den *ℤ h.worth (singleton 0) ≡ share y 1 -ℤ y.den *ℤ h.worth (singleton 1)

-- an efficient allocation is in the prekernel, as the prenucleolus is, exactly when each two have the standard
-- solution of their reduced game (Peleg 1986)
abbrev pub PrekernelByPairs : Type 0
PrekernelByPairs =
    (g : Game) (x : Allocation) → IsAllocation g x → IsEfficient g x →
    InPrekernel g x
    ↔ ((i j : ℕ) (h : Game) → i < g.players → j < g.players → i ≢ j → IsReducedGame 2 (the_two i j) g x h →
    IsStandard h (staying_shares 2 (the_two i j) x))

abbrev pub EachTwoAreStandard : Type 0
EachTwoAreStandard =
    (g h : Game) (x : Allocation) (i j : ℕ) → i < g.players → j < g.players → i ≢ j →
    IsReducedGame 2 (the_two i j) g x h → IsNucleolus Preimputations Plain g x →
    IsStandard h (staying_shares 2 (the_two i j) x)

-- an efficient allocation is in the core exactly when the shares of each two are in the core of their reduced game
-- (Peleg 1986)
abbrev pub CoreByPairs : Type 0
CoreByPairs =
    (g : Game) (x : Allocation) → IsAllocation g x → IsEfficient g x → g.worth 0 ≡ pos 0 →
    InCore g x
    ↔ ((i j : ℕ) (h : Game) → i < g.players → j < g.players → i ≢ j → IsReducedGame 2 (the_two i j) g x h →
    InCore h (staying_shares 2 (the_two i j) x))

-- ---- an example that meets these definitions, and one that doesn't

-- Three vote by majority, each gets a third, and the third voter goes. Each of the others would keep 2/3 with it, and
-- both keep 2/3: over the denominator 3, each of the three coalitions is worth 2
abbrev pub left_to_two : Game
left_to_two = record { players = 2; worth = table_worth (pos 2 ∷ (pos 2 ∷ (pos 2 ∷ []))) }

-- the game in which nobody has the partner who is paid
abbrev pub without_third : Game
without_third = record { players = 2; worth = table_worth (pos 0 ∷ (pos 0 ∷ (pos 2 ∷ []))) }

-- The first two stay, and one of them twice isn't two who stay. The one game is the reduced game, and the other isn't.
-- A third each is its standard solution, and all for the first isn't
abbrev pub TwoOfThreeVoters : Type 0
TwoOfThreeVoters =
    AreSome 3 2 (λ k. k) × ¬ AreSome 3 2 (λ k. 0)
    × IsReducedGame 2 (λ k. k) (voting_game 2 (1 ∷ (1 ∷ (1 ∷ [])))) thirds left_to_two
    × ¬ IsReducedGame 2 (λ k. k) (voting_game 2 (1 ∷ (1 ∷ (1 ∷ [])))) thirds without_third
    × IsStandard left_to_two (staying_shares 2 (λ k. k) thirds)
    × ¬ IsStandard left_to_two (record { shares = pos 2 ∷ (pos 0 ∷ []); den = pos 1 })
