-- An airport when one player pays its share and goes (Littlechild 1974; Potters and Sudhölter 1999).
--
--   cost_left            what player i needs when player l has paid
--   IsAirportLeft        the airport of those who stay
--   AirportsAreLeft      there is such an airport
--   ReducedAirport       the reduced game of an airport is the game of the airport that is left
--   AirportByNucleolus   there the nucleolus lets each who stays pay what it paid
--   AirlinesLeft         an example that meets these definitions, and one that doesn't
use Rattle.std.specs.Prelude.{◌≡◌, ◌≢◌, ℕ, ◌<◌, List, [], ◌∷◌, length, max, ℤ, pos, ◌-ℤ◌, ◌*ℤ◌, slice_index}
use Rattle.std.specs.Int.{int_min}
use Rattle.definitions.specs.Games.{Allocation, InCore, IsNucleolus}
use Rattle.definitions.specs.declared.Family.{Family}
use Rattle.definitions.specs.declared.Measure.TheVariants.{Plain}
use Rattle.law_answers.specs.Airports.{pays}
use Rattle.law_answers.specs.ClassGames.{airport_game}
use Rattle.law_answers.specs.SmallNucleoli.{payments}
use Rattle.law_reduced_games.specs.ReducedGames.{AreSome, staying_shares, IsReducedGame}

-- what player i needs, in units of 1 over the denominator of x: the lesser of the cost alone, and of the cost with
-- player l less what that one has paid
abbrev pub cost_left : List ℕ → Allocation → ℕ → ℕ → ℤ
cost_left costs x l i =
    int_min (x.den *ℤ pos (slice_index costs i))
    (x.den *ℤ pos (max (slice_index costs i) (slice_index costs l)) -ℤ pays x l)

-- all but player l stay, with these costs
pub record IsAirportLeft (m : ℕ) (who : ℕ → ℕ) (costs : List ℕ) (x : Allocation) (l : ℕ) (left_costs : List ℕ) : Type 0
  where
    pub player : l < length costs
    pub goes : (k : ℕ) → k < m → who k ≢ l
    pub stay : (i : ℕ) → i < length costs → i ≢ l → (k : ℕ) × (k < m) × (who k ≡ i)
    pub players : length left_costs ≡ m
    pub same : (k : ℕ) → k < m → pos (slice_index left_costs k) ≡ cost_left costs x l (who k)

-- the reduced game at payments of the core, as those of the nucleolus, is the game of the airport that is left
abbrev pub ReducedAirport : Type 0
ReducedAirport =
    (m : ℕ) (who : ℕ → ℕ) (costs left_costs : List ℕ) (x : Allocation) (l : ℕ) →
    AreSome (length costs) m who → InCore (airport_game costs) x → IsAirportLeft m who costs x l left_costs →
    IsReducedGame m who (airport_game costs) x (airport_game left_costs)

-- and the costs that are left are whole numbers of at least 0
abbrev pub AirportsAreLeft : Type 0
AirportsAreLeft =
    (m : ℕ) (who : ℕ → ℕ) (costs : List ℕ) (x : Allocation) (l : ℕ) →
    AreSome (length costs) m who → InCore (airport_game costs) x → l < length costs →
    ((k : ℕ) → k < m → who k ≢ l) →
    ((i : ℕ) → i < length costs → i ≢ l → (k : ℕ) × (k < m) × (who k ≡ i)) →
    (left_costs : List ℕ) × IsAirportLeft m who costs x l left_costs

-- so by the nucleolus, and the prenucleolus, each who stays pays there what it paid
abbrev pub AirportByNucleolus : Type 0
AirportByNucleolus =
    (family : Family) (m : ℕ) (who : ℕ → ℕ) (costs left_costs : List ℕ) (x : Allocation) (l : ℕ) →
    AreSome (length costs) m who → IsAirportLeft m who costs x l left_costs →
    IsNucleolus family Plain (airport_game costs) x →
    IsNucleolus family Plain (airport_game left_costs) (staying_shares m who x)

-- ---- an example that meets these definitions, and one that doesn't

-- Who need 2, 4 and 6 pay 1, 3/2 and 7/2. Once the last has paid, the others need 2 and 5/2, which are 4 and 5 over the
-- denominator 2; and their costs alone aren't what is left
abbrev pub AirlinesLeft : Type 0
AirlinesLeft =
    IsAirportLeft 2 (λ k. k) (2 ∷ (4 ∷ (6 ∷ []))) payments 2 (4 ∷ (5 ∷ []))
    × ¬ IsAirportLeft 2 (λ k. k) (2 ∷ (4 ∷ (6 ∷ []))) payments 2 (4 ∷ (8 ∷ []))
