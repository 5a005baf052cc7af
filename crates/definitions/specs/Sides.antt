-- Core points that are best for one side of a game, as for the buyers of a market (Shapley and Shubik 1971).
--
--   IsBestFor g side x          in the core, and no core point gives a player of the side more
--   IsBuyer p i, IsSeller p i   the sides of a market of p buyers, who are its first players
use Rattle.std.specs.Prelude.{ℕ, ◌<◌, ◌≤◌, ◌*ℤ◌, ◌≤ℤ◌}
use Rattle.definitions.specs.Games.{Game, Allocation, InCore, share}

-- x is in the core, and no core allocation, over any denominator, gives a player of the side more
abbrev pub IsBestFor : Game → (ℕ → Type 0) → Allocation → Type 0
IsBestFor g side x =
    InCore g x
    × ((y : Allocation) → InCore g y → (i : ℕ) → i < g.players → side i
    → (share y i *ℤ x.den) ≤ℤ (share x i *ℤ y.den))

-- the first players of a market are its buyers
abbrev pub IsBuyer : ℕ → ℕ → Type 0
IsBuyer buyers i = i < buyers

abbrev pub IsSeller : ℕ → ℕ → Type 0
IsSeller buyers i = buyers ≤ i
