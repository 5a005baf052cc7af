-- What players get if all together, or one coalition, are worth more and nothing else changes (aggregate monotonicity:
-- Megiddo 1974; Young, Okada and Hashimoto 1982; of one coalition: Zhou 1991). Each law is the contract of a function
-- of this crate.
--
--   GroupGrows d t g h           coalition t is worth d more in h than in g, and each other coalition what it was
--   WholeGrows d g h             all together are worth d more, and each other coalition what it was
--   GetsEqualPart d n x y i      of n players, player i gets at y exactly d/n more than at x
--   PerHeadEachGetsAnEqualPart   by the prenucleolus per head each player does, if all together are worth d more
--   WithCoresTheNucleolusDoes    so it is by the nucleolus per head, if both games have core points
--   ShapleyEachGetsAnEqualPart   and so it is by the Shapley value
--   two_contracts all            1 and 2 earn 1 together, 1, 3 and 4 earn 2, and all four are worth all
--   before, after                the nucleolus with 3 as the worth of all, and with 4
--   WhoGetsLessOfMore            player 1 gets less with 4 than with 3
--   WhoGrowGetNoLess             the members of a coalition that grows together get no less, by the nucleolus
--   EachWhoGrowsGetsNoLess       and each of them gets no less, and who isn't in it no more, by the Shapley value
use Rattle.std.specs.Prelude.{◌≡◌, ◌≢◌, ℕ, ◌^◌, ◌<◌, ◌≤◌, true, false, []}
use Rattle.std.specs.Prelude.{◌∷◌, ℤ, pos, ◌+ℤ◌, ◌-ℤ◌, ◌*ℤ◌, ◌<ℤ◌, ◌≤ℤ◌}
use Rattle.definitions.specs.Classes.{table_worth}
use Rattle.definitions.specs.Coalitions.{has_player, grand_coalition}
use Rattle.definitions.specs.Convexity.{IsConvex}
use Rattle.definitions.specs.Games.{Game, Allocation, share, amount, IsNucleolus, InCore}
use Rattle.definitions.specs.Measures.{IsMeasurable}
use Rattle.definitions.specs.Shapley.{IsShapley}
use Rattle.definitions.specs.declared.Family.{Family}
use Rattle.definitions.specs.declared.Family.TheVariants.{Imputations, Preimputations}
use Rattle.definitions.specs.declared.Measure.{Measure}
use Rattle.definitions.specs.declared.Measure.TheVariants.{Plain, PerHead}

-- coalition t is worth d more in h than in g, and each other coalition is worth what it was; d below 0 is a loss
pub record GroupGrows (d : ℤ) (t : ℕ) (g h : Game) : Type 0 where
  pub players : h.players ≡ g.players
  pub more : h.worth t ≡ g.worth t +ℤ d
  pub others : (s : ℕ) → s < 2 ^ g.players → s ≢ t → h.worth s ≡ g.worth s

abbrev pub WholeGrows : ℤ → Game → Game → Type 0
WholeGrows d g h = GroupGrows d (grand_coalition g.players) g h

-- n times what player i gets more at y than at x is d
abbrev pub GetsEqualPart : ℤ → ℕ → Allocation → Allocation → ℕ → Type 0
GetsEqualPart d n x y i = pos n *ℤ (share y i *ℤ x.den -ℤ share x i *ℤ y.den) ≡ d *ℤ (x.den *ℤ y.den)

-- of what all gain or lose, the prenucleolus per head gives each player an equal part
abbrev pub PerHeadEachGetsAnEqualPart : Type 0
PerHeadEachGetsAnEqualPart =
    (d : ℤ) (g h : Game) (x y : Allocation) (i : ℕ) → g.players ≤ 16 → WholeGrows d g h →
    IsNucleolus Preimputations PerHead g x → IsNucleolus Preimputations PerHead h y → i < g.players →
    GetsEqualPart d g.players x y i

abbrev pub WithCoresTheNucleolusDoes : Type 0
WithCoresTheNucleolusDoes =
    (d : ℤ) (g h : Game) (x y a b : Allocation) (i : ℕ) → g.players ≤ 16 → WholeGrows d g h → InCore g a → InCore h b →
    IsNucleolus Imputations PerHead g x → IsNucleolus Imputations PerHead h y → i < g.players →
    GetsEqualPart d g.players x y i

abbrev pub ShapleyEachGetsAnEqualPart : Type 0
ShapleyEachGetsAnEqualPart =
    (d : ℤ) (g h : Game) (x y : Allocation) (i : ℕ) → WholeGrows d g h → IsShapley g x → IsShapley h y →
    i < g.players → GetsEqualPart d g.players x y i

-- ---- by plain excess somebody may get less

-- a contract of players 1 and 2 earns 1, and one of players 1, 3 and 4 earns 2; all four are worth what is given
abbrev pub two_contracts : ℤ → Game
two_contracts all = record {
  players = 4;
  worth =
      table_worth
      (pos 0
      ∷ (pos 0
      ∷ (pos 1
      ∷ (pos 0
      ∷ (pos 0
      ∷ (pos 0
      ∷ (pos 1
      ∷ (pos 0 ∷ (pos 0 ∷ (pos 0 ∷ (pos 1 ∷ (pos 0 ∷ (pos 2 ∷ (pos 0 ∷ (all ∷ [])))))))))))))));
}

-- shares of 7/6, 1/2, 2/3 and 2/3
abbrev pub before : Allocation
before = record { shares = pos 7 ∷ (pos 3 ∷ (pos 4 ∷ (pos 4 ∷ []))); den = pos 6 }

-- shares of 1 each
abbrev pub after : Allocation
after = record { shares = pos 1 ∷ (pos 1 ∷ (pos 1 ∷ (pos 1 ∷ []))); den = pos 1 }

-- if all four are worth 4 in place of 3, and nothing else changes, the nucleolus and the prenucleolus give player 1
-- the share 1 in place of 7/6, though both games are convex (the first such games: Megiddo 1974; convex: Hokari 2000)
abbrev pub WhoGetsLessOfMore : Type 0
WhoGetsLessOfMore =
    WholeGrows (pos 1) (two_contracts (pos 3)) (two_contracts (pos 4))
    × IsConvex (two_contracts (pos 3))
    × IsConvex (two_contracts (pos 4))
    × ((family : Family) → IsNucleolus family Plain (two_contracts (pos 3)) before)
    × ((family : Family) → IsNucleolus family Plain (two_contracts (pos 4)) after)
    × ((share after 0 *ℤ before.den) <ℤ (share before 0 *ℤ after.den))

-- ---- one coalition

-- if a coalition is worth more and nothing else changes, its members together get no less: by the nucleolus and the
-- prenucleolus, plain and per head (Zhou 1991)
abbrev pub WhoGrowGetNoLess : Type 0
WhoGrowGetNoLess =
    (family : Family) (measure : Measure) (d : ℤ) (t : ℕ) (g h : Game) (x y : Allocation) →
    IsMeasurable measure g.players → pos 0 ≤ℤ d → t < 2 ^ g.players → GroupGrows d t g h →
    IsNucleolus family measure g x → IsNucleolus family measure h y →
    (amount x t *ℤ y.den) ≤ℤ (amount y t *ℤ x.den)

-- by the Shapley value each member of such a coalition gets no less, and each other player no more (Young 1985)
abbrev pub EachWhoGrowsGetsNoLess : Type 0
EachWhoGrowsGetsNoLess =
    (d : ℤ) (t : ℕ) (g h : Game) (x y : Allocation) (i : ℕ) → pos 0 ≤ℤ d → GroupGrows d t g h →
    IsShapley g x → IsShapley h y → i < g.players →
    (has_player t i ≡ true → (share x i *ℤ y.den) ≤ℤ (share y i *ℤ x.den))
    × (has_player t i ≡ false → (share y i *ℤ x.den) ≤ℤ (share x i *ℤ y.den))
