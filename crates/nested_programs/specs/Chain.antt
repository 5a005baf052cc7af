-- For the private functions of this crate.
-- Chains of answers, each optimal for the stage after the levels that the earlier answers gave.
--
--   single_id      the number of the column of a player alone
--   outer_id       the number of the column of an outside coalition
--   HasWeight      a column has a weight of at least 1
--   Follows        a level takes its coalitions and bounds from a stage's weights
--   StageAnswer    a level, and the weights and multipliers that it came from
--   Answers        they are optimal for the stage, and the level follows
--   after          the stage after the level of an answer
--   levels_of      the levels of answers
--   IsChain        each answers the stage after the levels of the earlier ones
--   last_of        the last answer
--   HaveExcesses   the levels' excesses are multipliers of the level rows
use Rattle.std.specs.Prelude.{◌≡◌, ◌↔◌, ◌⊎◌, ℕ, ◌+◌, ◌<◌, Bool, IsTrue, List, [], ◌∷◌}
use Rattle.std.specs.Prelude.{◌++◌}
use Rattle.std.specs.Prelude.{length, ℤ, pos, ◌+ℤ◌, ◌-ℤ◌, ◌*ℤ◌, ◌≤ℤ◌}
use Rattle.std.specs.List.{AllByRecursion}
use Rattle.definitions.specs.Sums.{weighted_sum}
use Rattle.definitions.specs.Coalitions.{weight_at}
use Rattle.definitions.specs.Games.{Game}
use Rattle.definitions.specs.Certificates.{Level, is_listed, has_bound, number_at, IsOutside}
use Rattle.definitions.specs.Programs.{IsOptimal}
use Rattle.definitions.specs.declared.Family.TheVariants.{Imputations}
use Rattle.definitions.specs.declared.Mode.TheVariants.{Span}
use Rattle.separation.specs.Stage.{settled_columns, entry_of, column}
use Rattle.nested_programs.specs.Stage.{Stage, behind, program_of}
use Rattle.nested_programs.specs.Reading.{RowMultipliers, excess_of}

-- the number of the column of player i alone, and that of an outside coalition
abbrev pub single_id : ℕ → List Level → ℕ → ℕ
single_id n front i = length (settled_columns n front) + i

abbrev pub outer_id : ℕ → List Level → ℕ → ℕ
outer_id n front s = length (settled_columns n front) + (n + n + s)

abbrev pub HasWeight : List (ℕ × ℤ) → ℕ → Type 0
HasWeight [] id = ⊥
HasWeight (w ∷ ws) id = ((w.0 ≡ id) × (pos 1 ≤ℤ w.1)) ⊎ HasWeight ws id

-- A level takes its coalitions and bounds from weights of a stage. What it holds of each player, less its total, is
-- what the weights sum to in the player's row.
pub record Follows (q : Stage) (weights : List (ℕ × ℤ)) (l : Level) : Type 0 where
  pub coalitions : AllByRecursion
      (λ c. (pos 1 ≤ℤ c.1) × HasWeight weights (outer_id q.game.players q.front c.0)) l.coalitions
  pub bounds : AllByRecursion
      (λ b. (b.0 < q.game.players)
      × (((pos 1 ≤ℤ b.1) × HasWeight weights (single_id q.game.players q.front b.0))
      ⊎ ((q.family ≡ Imputations) × IsTrue (has_bound q.front b.0)))) l.bounds
  pub all_coalitions : (s : ℕ) → HasWeight weights (outer_id q.game.players q.front s)
      → IsTrue (is_listed (l ∷ []) s)
  pub all_bounds : (i : ℕ) → i < q.game.players → HasWeight weights (single_id q.game.players q.front i)
      → IsTrue (has_bound (q.front ++ l ∷ []) i)
  pub sums : (i : ℕ) → i < q.game.players
      → weight_at l.coalitions i +ℤ weight_at l.earlier i +ℤ number_at l.bounds i -ℤ l.total
      ≡ weighted_sum (λ id. entry_of q.measure q.game.players (column q.game.players q.front id) i) weights

-- what is found for a stage
pub record StageAnswer : Type 0 where
  pub level : Level
  pub outside : ℕ → Bool
  pub weights : List (ℕ × ℤ)
  pub weight_den : ℤ
  pub multipliers : RowMultipliers

pub record Answers (q : Stage) (t : StageAnswer) : Type 0 where
  pub decides : (s : ℕ) → IsTrue (t.outside s) ↔ IsOutside Span q.game.players q.front s
  pub optimal : IsOptimal (program_of q t.outside) t.weights t.weight_den t.multipliers.num t.multipliers.den
  pub follows : Follows q t.weights t.level

abbrev pub after : Stage → StageAnswer → Stage
after q t = behind q (t.level ∷ [])

abbrev pub levels_of : List StageAnswer → List Level
levels_of [] = []
levels_of (t ∷ ts) = t.level ∷ levels_of ts

abbrev pub IsChain : Stage → List StageAnswer → Type 0
IsChain q [] = Unit {0}
IsChain q (t ∷ ts) = Answers q t × IsChain (after q t) ts

-- the last of the answers t and ts
abbrev pub last_of : StageAnswer → List StageAnswer → StageAnswer
last_of t [] = t
last_of t (t' ∷ ts) = last_of t' ts

-- the levels' excesses are the multipliers of the level rows, from row k on, as fractions
abbrev pub HaveExcesses : Game → RowMultipliers → ℕ → List Level → Type 0
HaveExcesses g m k [] = Unit {0}
HaveExcesses g m k (l ∷ levels) =
    (l.excess_num *ℤ m.den ≡ excess_of g.players m k *ℤ l.excess_den) × (pos 1 ≤ℤ l.excess_den)
    × HaveExcesses g m (k + 1) levels
