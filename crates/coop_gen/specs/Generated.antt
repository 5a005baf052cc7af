-- The game of a kind, a number of players and a seed.
--
--   HasKindSize kind n     the kind has games of n players
--   generated kind n seed  the description of the game
use Rattle.std.specs.Prelude.{ℕ, ◌+◌, ◌-◌, ◌/◌, ◌≤◌, sum}
use Rattle.game_text.specs.Classes.{Description, table, airport, bankruptcy, tree, assignment}
use Rattle.kinds.specs.declared.kind.Kind.{Kind}
use Rattle.kinds.specs.declared.kind.Kind.TheVariants.{Table, Airport, Bankruptcy, Tree, Assignment}
use Rattle.drawn_games.specs.Draws.{short_draw}
use Rattle.drawn_games.specs.Numbers.{table_numbers, long_draws, rows_of, link, pair_value}

-- a kind has games of 1 to 16 or 64 players, and of 2 to 16 if there are two sides
abbrev pub HasKindSize : Kind → ℕ → Type 0
HasKindSize Table n = (1 ≤ n) × (n ≤ 16)
HasKindSize Airport n = (1 ≤ n) × (n ≤ 64)
HasKindSize Bankruptcy n = (1 ≤ n) × (n ≤ 64)
HasKindSize Tree n = (1 ≤ n) × (n ≤ 16)
HasKindSize Assignment n = (2 ≤ n) × (n ≤ 16)

abbrev pub generated : Kind → ℕ → ℕ → Description
generated Table n seed = table n (table_numbers seed n)
generated Airport n seed = airport (long_draws seed n)
generated Bankruptcy n seed = bankruptcy (sum (long_draws seed n) / 2) (long_draws seed n)
generated Tree n seed = tree (rows_of (n + 1) (n + 1) (link (short_draw seed) n))
generated Assignment n seed = assignment (rows_of (n / 2) (n - n / 2) (pair_value (short_draw seed) (n - n / 2)))
