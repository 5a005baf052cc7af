-- In a generated game of every kind the players are worth no more alone, added, than all, so that it has an imputation.
use Rattle.std.proofs.Common.{ℕ, ◌+◌, ◌-◌, ◌/◌, ◌≤◌, sum, refl, arith}
use Rattle.game_text.specs.Classes.{game_of}
use Rattle.kinds.specs.declared.kind.Kind.{Kind}
use Rattle.kinds.specs.declared.kind.Kind.TheVariants.{Table, Airport, Bankruptcy, Tree, Assignment}
use Rattle.drawn_games.proofs.Alone.{table_imputations, airport_imputations}
use Rattle.drawn_games.proofs.Alone.{bankruptcy_imputations, assignment_imputations}
use Rattle.drawn_games.proofs.Plans.{tree_imputations}
use Rattle.drawn_games.proofs.Sizes.{tree_sizes}
use Rattle.drawn_games.specs.Draws.{short_draw}
use Rattle.coop_gen.specs.Generated.{HasKindSize, generated}
use Rattle.drawn_games.specs.Numbers.{long_draws, rows_of, link, pair_value}
use Rattle.drawn_games.specs.Imputations.{HasImputations}

pub generated_imputations : (kind : Kind) (n seed : ℕ) → HasKindSize kind n
    → HasImputations (game_of (generated kind n seed))
generated_imputations Table n seed h = table_imputations seed n h.0 h.1
generated_imputations Airport n seed h = airport_imputations (long_draws seed n)
generated_imputations Bankruptcy n seed h =
    bankruptcy_imputations (sum (long_draws seed n) / 2) (long_draws seed n) (half (sum (long_draws seed n)))
  where
    half : (k : ℕ) → k / 2 ≤ k
    half k = omega arith
generated_imputations Tree n seed h =
    tree_imputations (rows_of (n + 1) (n + 1) (link (short_draw seed) n))
    (tree_sizes seed n (rows_of (n + 1) (n + 1) (link (short_draw seed) n)) h.0 h.1 refl)
generated_imputations Assignment n seed h =
    assignment_imputations (rows_of (n / 2) (n - n / 2) (pair_value (short_draw seed) (n - n / 2)))
