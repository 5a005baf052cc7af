-- A generated game has the players that were asked for, and the worths of its class.
--
-- The definition (Generated.antt of specs) asks for each draw by its place. A coalition of a table takes the draw whose
-- number counts the coalitions before it that have more than one player. Two points of a network take that of the pairs
-- before them, and a pair of an assignment game that of its place row by row. The code draws in one pass, or looks a
-- draw up in a list (`drawn_games`). The drawn numbers are within the limits of their class, so no constructor refuses.
use Rattle.std.proofs.Common.{◌≡◌, ℕ, ◌+◌, ◌-◌, ◌/◌, refl, ap₂, ap, ◌∙◌, arith}
use Rattle.std.proofs.lemmas.List.FromFn.{length-map-range_with_len}
use Rattle.tree_games.proofs.Nearest.{tree_is_game}
use Rattle.assignment_games.proofs.Games.{assignment_is_game}
use Rattle.game_text.specs.Classes.{game_of, IsOfClass}
use Rattle.kinds.specs.declared.kind.Kind.{Kind}
use Rattle.kinds.specs.declared.kind.Kind.TheVariants.{Table, Airport, Bankruptcy, Tree, Assignment}
use Rattle.drawn_games.proofs.Sizes.{rows_count, tree_sizes, pair_sellers}
use Rattle.drawn_games.specs.Draws.{long_draw, short_draw}
use Rattle.coop_gen.specs.Generated.{HasKindSize, generated}
use Rattle.drawn_games.specs.Numbers.{rows_of, link, pair_value}

pub generated_players : (kind : Kind) (n seed : ℕ) → HasKindSize kind n
    → (game_of (generated kind n seed)).players ≡ n
generated_players Table n seed h = refl
generated_players Airport n seed h = length-map-range_with_len (long_draw seed) 0 n
generated_players Bankruptcy n seed h = length-map-range_with_len (long_draw seed) 0 n
generated_players Tree n seed h =
    ap (λ (k : ℕ). k - 1) (rows_count (n + 1) (n + 1) (link (short_draw seed) n)) ∙ one_less n
  where
    one_less : (n : ℕ) → n + 1 - 1 ≡ n
    one_less n = omega arith
generated_players Assignment n seed h =
    ap₂ (λ (p q : ℕ). p + q) (rows_count (n / 2) (n - n / 2) (pair_value (short_draw seed) (n - n / 2)))
    (pair_sellers seed n h.0) ∙ both n
  where
    both : (n : ℕ) → n / 2 + (n - n / 2) ≡ n
    both n = omega arith

pub generated_of_class : (kind : Kind) (n seed : ℕ) → HasKindSize kind n → IsOfClass (generated kind n seed)
generated_of_class Table n seed h = tt
generated_of_class Airport n seed h = tt
generated_of_class Bankruptcy n seed h = tt
generated_of_class Tree n seed h =
    tree_is_game (rows_of (n + 1) (n + 1) (link (short_draw seed) n))
    (tree_sizes seed n (rows_of (n + 1) (n + 1) (link (short_draw seed) n)) h.0 h.1 refl)
generated_of_class Assignment n seed h =
    assignment_is_game (rows_of (n / 2) (n - n / 2) (pair_value (short_draw seed) (n - n / 2)))
