-- The rows of a market in a document, and what the tests of them say.
use Rattle.std.proofs.Common.{◌≡◌, ℕ, ℤ, List, length, codes, true, nat_lt, nat_le, Some}
use Rattle.std.proofs.Common.{subst, arith}
use Rattle.std.proofs.lemmas.Bool.{and_parts, ltb-true, leb-true}
use Rattle.serde_json.specs.Data.{Data}
use Rattle.matrices.specs.Rows.{HaveEntries}
use Rattle.big_assignment.specs.Markets.{HavePlayers}
use Rattle.json_trees.specs.Trees.{parts_at}
use Rattle.game_text.specs.Classes.{class_of, has_players_as}
use Rattle.document_parts.specs.Scales.{scale_of}
use Rattle.document_parts.specs.Sizes.{is_short_list_size}
use Rattle.game_text.specs.Classes.MatrixClass.{rows_of}
use Rattle.game_text.specs.Classes.AssignmentClass.{sellers_at}
use Rattle.game_text.specs.Classes.MarketClass.{has_market_players}
use Rattle.game_text.specs.Readings.{HasSizes}
use Rattle.game_text.specs.declared.classes.Class.TheVariants.{Market}
use Rattle.game_text.proofs.Sizes.{numbers_within}
use Rattle.game_text.proofs.Laws.MatrixRows.{row_count, seller_count_of, entries_in}

sides_in : (k : ℕ) (game : Data) → has_market_players game ≡ true → HavePlayers (rows_of k game)
sides_in k game h =
    let n = length (parts_at (codes "matrix") game) in
    let m = sellers_at game in
    let sides = and_parts (is_short_list_size n) (is_short_list_size m) h in
    let buyers = and_parts (nat_lt 0 n) (nat_le n 32) sides.0 in
    let sellers = and_parts (nat_lt 0 m) (nat_le m 32) sides.1 in
    let some_buyers = ltb-true 0 n buyers.0 in
    let few_buyers = leb-true n 32 buyers.1 in
    let some_sellers = ltb-true 0 m sellers.0 in
    let few_sellers = leb-true m 32 sellers.1 in
    let rows = row_count k game in
    let first = seller_count_of k game in (
      omega (arith, some_buyers, rows),
      omega (arith, few_buyers, rows),
      omega (arith, some_sellers, first),
      omega (arith, few_sellers, first),
    )

-- the rows have as many players and such entries as a market wants
pub record HasMarketSizes (rows : List (List ℤ)) : Type 0 where
  pub players : HavePlayers rows
  pub entries : HaveEntries rows

pub market_sizes : (k : ℕ) (game : Data) → k ≡ scale_of game → class_of game ≡ Some Market → HasSizes game
    → HasMarketSizes (rows_of k game)
market_sizes k game s e h =
    record {
      players = sides_in k game (subst (λ c. has_players_as c game ≡ true) e h.players);
      entries = entries_in k game (numbers_within game k Market s e h.numbers);
    }
