-- How many players a game of each class has for the commands: the list of classes. One that is no market and has no
-- scheme of its own has at most 16.
--
-- A new class adds its case to `few_as` and `within_check`.
use Rattle.std.specs.Prelude.{◌≡◌}
use Rattle.std.proofs.Common.{◌-◌, ◌≤◌, ℕ, ℤ, pos, negsuc, Bool, true, false, ◌&&◌}
use Rattle.std.proofs.Common.{length, Option, Some, None, if◌then◌else◌, codes, nat_lt, nat_le, unwrap_or}
use Rattle.std.proofs.Common.{option_and_then, refl, arith}
use Rattle.std.proofs.lemmas.Bool.{false≢true, leb-true}
use Rattle.serde_json.specs.Data.{Data}
use Rattle.serde_json.specs.Find.{get}
use Rattle.definitions.specs.declared.Measure.{Measure}
use Rattle.definitions.specs.declared.Measure.TheVariants.{Plain, PerHead}
use Rattle.json_trees.specs.Trees.{integer}
use Rattle.document_parts.specs.Scales.{scale_of}
use Rattle.game_text.specs.declared.command.Command.{Command}
use Rattle.game_text.specs.declared.classes.Class.{Class}
use Rattle.game_text.specs.declared.classes.Class.TheVariants.{Table, Cost, Airport, Bankruptcy, Tree, Assignment}
use Rattle.game_text.specs.declared.classes.Class.TheVariants.{Market, Voting}
use Rattle.game_text.specs.Classes.{class_of, has_players_as, game_of, description_as, description_of, Description}
use Rattle.game_text.specs.Classes.{table, cost, airport, bankruptcy, tree, assignment, market, voting}
use Rattle.game_text.specs.Classes.TableClass.{table_players}
use Rattle.game_text.specs.Classes.MatrixClass.{rows_of}
use Rattle.game_text.specs.Documents.{game_tree}
use Rattle.game_text.specs.Denominators.{tree_refusal}
use Rattle.game_text.proofs.Laws.MatrixRows.{points_in, players_in}
use Rattle.game_text.proofs.Passed.{passed_tests}
use Rattle.coop.specs.Classes.{is_no_market, HasFewPlayers, core_limit, nucleolus_limit}
use Rattle.coop.specs.Limits.{check_limit}

-- ---- at most 16 players

few_if : (b c : Bool) (n : ℕ) → (c ≡ true → n ≤ 16) → unwrap_or (if b && c then Some n else None) 0 ≤ 16
few_if true true n h = h refl
few_if true false n h = omega arith
few_if false c n h = omega arith

few_at : (o : Option ℤ) → unwrap_or (option_and_then table_players o) 0 ≤ 16
few_at None = omega arith
few_at (Some (pos n)) = few_if (nat_lt 0 n) (nat_le n 16) n (λ e. leb-true n 16 e)
few_at (Some (negsuc n)) = omega arith

few_points : (n : ℕ) → n ≤ 17 → n - 1 ≤ 16
few_points n h = omega (arith, h)

few_as : (k : ℕ) (c : Option Class) (game : Data) → class_of game ≡ c → has_players_as c game ≡ true
    → is_no_market (description_as k c game) ≡ true
    → (game_of (description_as k c game)).players ≤ core_limit (description_as k c game)
    → HasFewPlayers (description_as k c game)
few_as k None game e h s t = omega arith
few_as k (Some Table) game e h s t = rw e (few_at (option_and_then integer (get (codes "players") game)))
few_as k (Some Cost) game e h s t = rw e (few_at (option_and_then integer (get (codes "players") game)))
few_as k (Some Airport) game e h s t = tt
few_as k (Some Bankruptcy) game e h s t = tt
few_as k (Some Tree) game e h s t = few_points (length (rows_of k game)) (points_in k game h).1
few_as k (Some Assignment) game e h s t = (players_in k game h).2
few_as k (Some Market) game e h s t = absurd (false≢true s)
few_as k (Some Voting) game e h s t = t

pub few_players : (command : Command) (document : Data) → tree_refusal command document ≡ None
    → is_no_market (description_of (game_tree document)) ≡ true
    → (game_of (description_of (game_tree document))).players ≤ core_limit (description_of (game_tree document))
    → HasFewPlayers (description_of (game_tree document))
few_players command document passed served taken =
    few_as (scale_of (game_tree document)) (class_of (game_tree document)) (game_tree document) refl
    (passed_tests command document passed).players served taken

-- ---- whose nucleolus is answered, its certificate is checked

pub within_check : (measure : Measure) (d : Description) → nucleolus_limit measure d ≤ check_limit measure
within_check PerHead d = omega arith
within_check Plain (table n worths) = omega arith
within_check Plain (cost n costs) = omega arith
within_check Plain (airport costs) = omega arith
within_check Plain (bankruptcy estate claims) = omega arith
within_check Plain (tree rows) = omega arith
within_check Plain (assignment rows) = omega arith
within_check Plain (market rows) = omega arith
within_check Plain (voting quota weights) = omega arith
