-- The names of a game: those of its players, and those that its sparse table uses.
--
-- A name in a sparse table is looked up twice: here, and where its coalition is made. So the refusal of names comes
-- before that of coalitions, whichever pair is first.
use Rattle.std.specs.Prelude.{codes, Bool, ◌&&◌}
use Rattle.std.specs.List.{list_all}
use Rattle.serde_json.specs.Data.{Data}
use Rattle.serde_json.specs.Find.{get}
use Rattle.json_trees.specs.Trees.{parts_at}
use Rattle.document_parts.specs.Names.{names_of, are_names, are_known}
use Rattle.game_text.specs.Classes.{players}

-- one name for each player, if there are names, and the sparse table uses no other
abbrev pub has_names : Data → Bool
has_names game =
    are_names (players game) (get (codes "names") game) (names_of game)
    && list_all (are_known (names_of game)) (parts_at (codes "sparse") game)
