-- A document that isn't refused describes a game of its class.
--
-- The worths of a tree game are optima over all attachment plans, and those of an assignment game or a market over all
-- matchings. The rows of a tree game are those of links, since they passed its test (`links_hold` in MatrixRows.antt).
use Rattle.std.proofs.Common.{◌≡◌, ℕ, List, nat_le, None, sym, ap, subst}
use Rattle.std.proofs.lemmas.Bool.{and_parts}
use Rattle.serde_json.specs.Data.{Data}
use Rattle.document_parts.specs.Scales.{scale_of}
use Rattle.game_text.specs.Classes.{class_of, has_numbers_as, has_numbers, description_of, IsOfClass}
use Rattle.game_text.specs.Documents.{Contents, game_tree}
use Rattle.game_text.specs.Refusals.{has_needed_numbers, IsDocument}
use Rattle.game_text.specs.Denominators.{tree_refusal}
use Rattle.game_text.specs.declared.command.Command.{Command}
use Rattle.game_text.proofs.Computed.{document_as}
use Rattle.game_text.proofs.Laws.{laws_of}
use Rattle.game_text.proofs.Passed.{passed_tests}

of_class : (command : Command) (tree : Data) → tree_refusal command tree ≡ None
    → IsOfClass (description_of (game_tree tree))
of_class command tree e =
    let passes = passed_tests command tree e in
    let game = game_tree tree in
    let numbers = (and_parts (has_numbers game) (has_needed_numbers command tree) passes.numbers).0 in
    let within =
    (and_parts (nat_le (scale_of game) 65536) (has_numbers_as (scale_of game) (class_of game) game)
    numbers).1 in
    (laws_of (class_of game)).of_class (scale_of game) game passes.players within passes.own

pub document_of_class : (command : Command) (bytes : List ℕ) (d : Contents) → IsDocument command bytes d
    → IsOfClass d.game
document_of_class command bytes d h =
    let as_read = document_as command bytes d h in
    subst IsOfClass (sym (ap (λ c. c.game) as_read.says)) (of_class command as_read.tree as_read.passed)
