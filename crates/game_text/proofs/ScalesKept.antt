-- The scale that a document keeps is that of the tree that it keeps.
use Rattle.std.proofs.Common.{◌≡◌, ℤ, pos, ◌≤ℤ◌, true, nat_le, Result, Ok, Err}
use Rattle.std.proofs.Common.{MatchResult, IfOk, sym, ap, subst, arith}
use Rattle.std.proofs.lemmas.Bool.{and_parts, leb-true}
use Rattle.std.proofs.lemmas.Int.{ints}
use Rattle.serde_json.specs.Data.{Data}
use Rattle.serde_json.specs.View.{view}
use Rattle.json_trees.proofs.Fractions.{written_reduced}
use Rattle.game_text.specs.Documents.{game_tree}
use Rattle.game_text.specs.Classes.{has_numbers, has_numbers_as, class_of}
use Rattle.game_text.specs.Refusals.{has_needed_numbers}
use Rattle.document_parts.specs.Scales.{game_numbers, game_fractions, scale_of, IsScaleOf}
use Rattle.game_text.specs.Readings.{IsTreeReading, IsTreeFault}
use Rattle.game_text.specs.declared.command.Command.{Command}
use Rattle.game_text.specs.declared.document.Document.{Document}
use Rattle.game_text.specs.declared.document.TextFault.{TextFault}
use Rattle.document_parts.proofs.LeastDenominators.{least_denominator_is}
use Rattle.game_text.proofs.Passed.{passed_tests}

abbrev HasScale : Data → ℤ → Type 0
HasScale game k = (k ≤ℤ pos 65536) × IsScaleOf game k

scale_in : (game : Data) (k : ℤ) → has_numbers game ≡ true → k ≡ pos (scale_of game) → HasScale game k
scale_in game k h e =
    let few =
    leb-true (scale_of game) 65536
    (and_parts (nat_le (scale_of game) 65536) (has_numbers_as (scale_of game) (class_of game) game) h).0 in
    let least : IsScaleOf game (pos (scale_of game)) =
    least_denominator_is (game_fractions game) (written_reduced (game_numbers game)) in
    subst (HasScale game) (sym e) (omega (arith, ints, few), least)

pub scale_kept : (command : Command) (tree : Data) (r : Result Document TextFault)
    → MatchResult r (IsTreeReading command tree) (IsTreeFault command tree)
    → IfOk r (λ d. (d.scale ≤ℤ pos 65536) × IsScaleOf (view d.tree) d.scale)
scale_kept command tree (Ok d) m =
    let game = game_tree tree in
    let numbers =
    (and_parts (has_numbers game) (has_needed_numbers command tree)
    (passed_tests command tree m.passed).numbers).0 in
    subst (λ g. HasScale g d.scale) (sym (ap (λ c. c.tree) m.says))
    (scale_in game d.scale numbers (ap (λ c. c.scale) m.says))
scale_kept command tree (Err e) m = tt
