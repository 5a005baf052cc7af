use Rattle.std.proofs.Common.{◌≡◌, codes, true, false, ◌&&◌, Some, None, sym, ap, ◌∙◌, subst}
use Rattle.std.proofs.lemmas.Bool.{and_left, and_right, and_parts}
use Rattle.serde_json.specs.Data.{Data}
use Rattle.serde_json.specs.Find.{get}
use Rattle.serde_json.specs.View.{view}
use Rattle.json_trees.specs.Keys.{has_only_keys}
use Rattle.json_trees.specs.Trees.{passes, passes_if_there, is_array_of, is_text}
use Rattle.document_parts.specs.Excess.{is_measure}
use Rattle.document_parts.specs.Version.{is_version}
use Rattle.game_text.specs.Shape.{document_keys, is_game_shaped, has_needed, is_shaped}
use Rattle.game_text.specs.Classes.{class_of, is_shaped_as}
use Rattle.game_text.specs.declared.command.Command.{Command}
use Rattle.game_text.proofs.shape.shaped_game.Goals as goal

not_shaped : (command : Command) (tree : Data) → passes is_game_shaped (get (codes "game") tree) ≡ false
    → is_shaped command tree ≡ false
not_shaped command tree e =
    and_left (has_only_keys document_keys tree && passes is_game_shaped (get (codes "game") tree))
    (has_needed command tree)
    (and_right (has_only_keys document_keys tree) (passes is_game_shaped (get (codes "game") tree)) e)

no_class : (game : Data) → class_of game ≡ None → is_game_shaped game ≡ false
no_class game e =
    and_right
    (passes_if_there (is_array_of is_text) (get (codes "names") game)
    && passes_if_there is_measure (get (codes "excess") game)
    && passes_if_there is_version (get (codes "version") game))
    (is_shaped_as (class_of game) game) (ap (λ o. is_shaped_as o game) e)

shaped_there : (command : Command) (tree game : Data) → get (codes "game") tree ≡ Some game
    → is_shaped command tree ≡ true → is_game_shaped game ≡ true
shaped_there command tree game e h =
    let front =
    and_parts (has_only_keys document_keys tree && passes is_game_shaped (get (codes "game") tree))
    (has_needed command tree) h in
    subst (λ o. passes is_game_shaped o ≡ true) e
    (and_parts (has_only_keys document_keys tree) (passes is_game_shaped (get (codes "game") tree)) front.0).1

pub returns-in_default-clause-none : goal.returns-in_default-clause-none
returns-in_default-clause-none c =
    not_shaped c.args.command (view c.args.tree.now) (ap (passes is_game_shaped) (sym c.in_default.ensures))

pub returns-in_default-class_of-clause-none : goal.returns-in_default-class_of-clause-none
returns-in_default-class_of-clause-none c =
    not_shaped c.args.command (view c.args.tree.now)
    (ap (passes is_game_shaped) (sym c.in-Some.ensures)
    ∙ no_class (view c.in-Some.game.now) (sym c.in_default-class_of.ensures))

pub invariant_of-result : goal.invariant_of-result
invariant_of-result c = record {
  named = sym c.in-Some-class_of.ensures;
  shaped =
      shaped_there c.args.command (view c.args.tree.now) (view c.in-Some.game.now) (sym c.in-Some.ensures)
      (sym c.is_shaped.ensures ∙ c.if-is_shaped.true);
}
