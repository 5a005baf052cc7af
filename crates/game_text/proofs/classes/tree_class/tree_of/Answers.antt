use Rattle.std.proofs.Common.{Some, refl, sym, subst}
use Rattle.serde_json.specs.View.{view}
use Rattle.game_text.specs.declared.classes.Class.TheVariants as class
use Rattle.game_text.specs.declared.classes.Game.TheVariants as games
use Rattle.document_parts.specs.Scales.{scale_of}
use Rattle.game_text.proofs.GivenNumbers.{rows_enough, rows_given}
use Rattle.game_text.proofs.Built.{built_if, refused_if}
use Rattle.game_text.proofs.Laws.MatrixRows.{HasTreeSizes, tree_sizes, tree_made, tree_not_made}
use Rattle.game_text.proofs.classes.tree_class.tree_of.Goals as goal

pub in_rows-requires : goal.in_rows-requires
in_rows-requires c = record {
  enough =
      rows_enough class.Tree (view c.args.game.now) _ _ _ refl c.requires.class c.requires.numbers
      c.deref.ensures.value
      c.parts_at.ensures;
}

pub returns-in-Err-Players : goal.returns-in-Err-Players
returns-in-Err-Players c =
    let sizes =
    subst HasTreeSizes
    (sym
    (rows_given class.Tree (view c.args.game.now) _ _ _ refl c.requires.class c.requires.numbers
    c.deref.ensures.value
    c.parts_at.ensures _ c.in_ok-rows.ensures))
    (tree_sizes (scale_of (view c.args.game.now)) (view c.args.game.now) refl c.requires.class c.requires.sizes)
    in
    absurd ((rw c.in-Err-Players.field-0-is at c.in-Err-Players.ensures) sizes.points)

pub returns-in-Err-Number : goal.returns-in-Err-Number
returns-in-Err-Number c =
    let sizes =
    subst HasTreeSizes
    (sym
    (rows_given class.Tree (view c.args.game.now) _ _ _ refl c.requires.class c.requires.numbers
    c.deref.ensures.value
    c.parts_at.ensures _ c.in_ok-rows.ensures))
    (tree_sizes (scale_of (view c.args.game.now)) (view c.args.game.now) refl c.requires.class c.requires.sizes)
    in
    absurd ((rw c.in-Err-Number.field-0-is at c.in-Err-Number.ensures).1 sizes.entries)

pub returns-in-Ok : goal.returns-in-Ok
returns-in-Ok c =
    built_if (Some class.Tree) (scale_of (view c.args.game.now)) (view c.args.game.now) c.requires.class refl
    games.Tree _
    c.in-Ok.links
    (tree_made c.in-Ok.links _ _
    (rows_given class.Tree (view c.args.game.now) _ _ _ refl c.requires.class c.requires.numbers
    c.deref.ensures.value
    c.parts_at.ensures _ c.in_ok-rows.ensures) c.in-Ok.ensures.0 c.in-Ok.ensures.1) refl

pub returns-in-Err-Matrix : goal.returns-in-Err-Matrix
returns-in-Err-Matrix c =
    refused_if (Some class.Tree) (scale_of (view c.args.game.now)) (view c.args.game.now) c.requires.class refl _
    (tree_not_made _ _
    (rows_given class.Tree (view c.args.game.now) _ _ _ refl c.requires.class c.requires.numbers
    c.deref.ensures.value
    c.parts_at.ensures _ c.in_ok-rows.ensures) (rw c.in-Err-Matrix.field-0-is at c.in-Err-Matrix.ensures).2)
