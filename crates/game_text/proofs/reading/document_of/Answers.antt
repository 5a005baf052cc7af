use Rattle.std.proofs.Common.{◌≡◌, ◌&&◌, Bool, true, false, Option, Some, None}
use Rattle.std.proofs.Common.{codes, pos, to_z, of_z, w64, rules, refl, sym, ap, ◌∙◌}
use Rattle.std.specs.Prelude.{unwrap_or}
use Rattle.serde_json.specs.Data.{Data, null}
use Rattle.serde_json.specs.Find.{get}
use Rattle.serde_json.specs.View.{view}
use Rattle.std.proofs.lemmas.Bool.{and_parts, false≢true}
use Rattle.std.proofs.lemmas.Result.{err_from_is_err_and}
use Rattle.kinds.specs.declared.refusal.Refusal.{Refusal}
use Rattle.kinds.specs.declared.refusal.Refusal.TheVariants.{Shape}
use Rattle.json_trees.specs.Keys.{has_only_keys}
use Rattle.json_trees.specs.Trees.{passes}
use Rattle.game_text.specs.Shape.{document_keys, is_game_shaped, has_needed, is_shaped}
use Rattle.game_text.specs.declared.command.Command.{Command}
use Rattle.game_text.specs.Refusals.{unless}
use Rattle.game_text.proofs.Chain.{fault_in_sizes, fault_in_fractions, fault_behind_numbers, behind_numbers}
use Rattle.game_text.proofs.reading.document_of.Goals as goal

stopped : (b : Bool) (r : Refusal) (rest : Option Refusal) → b ≡ false → unless b r rest ≡ Some r
stopped b r rest e = ap (λ t. unless t r rest) e

-- a document of its shape has a game
no_game : (command : Command) (tree : Data) → is_shaped command tree ≡ true → None ≡ get (codes "game") tree → ⊥
no_game command tree h e =
    let front =
    and_parts (has_only_keys document_keys tree && passes is_game_shaped (get (codes "game") tree))
    (has_needed command tree) h in
    let passed =
    (and_parts (has_only_keys document_keys tree) (passes is_game_shaped (get (codes "game") tree)) front.0).1 in
    false≢true (ap (passes is_game_shaped) e ∙ passed)

pub returns-in_default : goal.returns-in_default
returns-in_default c = stopped _ Shape _ c.in_default.ensures.none

pub returns-in_err-game : goal.returns-in_err-game
returns-in_err-game c =
    let p = err_from_is_err_and c.from_residual.result c.from_residual.ensures.1 in
    rw (p.1, p.2)
    (fault_in_sizes c.args.command (view c.in-Some.shaped.tree.now) (view c.args.tree) c.in-Some.ensures.some.1
    c.in-Some.ensures.some.0 c.in_err-game.field-0.0 c.in_err-game.ensures)

pub returns-in_err-written : goal.returns-in_err-written
returns-in_err-written c =
    let p = err_from_is_err_and c.from_residual-in_err-written.result c.from_residual-in_err-written.ensures.1 in
    rw (p.1, p.2)
    (fault_in_fractions c.args.command (view c.in_ok-game.game.tree.now) (view c.args.tree)
    (c.in_ok-game.ensures.0 ∙ c.in-Some.ensures.some.1) c.in-Some.ensures.some.0 c.in_ok-game.game.sizes
    c.in_err-written.field-0.0 c.in_err-written.ensures)

pub returns-in_err-said : goal.returns-in_err-said
returns-in_err-said c =
    let p = err_from_is_err_and c.from_residual-in_err-said.result c.from_residual-in_err-said.ensures.1 in
    rw (p.1, p.2)
    (fault_behind_numbers c.args.command (view c.in_ok-game.game.tree.now) (view c.args.tree)
    (c.in_ok-game.ensures.0 ∙ c.in-Some.ensures.some.1) c.in-Some.ensures.some.0 c.in_ok-game.game.sizes _
    c.in_ok-written.ensures c.in_err-said.field-0.0 c.in_err-said.ensures)

pub returns-in_default-game_out_of : goal.returns-in_default-game_out_of
returns-in_default-game_out_of c =
    absurd (no_game c.args.command (view c.args.tree) c.in-Some.ensures.some.0 c.in_default-game_out_of.ensures)

pub returns : goal.returns
returns c =
    let its = c.in_ok-game.ensures.0 ∙ c.in-Some.ensures.some.1 in
    let kept : to_z w64 (of_z w64 c.from-scale.result) ≡ c.from-scale.result = search rules in
    behind_numbers c.args.command (view c.in_ok-game.game.tree.now) (view c.args.tree) its c.in-Some.ensures.some.0
    c.in_ok-game.game.sizes _ c.in_ok-written.ensures c.in_ok-said.said _ c.in_ok-said.ensures
    (record {
      described = refl;
      tree = ap (λ o. unwrap_or o null) c.in-Some-game_out_of.ensures ∙ sym its;
      measure = refl;
      scale = kept ∙ c.from-scale.ensures ∙ ap pos c.scale.ensures;
      family = refl;
      shares = refl;
      certificate = refl;
    })
