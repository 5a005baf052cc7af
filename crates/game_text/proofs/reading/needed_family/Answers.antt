use Rattle.std.proofs.Common.{◌≡◌, ◌&&◌, true, codes, Option, Some, None, is_some, refl, sym, ap, ◌∙◌}
use Rattle.std.specs.Prelude.{unwrap_or}
use Rattle.std.proofs.lemmas.Bool.{false≢true, and_parts}
use Rattle.serde_json.specs.Data.{Data}
use Rattle.serde_json.specs.Find.{get}
use Rattle.serde_json.specs.View.{view}
use Rattle.definitions.specs.declared.Family.{Family}
use Rattle.definitions.specs.declared.Family.TheVariants.{Imputations}
use Rattle.json_trees.specs.Keys.{has_only_keys}
use Rattle.json_trees.specs.Trees.{passes}
use Rattle.certificate_texts.specs.Shape.{family_of, is_certificate}
use Rattle.game_text.specs.Needs.{needs, if_needed, given}
use Rattle.game_text.specs.Shape.{document_keys, is_game_shaped, has_shares, has_needed, is_shaped}
use Rattle.game_text.specs.declared.command.Command.{Command}
use Rattle.game_text.proofs.reading.needed_family.Goals as goal

there : (o : Option Family) → is_some o ≡ true → o ≡ Some (unwrap_or o Imputations)
there None h = absurd (false≢true h)
there (Some f) h = refl

-- a document of its shape names the family that the command needs
named : (command : Command) (tree : Data) → is_shaped command tree ≡ true → (needs command).answer ≡ true
    → is_some (family_of tree) ≡ true
named command tree h need =
    let front =
    and_parts (has_only_keys document_keys tree && passes is_game_shaped (get (codes "game") tree))
    (has_needed command tree) h in
    let both =
    and_parts
    (if_needed (needs command).shares (has_shares tree) && if_needed (needs command).answer (is_some (family_of tree)))
    (if_needed (needs command).certificate (passes is_certificate (get (codes "certificate") tree))) front.1 in
    let answer =
    (and_parts (if_needed (needs command).shares (has_shares tree))
    (if_needed (needs command).answer (is_some (family_of tree))) both.0).1 in
    sym (ap (λ t. if_needed t (is_some (family_of tree))) need) ∙ answer

pub returns-then-needs : goal.returns-then-needs
returns-then-needs c =
    let tree = view c.args.tree.now in
    let need : (needs c.args.command).answer ≡ true =
    ap (λ n. n.answer) (sym c.needs.ensures) ∙ c.if-needs.true in
    c.family_of.ensures ∙ there (family_of tree) (named c.args.command tree c.requires need)
    ∙ ap (λ t. given t (unwrap_or (family_of tree) Imputations)) (sym need)
