use Rattle.std.proofs.Common.{◌≡◌, to_z, of_z, w64, rules, ℕ, unsigned_abs, List}
use Rattle.std.proofs.Common.{◌∷◌, ◌++◌, [], Some, sym, subst, ap, ◌∙◌}
use Rattle.std.specs.Str.{IsUtf8}
use Rattle.serde_json.specs.Read.{read}
use Rattle.serde_json.specs.View.{view}
use Rattle.serde_json.specs.declared.value.Value.{Object}
use Rattle.serde_json.proofs.Views.{view-Object}
use Rattle.serde_json.specs.Written.{compact_text}
use Rattle.json_texts.specs.Newlines.{without_newline}
use Rattle.report.specs.Lines.{answer_tree}
use Rattle.report.proofs.NoFloats.{no_float}
use Rattle.report.proofs.Depths.{shallow}
use Rattle.report.proofs.Newlines.{without_added}
use Rattle.report.proofs.line.write_report.Goals as goal

pub returns-clause-text : goal.returns-clause-text
returns-clause-text c =
    let kept : to_z w64 (of_z w64 c.args.scale) ≡ c.args.scale = search rules in
    let tree : view (Object c.in_ok-members.members) ≡ answer_tree (unsigned_abs c.args.scale) c.args.answer =
    view-Object c.in_ok-members.members ∙ c.in_ok-members.ensures
    ∙ ap (λ (k : ℕ). answer_tree k c.args.answer) (c.new.ensures ∙ ap unsigned_abs kept) in
    let text =
    c.in_ok-text.ensures.text
    (rw tree (no_float (unsigned_abs c.args.scale) c.args.answer c.requires.printable.form))
    ∙ ap compact_text tree in
    c.in_ok-push.ensures.items ∙ ap (λ (l : List ℕ). l ++ 10 ∷ []) text

pub returns-clause-utf8 : goal.returns-clause-utf8
returns-clause-utf8 c =
    let front = ap without_newline c.in_ok-push.ensures.items ∙ without_added _ in
    subst IsUtf8 (sym front) c.in_ok-text.ensures.utf8

pub returns-clause-reads_back : goal.returns-clause-reads_back
returns-clause-reads_back c =
    let kept : to_z w64 (of_z w64 c.args.scale) ≡ c.args.scale = search rules in
    let tree : view (Object c.in_ok-members.members) ≡ answer_tree (unsigned_abs c.args.scale) c.args.answer =
    view-Object c.in_ok-members.members ∙ c.in_ok-members.ensures
    ∙ ap (λ (k : ℕ). answer_tree k c.args.answer) (c.new.ensures ∙ ap unsigned_abs kept) in
    let front = ap without_newline c.in_ok-push.ensures.items ∙ without_added _ in
    ap read front
    ∙ c.in_ok-text.ensures.reads_back
    (rw tree (shallow (unsigned_abs c.args.scale) c.args.answer c.requires.printable.form)) ∙ ap Some tree
