use Rattle.std.proofs.Common.{◌≡◌, codes, Bool, true, false, not, Some, None, sym, ap, ap₂, ◌∙◌, refl}
use Rattle.std.proofs.lemmas.Bool.{true≢false}
use Rattle.serde_json.specs.Data.{Data}
use Rattle.serde_json.specs.Find.{get}
use Rattle.serde_json.specs.View.{view}
use Rattle.kohlberg.specs.Certificate.{CertificateData}
use Rattle.json_trees.specs.Trees.{passes}
use Rattle.certificate_texts.specs.Certificates.{has_form, certificate_of}
use Rattle.document_parts.specs.Scales.{scale_of}
use Rattle.game_text.specs.Documents.{certificate_tree}
use Rattle.game_text.specs.Classes.{players}
use Rattle.game_text.specs.Needs.{needs, if_needed, given}
use Rattle.game_text.specs.Readings.{IsCertificateReading}
use Rattle.game_text.specs.Refusals.{unless}
use Rattle.game_text.specs.Steps.{certificate_refusal}
use Rattle.game_text.specs.declared.command.Command.{Command}
use Rattle.kinds.specs.declared.refusal.Refusal.TheVariants.{Certificate}
use Rattle.game_text.proofs.Choices.{passed_if, failed_if}
use Rattle.game_text.proofs.reading.Reading.needed_certificate.Goals as goal

not_false : (b : Bool) → not b ≡ false → b ≡ true
not_false true h = refl
not_false false h = absurd (true≢false h)

module _ (command : Command) (game tree : Data) (needed : (needs command).certificate ≡ true) where
  without_form : passes (has_form (scale_of game) (players game)) (get (codes "certificate") tree) ≡ false
      → certificate_refusal command game tree ≡ Some Certificate
  without_form h = ap₂ (λ a b. unless (if_needed a b) Certificate None) needed h

  with_form : (x : CertificateData)
      → passes (has_form (scale_of game) (players game)) (get (codes "certificate") tree) ≡ true
      → x ≡ certificate_of (scale_of game) (players game) (certificate_tree tree)
      → IsCertificateReading command game tree (Some x)
  with_form x h e = record {
    passed = ap₂ (λ a b. unless (if_needed a b) Certificate None) needed h;
    same =
        ap Some e
        ∙ sym (ap (λ b. given b (certificate_of (scale_of game) (players game) (certificate_tree tree))) needed);
  }

pub returns-in_default : goal.returns-in_default
returns-in_default c =
    let game = view c.args.self.now.game.tree.now in
    let tree = view c.args.self.now.tree.now in
    without_form c.args.self.now.command game tree
    (ap (λ i. i.certificate) (sym c.needs.ensures) ∙ not_false _ c.if-not-needs.false)
    (failed_if (passes (has_form (scale_of game) (players game)) (get (codes "certificate") tree))
    (certificate_of (scale_of game) (players game) (certificate_tree tree))
    (sym c.in_default.is ∙ c.in_ok-certificate.ensures))

pub returns : goal.returns
returns c =
    let game = view c.args.self.now.game.tree.now in
    let tree = view c.args.self.now.tree.now in
    let found =
    passed_if (passes (has_form (scale_of game) (players game)) (get (codes "certificate") tree))
    (certificate_of (scale_of game) (players game) (certificate_tree tree)) c.in-Some.certificate
    (sym c.in-Some.is ∙ c.in_ok-certificate.ensures) in
    with_form c.args.self.now.command game tree
    (ap (λ i. i.certificate) (sym c.needs.ensures) ∙ not_false _ c.if-not-needs.false) c.in-Some.certificate found.0
    found.1
