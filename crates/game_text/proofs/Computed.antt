-- What is said of bytes by their least common denominator, with that denominator computed.
use Rattle.std.proofs.Common.{◌≡◌, ◌≤◌, ℕ, List, length, Some, None, sym, ap, ◌∙◌}
use Rattle.serde_json.specs.Data.{Data}
use Rattle.game_text.specs.Text.{document_limit, IsTextOf}
use Rattle.document_parts.specs.Scales.{scale_of}
use Rattle.game_text.specs.Documents.{Contents, game_tree, contents_over}
use Rattle.game_text.specs.Refusals.{refusal_over, IsTreeRefused, IsDocument}
use Rattle.game_text.specs.Denominators.{share_denominator, contents_of, tree_refusal}
use Rattle.game_text.specs.declared.command.Command.{Command}
use Rattle.kinds.specs.declared.refusal.Refusal.{Refusal}
use Rattle.document_parts.proofs.LeastDenominators.{denominator_of, one_denominator_of}

-- a tree of the bytes that no test refuses, and what it says
pub record IsReadAs (command : Command) (bytes : List ℕ) (p : Contents) : Type 0 where
  pub short : length bytes ≤ document_limit command
  pub tree : Data
  pub text : IsTextOf bytes tree
  pub passed : tree_refusal command tree ≡ None
  pub says : p ≡ contents_of command tree

-- a tree of the bytes that is refused so
pub record IsRefusedAs (command : Command) (bytes : List ℕ) (r : Refusal) : Type 0 where
  pub short : length bytes ≤ document_limit command
  pub tree : Data
  pub text : IsTextOf bytes tree
  pub refused : tree_refusal command tree ≡ Some r

module _ (command : Command) (bytes : List ℕ) where
  pub document_from : (p : Contents) → IsReadAs command bytes p → IsDocument command bytes p
  document_from p h = (
    h.short,
    (
      h.tree,
      h.text,
      (
        share_denominator (game_tree h.tree) h.tree,
        denominator_of (scale_of (game_tree h.tree)) h.tree,
        h.passed,
        h.says,
      ),
    ),
  )

  pub refused_from : (r : Refusal) → IsRefusedAs command bytes r → IsTreeRefused command bytes r
  refused_from r h = (
    h.short,
    (
      h.tree,
      h.text,
      (
        share_denominator (game_tree h.tree) h.tree,
        denominator_of (scale_of (game_tree h.tree)) h.tree,
        h.refused,
      ),
    ),
  )

  pub document_as : (p : Contents) → IsDocument command bytes p → IsReadAs command bytes p
  document_as p h =
      let tree = h.1.0 in
      let same : share_denominator (game_tree tree) tree ≡ h.1.2.0 =
      sym (one_denominator_of (scale_of (game_tree tree)) tree h.1.2.0 h.1.2.1) in
      record {
        short = h.0;
        tree = tree;
        text = h.1.1;
        passed = ap (λ d. refusal_over d command tree) same ∙ h.1.2.2;
        says = h.1.2.3 ∙ ap (λ d. contents_over d command tree) (sym same);
      }

  pub refused_as : (r : Refusal) → IsTreeRefused command bytes r → IsRefusedAs command bytes r
  refused_as r h =
      let tree = h.1.0 in
      let same : share_denominator (game_tree tree) tree ≡ h.1.2.0 =
      sym (one_denominator_of (scale_of (game_tree tree)) tree h.1.2.0 h.1.2.1) in
      record
      { short = h.0; tree = tree; text = h.1.1; refused = ap (λ d. refusal_over d command tree) same ∙ h.1.2.2 }
