-- A document gives what its command needs.
use Rattle.std.proofs.Common.{◌≡◌, ℕ, List, length, Option, Some, IfSome, subst, ap, ◌≤◌}
use Rattle.std.proofs.Common.{arith}
use Rattle.definitions.specs.Games.{Allocation}
use Rattle.game_text.specs.Classes.{game_of}
use Rattle.game_text.specs.Documents.{Contents}
use Rattle.game_text.specs.Refusals.{IsDocument}
use Rattle.game_text.specs.Text.{document_limit}
use Rattle.game_text.specs.Kept.{IsKept}
use Rattle.game_text.specs.declared.command.Command.{Command}
use Rattle.game_text.specs.declared.command.Command.TheVariants as command
use Rattle.kohlberg.specs.Certificate.{CertificateData}
use Rattle.game_text.proofs.Computed.{document_as}
use Rattle.coop.specs.Judgement.{HasShares}
use Rattle.coop.specs.Checks.{IsCheckable}
use Rattle.coop.specs.Needs.{IsAccepted, HasNeeded}

-- the value that there is keeps to what is said of it
holds_of_some : {T : Type 0} (P : T → Type 0) (o : Option T) (t : T) → o ≡ Some t → IfSome o P → P t
holds_of_some P o t e h = subst (λ o. IfSome o P) e h

module _ (bytes : List ℕ) (d : Contents) where
  has_shares : (x : Allocation) → d.shares ≡ Some x
      → IfSome d.shares (λ (x : Allocation). length x.shares ≡ (game_of d.game).players) → HasShares d
  has_shares x given fit = (x, given, holds_of_some _ _ _ given fit)

  is_checkable : IsDocument command.Check bytes d
      → IfSome d.shares (λ (x : Allocation). length x.shares ≡ (game_of d.game).players)
      → IfSome d.certificate (λ (c : CertificateData). c.players ≡ (game_of d.game).players) → IsCheckable d
  is_checkable document fit certified =
      let says = (document_as command.Check bytes d document).says in
      let family = ap (λ (c : Contents). c.family) says in
      let shares = ap (λ (c : Contents). c.shares) says in
      let certificate = ap (λ (c : Contents). c.certificate) says in
      record {
        family = _;
        shares = _;
        certificate = _;
        evidence = record { family = family; shares = shares; certificate = certificate };
        share_each = holds_of_some _ _ _ shares fit;
        players = holds_of_some _ _ _ certificate certified;
      }

  -- no test refused the document, and what was read can be printed again
  accepted : (given : Command) → IsDocument given bytes d → document_limit given ≤ document_limit command.Nucleolus
      → IsKept bytes d.tree → IsAccepted d
  accepted given document limit k =
      let this = document_as given bytes d document in
      record {
        command = given;
        document = this.tree;
        passed = this.passed;
        described = ap (λ (c : Contents). c.game) this.says;
        same = ap (λ (c : Contents). c.tree) this.says;
        measured = ap (λ (c : Contents). c.measure) this.says;
        scaled = ap (λ (c : Contents). c.scale) this.says;
        exact = k.exact;
        whole = k.whole;
        shallow = k.shallow;
        short = omega (arith, this.short, limit, k.shorter);
      }

  pub has_needed : (given : Command) → IsDocument given bytes d
      → IfSome d.shares (λ (x : Allocation). length x.shares ≡ (game_of d.game).players)
      → IfSome d.certificate (λ (c : CertificateData). c.players ≡ (game_of d.game).players) → IsKept bytes d.tree
      → HasNeeded given d
  has_needed command.Nucleolus document fit certified k = accepted command.Nucleolus document (omega arith) k
  has_needed command.Prenucleolus document fit certified k = accepted command.Prenucleolus document (omega arith) k
  has_needed command.Propose document fit certified k =
      has_shares _ (ap (λ (c : Contents). c.shares) (document_as command.Propose bytes d document).says) fit
  has_needed command.Core document fit certified k = accepted command.Core document (omega arith) k
  has_needed command.Check document fit certified k = is_checkable document fit certified
  has_needed command.Shapley document fit certified k = tt
  has_needed command.Bird document fit certified k = tt
  has_needed command.Convex document fit certified k = tt
  has_needed command.Matching document fit certified k = tt
  has_needed command.Kernel document fit certified k =
      has_shares _ (ap (λ (c : Contents). c.shares) (document_as command.Kernel bytes d document).says) fit
