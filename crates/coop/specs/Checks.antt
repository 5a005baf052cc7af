-- The right verdict on the certificate of a document. After yes its shares are the nucleolus, or the prenucleolus.
--
--   HasEvidence       the family, the shares and the certificate that a document gives
--   IsCheckable       a document gives them for its players
--   IsCheckedAs       the verdict is the right one; what yes says of the shares
--   Checks            the answer is the right verdict, or that there are too many players
--   HasLowestExcess   the excess that a verdict carries, if it carries one, is in lowest terms
use Rattle.std.specs.Prelude.{◌≡◌, ◌<◌, ◌≤◌, ⊤, length, Some}
use Rattle.definitions.specs.Games.{Allocation, IsNucleolus}
use Rattle.definitions.specs.Certificates.{HasForm}
use Rattle.definitions.specs.declared.Family.{Family}
use Rattle.kohlberg.specs.Certificate.{CertificateData}
use Rattle.real_shares.specs.Claims.{IsNucleolusForReals, IsNucleolusOverGroups}
use Rattle.checker.specs.Meaning.{IsVerdict}
use Rattle.fractions.specs.Fraction.{IsReduced}
use Rattle.kohlberg.specs.declared.verdicts.Verdict.{Verdict as CheckVerdict}
use Rattle.kohlberg.specs.declared.verdicts.Verdict.TheVariants.{Yes, No}
use Rattle.kohlberg.specs.declared.verdicts.Reason.TheVariants.{OutsideAbove}
use Rattle.game_text.specs.Classes.{game_of}
use Rattle.game_text.specs.Documents.{Contents}
use Rattle.report.specs.declared.answer.Answer.{Answer}
use Rattle.report.specs.declared.answer.Answer.TheVariants.{Verdict, Usage}
use Rattle.report.specs.declared.answer.UsageKind.TheVariants.{Players}
use Rattle.coop.specs.Limits.{check_limit}

-- the family, the shares and the certificate of a document that was to be checked
pub record HasEvidence (d : Contents) (f : Family) (x : Allocation) (c : CertificateData) : Type 0 where
  pub family : d.family ≡ Some f
  pub shares : d.shares ≡ Some x
  pub certificate : d.certificate ≡ Some c

-- a document gives a family, and shares and a certificate for its players
pub record IsCheckable (d : Contents) : Type 0 where
  pub family : Family
  pub shares : Allocation
  pub certificate : CertificateData
  pub evidence : HasEvidence d family shares certificate
  pub share_each : length shares.shares ≡ (game_of d.game).players
  pub players : certificate.players ≡ (game_of d.game).players

-- Yes if the certificate meets all conditions for the shares by the measure of the document, otherwise no with the
-- first that fails. The certificate has its form for the game's players, whatever the verdict is. After yes the shares
-- are a member of the family whose excesses over all coalitions, listed from the greatest, come before those of every
-- other member: of those in fractions, of those in real shares, and of those over any linearly ordered abelian group.
-- Form and conditions alone imply this (`certificates_are_sound` and, of `real_shares`,
-- `certificates_are_sound_for_reals` and `certificates_are_sound_over_groups`), whoever made the certificate.
pub record IsCheckedAs (d : Contents) (v : CheckVerdict) : Type 0 where
  pub family : Family
  pub shares : Allocation
  pub certificate : CertificateData
  pub evidence : HasEvidence d family shares certificate
  pub players : certificate.players ≡ (game_of d.game).players
  pub form : HasForm certificate.mode (game_of d.game).players certificate.levels
  pub verdict : IsVerdict certificate.mode family d.measure (game_of d.game) shares certificate.levels v
  pub nucleolus : v ≡ Yes → IsNucleolus family d.measure (game_of d.game) shares
  pub for_reals : v ≡ Yes → IsNucleolusForReals family d.measure (game_of d.game) shares
  pub over_groups : v ≡ Yes → IsNucleolusOverGroups family d.measure (game_of d.game) shares

-- the answer is the right verdict on the certificate of a document, or says that its game has more players than are
-- checked
abbrev pub Checks : Contents → Answer → Type 0
Checks d (Verdict v) = ((game_of d.game).players ≤ check_limit d.measure) × IsCheckedAs d v
Checks d (Usage Players) = check_limit d.measure < (game_of d.game).players
Checks d _ = ⊥

abbrev pub HasLowestExcess : CheckVerdict → Type 0
HasLowestExcess (No (OutsideAbove j e)) = IsReduced e
HasLowestExcess _ = ⊤
