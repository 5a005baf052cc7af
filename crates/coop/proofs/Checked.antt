-- A verdict on a certificate in its form: after yes the shares are the nucleolus.
use Rattle.std.proofs.Common.{◌≡◌, ◌≤◌, ℕ, subst, refl, inl, inr}
use Rattle.definitions.specs.Games.{Allocation}
use Rattle.definitions.specs.Certificates.{HasForm, Certifies}
use Rattle.definitions.specs.Measures.{IsMeasurable}
use Rattle.definitions.specs.declared.Family.{Family}
use Rattle.definitions.specs.declared.Measure.{Measure}
use Rattle.definitions.specs.declared.Measure.TheVariants.{Plain, PerHead}
use Rattle.theorems.proofs.Soundness.{IsNucleolus-from_certificate}
use Rattle.real_shares.proofs.Soundness.{IsNucleolusOverGroups-from_certificate}
use Rattle.real_shares.proofs.ForReals.{IsNucleolusForReals-from_certificate}
use Rattle.kohlberg.specs.Certificate.{CertificateData}
use Rattle.kohlberg.specs.declared.verdicts.Verdict.{Verdict}
use Rattle.kohlberg.specs.declared.verdicts.Verdict.TheVariants.{Yes}
use Rattle.checker.specs.Meaning.{IsVerdict}
use Rattle.game_text.specs.Classes.{game_of}
use Rattle.game_text.specs.Documents.{Contents}
use Rattle.coop.specs.Limits.{check_limit}
use Rattle.coop.specs.Checks.{HasEvidence, IsCheckedAs}

measurable : (measure : Measure) (n : ℕ) → n ≤ check_limit measure → IsMeasurable measure n
measurable Plain n h = inl refl
measurable PerHead n h = inr h

module _ (d : Contents) (f : Family) (x : Allocation) (c : CertificateData) (v : Verdict)
    (taken : (game_of d.game).players ≤ check_limit d.measure) (players : c.players ≡ (game_of d.game).players)
    (right : IsVerdict c.mode f d.measure (game_of d.game) x c.levels v) where
  certified : v ≡ Yes → Certifies c.mode f d.measure (game_of d.game) x c.levels
  certified same = subst (IsVerdict c.mode f d.measure (game_of d.game) x c.levels) same right

  pub is_checked : HasEvidence d f x c → HasForm c.mode c.players c.levels → IsCheckedAs d v
  is_checked evidence formed =
      let g = game_of d.game in
      let form = subst (λ (n : ℕ). HasForm c.mode n c.levels) players formed in
      let within = measurable d.measure g.players taken in
      record {
        family = f;
        shares = x;
        certificate = c;
        evidence = evidence;
        players = players;
        form = form;
        verdict = right;
        nucleolus =
            λ same. IsNucleolus-from_certificate c.mode f d.measure g x c.levels within form (certified same);
        for_reals =
            λ same. IsNucleolusForReals-from_certificate c.mode f d.measure g x c.levels within form (certified same);
        over_groups =
            λ same. IsNucleolusOverGroups-from_certificate c.mode f d.measure g x c.levels within form (certified same);
      }
