use Rattle.std.proofs.Common.{◌≡◌, ◌≤◌, sym, ap, ◌∙◌, arith}
use Rattle.std.specs.Option.{option_copied}
use Rattle.game_text.specs.Classes.{game_of, description_in}
use Rattle.game_text.specs.Readings.{contents_in}
use Rattle.coop.specs.Checks.{HasEvidence}
use Rattle.coop.specs.Limits.{check_limit}
use Rattle.coop.proofs.Checked.{is_checked}
use Rattle.coop.proofs.PrintableAnswers.{verdict_fine}
use Rattle.coop.proofs.commands.check_command.check_document.Goals as goal

pub returns-clause-checks : goal.returns-clause-checks
returns-clause-checks c =
    let d = contents_in c.args.document.now in
    let family = c.unwrap-family.result in
    let shares = c.unwrap-shares.result.now in
    let certificate = c.unwrap-certificate.result.now in
    let taken : (game_of d.game).players ≤ check_limit d.measure = omega arith in
    let evidence : HasEvidence d family shares certificate =
    record {
      family = c.unwrap-family.ensures;
      shares = sym c.as_ref.ensures.value ∙ ap option_copied c.unwrap-shares.ensures;
      certificate = sym c.as_ref-2.ensures.value ∙ ap option_copied c.unwrap-certificate.ensures;
    } in
    let players : certificate.players ≡ (game_of d.game).players = grind arith in (
      taken,
      is_checked d family shares certificate c.in_ok-verdict.verdict taken players c.in_ok-verdict.ensures evidence
          c.recall_limits.ensures.certificate.form,
    )

pub returns-clause-printable : goal.returns-clause-printable
returns-clause-printable c =
    let document = c.args.document.now in
    let certificate = c.unwrap-certificate.result.now in
    record {
      fine =
          verdict_fine certificate.mode c.unwrap-family.result document.measure
          (game_of (description_in document.game)) c.unwrap-shares.result.now certificate.levels
          c.in_ok-verdict.verdict c.recall_limits.ensures.shares c.in_ok-verdict.ensures c.keep_lowest.ensures;
      form = tt;
    }
