use Rattle.std.proofs.Common.{refl, arith, rules}
use Rattle.game_text.specs.Classes.{game_of}
use Rattle.game_text.specs.Readings.{contents_in}
use Rattle.coop.proofs.Solved.{is_solution}
use Rattle.coop.proofs.NoImputation.{is_above, no_imputation}
use Rattle.coop.proofs.FineLevels.{fine_levels}
use Rattle.coop.proofs.Readable.{can_be_checked}
use Rattle.coop.proofs.commands.nucleolus_command.nucleolus_document.Goals as goal

pub returns-in-Point-clause-solves : goal.returns-in-Point-clause-solves
returns-in-Point-clause-solves c =
    let found = rw c.in-Point.is at c.in_ok-shares.ensures.found in
    let chosen = rw c.in-Point.is at c.in_ok-shares.ensures.chosen in (
      refl,
      rw c.take.ensures.taken
          (is_solution c.args.family (contents_in c.args.document.now) c.is_cost-is_cost.result c.in-Point.shares
          c.in-Point.certificate c.in-Point.certificate.levels c.is_cost-is_cost.ensures found chosen
          (omega (arith, c.if-players-nucleolus_limit.false, c.nucleolus_limit.ensures, c.players.ensures.count))
          refl c.recall_limits.ensures.certificate.form),
    )

pub returns-in-Point-clause-printable : goal.returns-in-Point-clause-printable
returns-in-Point-clause-printable c =
    let found = rw c.in-Point.is at c.in_ok-shares.ensures.found in
    record {
      fine =
          fine_levels c.in-Point.certificate.mode c.args.family c.args.document.now.measure
          (game_of (contents_in c.args.document.now).game) c.in-Point.shares c.in-Point.certificate
          c.recall_limits.ensures.shares c.recall_limits.ensures.certificate found;
      form = rw c.take.ensures.taken (c.requires.accepted.whole, c.requires.accepted.shallow);
    }

pub returns-in-Point-clause-readable : goal.returns-in-Point-clause-readable
returns-in-Point-clause-readable c =
    let found = rw c.in-Point.is at c.in_ok-shares.ensures.found in
    rw c.take.ensures.taken
    (can_be_checked c.args.family (contents_in c.args.document.now) c.args.document.now.tree
    c.is_cost-is_cost.result c.in-Point.shares c.in-Point.certificate c.requires.accepted refl
    c.is_cost-is_cost.ensures c.recall_limits.ensures.shares c.recall_limits.ensures.certificate found
    (omega (arith, c.if-players-nucleolus_limit.false, c.nucleolus_limit.ensures, c.players.ensures.count))
    c.requires.class)

pub returns-in-NoImputation-clause-solves : goal.returns-in-NoImputation-clause-solves
returns-in-NoImputation-clause-solves c =
    let g = game_of (contents_in c.args.document.now).game in
    let lacks = rw c.in-NoImputation.is at c.in_ok-shares.ensures.found in (
      omega (arith, c.if-players-nucleolus_limit.false, c.nucleolus_limit.ensures, c.players.ensures.count),
      record {
        imputations = lacks.imputations;
        alone_is = search rules;
        total_is = search rules;
        above = is_above c.args.family g c.in-NoImputation.singles c.in-NoImputation.total lacks;
        none = no_imputation c.args.family g c.in-NoImputation.singles c.in-NoImputation.total lacks;
      },
    )
