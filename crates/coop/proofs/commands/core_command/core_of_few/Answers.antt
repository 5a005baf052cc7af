use Rattle.std.proofs.Common.{◌≡◌, ◌≤◌, true, sym, subst}
use Rattle.game_text.specs.Classes.{Description, game_of}
use Rattle.coop.specs.Classes.{is_no_market}
use Rattle.coop.specs.Classes.{core_limit, HasFewPlayers}
use Rattle.coop.proofs.PlayerLimits.{few_players}
use Rattle.real_shares.proofs.ForReals.{core_point_for_reals}
use Rattle.game_text.specs.Readings.{contents_in}
use Rattle.coop.proofs.commands.core_command.core_of_few.Goals as goal

pub core_answer-requires : goal.core_answer-requires
core_answer-requires c =
    let accepted = c.requires.accepted in
    let served = subst (λ (d : Description). is_no_market d ≡ true) accepted.described c.requires.class in
    let taken =
    subst (λ (d : Description). (game_of d).players ≤ core_limit d) accepted.described c.requires.taken in
    subst HasFewPlayers (sym accepted.described)
    (few_players accepted.command accepted.document accepted.passed served taken)

pub returns-in-Point-clause-finds : goal.returns-in-Point-clause-finds
returns-in-Point-clause-finds c =
    let said = rw c.in-Point.is at c.in_ok-shares.ensures in
    record {
      in_core = said.0;
      for_reals = core_point_for_reals (game_of (contents_in c.args.document.now).game) c.in-Point.shares said.0;
      chosen = said.1;
      signs = c.is_cost-is_cost.ensures;
    }
