use Rattle.coop.proofs.CorePoints.{printed_kept, small_numbers, no_core_for_reals}
use Rattle.coop.proofs.commands.core_command.shown.Goals as goal

pub returns-clause-shown : goal.returns-clause-shown
returns-clause-shown g c = record {
  few = c.requires.small.few;
  balanced = c.requires.balanced;
  none = c.requires.empty;
  none_for_reals = no_core_for_reals (g.W.Worth.game c.args.game.now) c.args.collection c.requires.balanced;
  value_is =
      printed_kept c.args.are_costs c.printed_amount-value.result c.value.result _
      c.printed_amount-value.ensures.small c.value.ensures.small c.printed_amount-value.ensures.value
      c.value.ensures.value;
  against_is =
      printed_kept c.args.are_costs c.printed_amount-against.result c.against.result _
      c.printed_amount-against.ensures.small c.against.ensures.small c.printed_amount-against.ensures.value
      c.against.ensures.value;
}

pub returns-clause-printable : goal.returns-clause-printable
returns-clause-printable g c = record { fine = tt; form = small_numbers _ c.args.collection c.requires.small }
