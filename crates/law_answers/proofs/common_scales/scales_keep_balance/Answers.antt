use Rattle.law_answers.proofs.ScalesKeepBalance.{scales_keep_balance}
use Rattle.law_answers.proofs.common_scales.scales_keep_balance.Goals as goal

pub returns : goal.returns
returns c = scales_keep_balance
