use Rattle.std.proofs.Common.{◌^◌, ◌∙◌, length, ap}
use Rattle.std.proofs.lemmas.List.FromFn.{length-map-range_with_len}
use Rattle.coalitions.specs.GrayOrder.{gray_step}
use Rattle.coalitions.proofs.GrayOrder.{gray_fits, flips, once, steps_run}
use Rattle.coalitions.proofs.Coalition.gray.Goals as goal

pub returns-clause-count : goal.returns-clause-count
returns-clause-count c = ap length c.from_empty.ensures ∙ length-map-range_with_len gray_step 0 (2 ^ c.args.n)

pub returns-clause-within : goal.returns-clause-within
returns-clause-within c = λ k lt. gray_fits c.args.n k lt

pub returns-clause-flips : goal.returns-clause-flips
returns-clause-flips c = λ k lt. flips c.args.n k c.requires lt

pub returns-clause-once : goal.returns-clause-once
returns-clause-once c = λ s lt. once c.args.n s lt

pub returns-clause-runs : goal.returns-clause-runs
returns-clause-runs c = steps_run
