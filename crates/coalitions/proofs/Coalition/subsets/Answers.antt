use Rattle.std.proofs.Common.{◌^◌, ◌∙◌, length, ap}
use Rattle.std.proofs.lemmas.List.FromFn.{length-range_with_len}
use Rattle.coalitions.proofs.Masks.{masks_run}
use Rattle.coalitions.proofs.Coalition.subsets.Goals as goal

pub returns-clause-count : goal.returns-clause-count
returns-clause-count c = ap length c.from_empty.ensures ∙ length-range_with_len 0 (2 ^ c.args.n)

pub returns-clause-runs : goal.returns-clause-runs
returns-clause-runs c = masks_run
