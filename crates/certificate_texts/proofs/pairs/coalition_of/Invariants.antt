use Rattle.std.proofs.Common.{◌≡◌, ◌<◌, ◌≤◌, ◌^◌, map}
use Rattle.serde_json.specs.View.{view}
use Rattle.certificate_texts.specs.Levels.{numbers_above, coalition_of}
use Rattle.json_trees.proofs.Values.{rest}
use Rattle.certificate_texts.proofs.Ascents.{summed}
use Rattle.certificate_texts.proofs.pairs.coalition_of.Given as goal

abbrev pub invariant-loop-member : goal.invariant-loop-member
invariant-loop-member l = record {
  goes : coalition_of l.n (map view l.members)
      ≡ summed l.mask (numbers_above l.low l.n (rest l.members l.member-index));
  within : l.mask < 2 ^ l.low;
  few : l.low ≤ l.n;
}
