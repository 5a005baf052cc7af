use Rattle.std.proofs.Common.{◌≡◌, ◌<◌, ◌^◌, map}
use Rattle.serde_json.specs.View.{view}
use Rattle.document_parts.specs.Members.{joined}
use Rattle.json_trees.proofs.Values.{rest}
use Rattle.document_parts.proofs.table.mask_of.Given as goal

abbrev pub invariant-loop-member : goal.invariant-loop-member
invariant-loop-member l = record {
  goes : joined l.fn.players l.fn.names 0 (map view l.members)
      ≡ joined l.fn.players l.fn.names l.s (rest l.members l.member-index);
  within : l.s < 2 ^ l.fn.players;
}
