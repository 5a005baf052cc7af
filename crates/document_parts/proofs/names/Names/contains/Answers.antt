use Rattle.std.proofs.Common.{sym, ◌∙◌}
use Rattle.json_trees.proofs.Values.{any_now}
use Rattle.document_parts.proofs.names.Names.contains.Goals as goal

pub returns : goal.returns
returns c = rw (← c.self.view_is) (c.contains.ensures ∙ sym (any_now c.args.name.now c.self.inside.set.keys))
