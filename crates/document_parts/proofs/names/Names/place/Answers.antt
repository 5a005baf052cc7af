use Rattle.std.proofs.Common.{sym, ◌∙◌}
use Rattle.json_trees.proofs.Values.{position_now}
use Rattle.document_parts.proofs.names.Names.place.Goals as goal

pub returns-clause-place : goal.returns-clause-place
returns-clause-place c =
    rw (← c.self.view_is) (c.get_index_of.ensures.index ∙ sym (position_now c.args.name.now c.self.inside.set.keys))
