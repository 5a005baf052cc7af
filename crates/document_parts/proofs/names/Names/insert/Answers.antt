use Rattle.std.proofs.Common.{sym, ap, not, ◌∙◌}
use Rattle.json_trees.proofs.Values.{any_now}
use Rattle.document_parts.proofs.names.Names.insert.Goals as goal

pub returns-clause-added : goal.returns-clause-added
returns-clause-added c = rw (← c.self.view_is)
    (c.in_ok-added.ensures.added ∙ ap not (sym (any_now c.args.name.now c.self.inside.set.keys)))
