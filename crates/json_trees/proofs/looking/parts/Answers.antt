use Rattle.json_trees.proofs.Values.{listed-items_view}
use Rattle.json_trees.proofs.looking.parts.Goals as goal
use Rattle.std.proofs.Common.{sym}

pub returns-in-Some : goal.returns-in-Some
returns-in-Some c =
    rw (← c.in-Some.ensures, c.deref.ensures.value) (sym (listed-items_view c.in-Some.items.now.items))
