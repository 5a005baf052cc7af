use Rattle.checker.proofs.outside.first_unfixed.Goals as goal

pub returns-in-FreePlayers : goal.returns-in-FreePlayers
returns-in-FreePlayers c = rw c.in-FreePlayers.is c.first_free.ensures
