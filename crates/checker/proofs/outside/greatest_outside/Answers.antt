use Rattle.checker.proofs.outside.greatest_outside.Goals as goal

pub returns-in-FreePlayers : goal.returns-in-FreePlayers
returns-in-FreePlayers g c = rw c.in-FreePlayers.is c.greatest_split.ensures

pub returns-in-Vectors : goal.returns-in-Vectors
returns-in-Vectors g c = rw c.in-Vectors.is (λ levels h. c.greatest_unspanned.ensures levels h.3)
