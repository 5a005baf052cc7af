use Rattle.definitions.specs.declared.Family.TheVariants.{Imputations}
use Rattle.coop.proofs.CorePoints.{scheme_point}
use Rattle.coop.proofs.classes.core_answer.Goals as goal

pub returns-in_ok-solve-in-Airport : goal.returns-in_ok-solve-in-Airport
returns-in_ok-solve-in-Airport c =
    let solved = c.in_ok-solve-in-Airport.ensures.solved Imputations in
    let core = c.in_ok-solve-in-Airport.ensures.core in
    let said = scheme_point _ _ _ core solved c.core_point.ensures.certificate in
    rw (c.core_point.ensures.point, c.in-Airport.is) said

pub returns-in_ok-solve-in-Bankruptcy : goal.returns-in_ok-solve-in-Bankruptcy
returns-in_ok-solve-in-Bankruptcy c =
    let solved = c.in_ok-solve-in-Bankruptcy.ensures.solved Imputations in
    let core = c.in_ok-solve-in-Bankruptcy.ensures.core in
    let said = scheme_point _ _ _ core solved c.core_point-in-Bankruptcy.ensures.certificate in
    rw (c.core_point-in-Bankruptcy.ensures.point, c.in-Bankruptcy.is) said

pub returns-in_ok-bird-in-Tree : goal.returns-in_ok-bird-in-Tree
returns-in_ok-bird-in-Tree c =
    let bird = c.in_ok-bird-in-Tree.ensures in
    rw c.in-Tree.is (bird.core, (c.in_ok-bird-in-Tree.field-0.1, bird))
