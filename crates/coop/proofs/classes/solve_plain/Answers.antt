use Rattle.definitions.specs.declared.Family.TheVariants.{Imputations}
use Rattle.coop.proofs.classes.solve_plain.Goals as goal

pub returns-in_ok-solution-in-Airport-clause-chosen : goal.returns-in_ok-solution-in-Airport-clause-chosen
returns-in_ok-solution-in-Airport-clause-chosen c =
    let solved = c.in_ok-solution-in-Airport.ensures.solved Imputations in
    let levels = c.in_ok-solution-in-Airport.ensures.levels in
    rw (c.found_point.ensures, c.in-Airport.is) (solved.in_mode, (_, levels))

pub returns-in_ok-solution-in-Bankruptcy-clause-chosen : goal.returns-in_ok-solution-in-Bankruptcy-clause-chosen
returns-in_ok-solution-in-Bankruptcy-clause-chosen c =
    let solved = c.in_ok-solution-in-Bankruptcy.ensures.solved Imputations in
    let levels = c.in_ok-solution-in-Bankruptcy.ensures.levels in
    rw (c.found_point-in-Bankruptcy.ensures, c.in-Bankruptcy.is) (solved.in_mode, levels)
