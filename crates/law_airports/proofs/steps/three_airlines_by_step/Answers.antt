use Rattle.law_airports.proofs.ThreeAirlinesByStep.{three_airlines_by_step}
use Rattle.law_airports.proofs.steps.three_airlines_by_step.Goals as goal

pub returns : goal.returns
returns c = three_airlines_by_step
