use Rattle.law_monotonicity.proofs.BirdTimes.{bird_times}
use Rattle.law_monotonicity.proofs.networks.bird_times.Goals as goal

pub returns : goal.returns
returns c = bird_times
