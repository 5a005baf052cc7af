use Rattle.std.proofs.Common.{refl}
use Rattle.spans.proofs.Known.{nothing_known}
use Rattle.spans.proofs.silent_places.SilentPlaces.of.Goals as goal

pub returns-clause-known : goal.returns-clause-known
returns-clause-known c = nothing_known c.args.sums.now.low c.args.sums.now.high _ refl
