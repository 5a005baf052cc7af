use Rattle.std.proofs.Common.{◌∙◌, ap}
use Rattle.definitions.specs.Games.{excess}
use Rattle.checker.proofs.Excesses.{excess-singleton}
use Rattle.kohlberg.proofs.Kept.{kept}
use Rattle.checker.proofs.conditions.excess_alone.Goals as goal
use Rattle.definitions.proofs.Masks.{singleton-within}

pub scaled_excess-requires-clause-within : goal.scaled_excess-requires-clause-within
scaled_excess-requires-clause-within g c = rw c.single.ensures (singleton-within _ c.args.i c.requires.player)

pub returns : goal.returns
returns g c =
    let game = g.W.Worth.game c.args.game.now in
    let x = c.args.shares.now in
    kept c.scaled_excess.result c.scaled_excess.type_inv ∙ c.scaled_excess.ensures
    ∙ ap (excess game x) c.single.ensures ∙ excess-singleton game x c.args.i c.requires.shares c.requires.player
