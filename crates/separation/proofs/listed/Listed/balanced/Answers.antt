use Rattle.std.proofs.Common.{◌∙◌}
use Rattle.separation.proofs.Balance.{balanced_of, balanced_small}
use Rattle.separation.proofs.ProperColumns.{plain_short}
use Rattle.separation.proofs.listed.Listed.balanced.Goals as goal

pub of-requires-clause-small : goal.of-requires-clause-small
of-requires-clause-small g c =
    let made = c.in-Ok.ensures {u = tt} in
    rw made (balanced_small (g.W.Worth.game c.args.game.now) c.players-players.ensures.laws)

pub of-requires-clause-short : goal.of-requires-clause-short
of-requires-clause-short g c = plain_short c.players-players.result 0 c.in-Ok.columns.items

pub returns-in-Ok : goal.returns-in-Ok
returns-in-Ok g c =
    let made = c.in-Ok.ensures {u = tt} in
    let of = c.of.ensures in
    let players = of.players ∙ c.players-players.ensures.count in (
      players,
      rw (of.measure, players, of.levels, of.columns, made)
          (balanced_of (g.W.Worth.game c.args.game.now) c.players-players.ensures.laws),
    )
