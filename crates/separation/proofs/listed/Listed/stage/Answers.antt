use Rattle.std.proofs.Common.{[], ◌∙◌}
use Rattle.separation.proofs.Staged.{levels_within, stage_of, stage_small}
use Rattle.separation.proofs.ProperColumns.{listed_short}
use Rattle.separation.proofs.listed.Listed.stage.Goals as goal

pub stage_columns-requires-clause-within : goal.stage_columns-requires-clause-within
stage_columns-requires-clause-within g c =
    levels_within (g.W.Worth.game c.args.game.now).players [] c.args.levels.now c.requires.form.each

pub of-requires-clause-small : goal.of-requires-clause-small
of-requires-clause-small g c =
    let game = g.W.Worth.game c.args.game.now in
    let levels = c.args.levels.now in
    let made = c.in-Ok.ensures {u = tt} in
    rw made.longer_is (stage_small c.args.family c.args.measure game levels c.players-players.ensures.laws
    (levels_within game.players [] levels c.requires.form.each) made.outers made.are)

pub of-requires-clause-short : goal.of-requires-clause-short
of-requires-clause-short g c =
    let game = g.W.Worth.game c.args.game.now in
    let levels = c.args.levels.now in
    let made = c.in-Ok.ensures {u = tt} in
    rw (made.longer_is, c.players-players.ensures.count)
    (listed_short c.args.family c.args.measure game levels made.outers c.requires.heads c.requires.count
    c.requires.form.each made.are)

pub returns-in-Ok : goal.returns-in-Ok
returns-in-Ok g c =
    let game = g.W.Worth.game c.args.game.now in
    let levels = c.args.levels.now in
    let made = c.in-Ok.ensures {u = tt} in
    let of = c.of.ensures in
    let players = of.players ∙ c.players-players.ensures.count in (
      players,
      rw (of.measure, players, of.levels, of.columns, made.longer_is)
          (stage_of c.args.family c.args.measure game levels c.players-players.ensures.laws
          (levels_within game.players [] levels c.requires.form.each) made.outers made.are),
    )
