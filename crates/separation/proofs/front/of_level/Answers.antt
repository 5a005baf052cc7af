use Rattle.separation.proofs.EarlierColumns.{even_at, odd_at}
use Rattle.separation.proofs.front.of_level.Goals as goal

pub returns-then-place-eq0 : goal.returns-then-place-eq0
returns-then-place-eq0 g c =
    let game = g.W.Worth.game c.args.game.now in
    let one =
    even_at game c.args.k c.args.pairs.now c.args.place c.index-pairs-place.result c.requires.place
    c.index-pairs-place.is
    c.if-place-eq0.true in
    cc (c.plain.ensures, c.index-pairs-place.is)

pub returns-else-place-eq0 : goal.returns-else-place-eq0
returns-else-place-eq0 g c =
    let game = g.W.Worth.game c.args.game.now in
    let one =
    odd_at game c.args.k c.args.pairs.now c.args.place c.index-pairs-place.result c.requires.place
    c.index-pairs-place.is
    c.if-place-eq0.false in
    cc (c.minus.ensures, c.index-pairs-place.is)
