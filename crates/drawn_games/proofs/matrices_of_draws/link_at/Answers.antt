use Rattle.std.proofs.Common.{arith}
use Rattle.drawn_games.proofs.Numbered.{link-inside}
use Rattle.drawn_games.proofs.matrices_of_draws.link_at.Goals as goal

pub bounds-draws-links_before : goal.bounds-draws-links_before
bounds-draws-links_before c =
    let inside = link-inside c.args.n c.args.i c.args.j c.if-i-j.true c.requires.column in
    let is = c.links_before.ensures.value in
    let enough = c.requires.enough in
    omega (arith, inside, is, enough)

pub bounds-draws-links_before-then-j-i : goal.bounds-draws-links_before-then-j-i
bounds-draws-links_before-then-j-i c =
    let inside = link-inside c.args.n c.args.j c.args.i c.if-j-i.true c.requires.row in
    let is = c.links_before-then-j-i.ensures.value in
    let enough = c.requires.enough in
    omega (arith, inside, is, enough)
