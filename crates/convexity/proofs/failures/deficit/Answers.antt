use Rattle.std.proofs.Common.{◌≡◌, ◌-ℤ◌, arith, ◌∙◌}
use Rattle.std.proofs.lemmas.Int.{ints}
use mir.Syntax.{w64}
use Rattle.definitions.proofs.Casts.{cast_kept}
use Rattle.definitions.proofs.Ring.{linear}
use Rattle.definitions.specs.Convexity.{apart, together}
use Rattle.convexity.proofs.Search.{with_one, with_two}
use Rattle.convexity.proofs.failures.deficit.Goals as goal

pub worths_of-requires-clause-first : goal.worths_of-requires-clause-first
worths_of-requires-clause-first g c =
    let out = c.requires.outside in
    (with_one (g.W.Worth.game c.args.game.now).players c.args.s c.args.i c.with-with_i.result out.0 out.1 out.4
    c.with-with_i.ensures).1

pub worths_of-requires-clause-second : goal.worths_of-requires-clause-second
worths_of-requires-clause-second g c =
    let out = c.requires.outside in
    (with_one (g.W.Worth.game c.args.game.now).players c.args.s c.args.j c.with.result out.0 out.2 out.5
    c.with.ensures).1

pub worths_of-requires-2-clause-first : goal.worths_of-requires-2-clause-first
worths_of-requires-2-clause-first g c =
    (with_two (g.W.Worth.game c.args.game.now).players c.args.s c.args.i c.args.j c.with-with_i.result
    c.with-2.result c.requires.outside c.with-with_i.ensures c.with-2.ensures).1

pub returns-clause-value : goal.returns-clause-value
returns-clause-value g c =
    let game = g.W.Worth.game c.args.game.now in
    let out = c.requires.outside in
    let r = c.worths_of.result in
    let t = c.worths_of-2.result in
    let a = cast_kept w64 r (omega (arith, c.worths_of.ensures.small)) in
    let b = cast_kept w64 t (omega (arith, c.worths_of-2.ensures.small)) in
    let d = cast_kept w64 (r -ℤ t) (omega (arith, ints, c.worths_of.ensures.small, c.worths_of-2.ensures.small)) in
    let i = with_one game.players c.args.s c.args.i c.with-with_i.result out.0 out.1 out.4 c.with-with_i.ensures in
    let j = with_one game.players c.args.s c.args.j c.with.result out.0 out.2 out.5 c.with.ensures in
    let both =
    with_two game.players c.args.s c.args.i c.args.j c.with-with_i.result c.with-2.result out
    c.with-with_i.ensures c.with-2.ensures in
    let p : r ≡ apart game c.args.s c.args.i c.args.j = rw (i.0, j.0) at c.worths_of.ensures.value in
    let q : t ≡ together game c.args.s c.args.i c.args.j = rw both.0 at c.worths_of-2.ensures.value in
    rw (a, b) (d ∙ omega (arith, linear, p, q))
