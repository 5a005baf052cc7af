use Rattle.separation.proofs.InFront.{pair_first, pair_passed, pairs_passed}
use Rattle.separation.proofs.front.first_of_level.Goals as goal

pub returns-in-Some : goal.returns-in-Some
returns-in-Some g c =
    pair_first c.args.scan.now c.args.k c.args.pairs.now c.loop-j.j c.in-Some.place c.index-pairs-j.result
    c.loop-j-test.true c.loop-j.invariant c.in-Some.ensures

pub loop-j-preserved : goal.loop-j-preserved
loop-j-preserved g c =
    pair_passed c.args.scan.now c.args.k c.args.pairs.now c.loop-j.j c.index-pairs-j.result c.loop-j-test.true
    c.loop-j.invariant c.in_default.ensures

pub returns : goal.returns
returns g c =
    pairs_passed c.args.scan.now c.args.k c.args.pairs.now c.loop-j.j c.loop-j-test.false c.loop-j.invariant
