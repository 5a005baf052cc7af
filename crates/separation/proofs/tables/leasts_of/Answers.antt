use Rattle.std.proofs.Common.{◌≡◌, ◌<◌, length, length-set, ◌∙◌, to_z, of_z, rules}
use mir.Syntax.{w64}
use Rattle.spans.proofs.EightSums.{filled_below}
use Rattle.separation.specs.BlockBounds.{IsLeast}
use Rattle.separation.proofs.tables.leasts_of.Goals as goal

pub loop-quarter-preserved : goal.loop-quarter-preserved
loop-quarter-preserved c =
    let leasts = c.loop-quarter.leasts in
    let quarter = c.loop-quarter.quarter in
    let inv = c.loop-quarter.invariant in
    let len : quarter < length leasts = rw inv.len c.loop-quarter-test.true in
    let kept : to_z w64 (of_z w64 c.least_of.result) ≡ c.least_of.result = search rules in
    rw kept (record {
      len = length-set leasts quarter c.least_of.result ∙ inv.len;
      done = filled_below (IsLeast c.args.low.now) leasts quarter c.least_of.result len c.least_of.ensures inv.done;
    })
