use Rattle.std.proofs.Common.{◌≡◌, to_z, of_z, rules}
use mir.Syntax.{w64}
use Rattle.separation.specs.Scanned.{worth_in}
use Rattle.separation.proofs.Products.{gap_held}
use Rattle.separation.proofs.pricing.gap.Goals as goal

pub overflow_sub-result : goal.overflow_sub-result
overflow_sub-result g c =
    let scan = c.args.scan.now in
    let den = scan.m.now.den in
    let worth = c.worth-worth in
    let kept : to_z w64 (of_z w64 worth.result) ≡ worth.result = search rules in
    (gap_held den (worth_in scan c.args.s) c.bar.result c.args.value scan.m.now.den_small
    (rw worth.ensures.is at worth.ensures.small) (cc (c.bar.ensures, worth.ensures.value)) c.requires.small).0

pub returns : goal.returns
returns g c =
    let scan = c.args.scan.now in
    let den = scan.m.now.den in
    let worth = c.worth-worth in
    let kept : to_z w64 (of_z w64 worth.result) ≡ worth.result = search rules in
    (gap_held den (worth_in scan c.args.s) c.bar.result c.args.value scan.m.now.den_small
    (rw worth.ensures.is at worth.ensures.small) (cc (c.bar.ensures, worth.ensures.value)) c.requires.small).1
