use Rattle.std.proofs.Common.{◌*ℤ◌, arith}
use Rattle.definitions.proofs.Ring.{linear, mul-leℤ}
use Rattle.separation.specs.Scanned.{worth_in}
use Rattle.separation.proofs.Products.{height_held, less_a_number}
use Rattle.separation.proofs.block_bounds.height_bound.Goals as goal

pub overflow_mul-result : goal.overflow_mul-result
overflow_mul-result g c =
    (height_held c.args.scan.now.m.now.den c.counted_bound-most.result c.args.least c.requires.den
    c.counted_bound-most.ensures.small c.requires.least).0

pub overflow_sub-result : goal.overflow_sub-result
overflow_sub-result g c =
    (height_held c.args.scan.now.m.now.den c.counted_bound-most.result c.args.least c.requires.den
    c.counted_bound-most.ensures.small c.requires.least).1.0

pub returns : goal.returns
returns g c = λ s lower upper within.
    let scan = c.args.scan.now in
    let m = scan.m.now in
    let most = c.counted_bound-most.result in
    let some = m.den_positive in
    let worth = worth_in scan s in
    let product =
    mul-leℤ m.den worth most (omega (arith, linear, some)) (c.counted_bound-most.ensures.greatest s lower upper within)
    in
    rw (height_held m.den most c.args.least c.requires.den c.counted_bound-most.ensures.small c.requires.least).1.1
    (less_a_number (m.den *ℤ worth) (m.den *ℤ most) c.args.least product)
