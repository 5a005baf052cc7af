use Rattle.std.proofs.Common.{◌%◌, ◌≤◌, ◌^◌, ℤ, pos, ◌-ℤ◌, ◌*ℤ◌, ℕ, unsigned_abs, slice_index_or}
use Rattle.std.proofs.Common.{ap, sym, subst, ◌∙◌}
use Rattle.separation.specs.Scanned.{worth_in}
use Rattle.separation.proofs.Products.{height_held}
use Rattle.separation.proofs.block_bounds.height_of.Goals as goal

pub overflow_mul-result : goal.overflow_mul-result
overflow_mul-result g c =
    (height_held c.args.scan.now.m.now.den c.worth-worth.result
    (slice_index_or c.args.low.now (c.args.s % 256) (pos 0)) c.requires.den c.worth-worth.ensures.small
    c.requires.low).0

pub overflow_sub-result : goal.overflow_sub-result
overflow_sub-result g c =
    let low = c.args.low.now in
    let few =
    subst (λ (t : ℕ). unsigned_abs (slice_index_or low (t % 256) (pos 0)) ≤ 2 ^ 60) (sym c.s.view_is)
    c.requires.low in
    (height_held c.args.scan.now.m.now.den c.worth-worth.result
    (slice_index_or low (c.s.inside.0 % 256) (pos 0)) c.requires.den c.worth-worth.ensures.small few).1.0

pub returns : goal.returns
returns g c =
    let scan = c.args.scan.now in
    let m = scan.m.now in
    let low = c.args.low.now in
    let few =
    subst (λ (t : ℕ). unsigned_abs (slice_index_or low (t % 256) (pos 0)) ≤ 2 ^ 60) (sym c.s.view_is)
    c.requires.low in
    (height_held m.den c.worth-worth.result (slice_index_or low (c.s.inside.0 % 256) (pos 0)) c.requires.den
    c.worth-worth.ensures.small few).1.1
    ∙ ap (λ (z : ℤ). m.den *ℤ z -ℤ slice_index_or low (c.s.inside.0 % 256) (pos 0))
    c.worth-worth.ensures.is
    ∙ ap (λ (t : ℕ). m.den *ℤ worth_in scan c.args.s -ℤ slice_index_or low (t % 256) (pos 0)) c.s.view_is
