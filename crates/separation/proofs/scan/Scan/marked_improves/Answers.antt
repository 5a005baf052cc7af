use Rattle.std.proofs.Common.{◌≡◌, ◌↔◌, ◌<◌, ◌^◌, true, IsTrue, Some}
use Rattle.std.proofs.Common.{unsigned_abs, to_z, of_z, sym, ◌∙◌, arith, rules}
use mir.Syntax.{w64, w128}
use Rattle.definitions.proofs.Casts.{cast_kept}
use Rattle.separation.specs.Making.{plain}
use Rattle.separation.specs.Fronts.{front_level, has_mark}
use Rattle.separation.specs.Scanned.{ImprovesIn}
use Rattle.separation.proofs.scan.Scan.marked_improves.Goals as goal

pub returns-then-has_mark : goal.returns-then-has_mark
returns-then-has_mark g c =
    let scan = c.args.self.now in
    let p = scan.program.now in
    let m = scan.m.now in
    let column = plain (g.W.Worth.game p.game.now) c.args.s (front_level p.front) in
    let r = c.is_below.result in
    let value : to_z w128 (of_z w128 c.args.value) ≡ c.args.value = search rules in
    let small : unsigned_abs c.worth-worth.result < 2 ^ 46 = c.worth-worth.ensures.small in
    let cost : to_z w64 (of_z w64 c.worth-worth.result) ≡ c.worth-worth.result =
    cast_kept w64 c.worth-worth.result (omega (arith, small)) in
    let below =
    rw c.worth-worth.ensures.value at (rw value at (rw cost at c.is_below.ensures)) in
    let improves : IsTrue r ↔ ImprovesIn scan (Some column) = rw c.requires.value at below in
    let e : has_mark p.marks c.args.s ≡ true = sym c.has_mark.ensures ∙ c.if-has_mark.true in
    rw e improves
