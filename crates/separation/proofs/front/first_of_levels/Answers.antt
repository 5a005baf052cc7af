use Rattle.std.proofs.Common.{◌≡◌, ℕ, ℤ, List, length}
use Rattle.std.proofs.Common.{get_or, ap, sym, subst, ◌∙◌, arith}
use Rattle.definitions.proofs.Alls.{all_at}
use Rattle.definitions.specs.Certificates.{Level}
use Rattle.separation.specs.Fronts.{IsSmallLevel}
use Rattle.separation.proofs.Counts.{level_length}
use Rattle.separation.proofs.InFront.{level_first, level_passed}
use Rattle.separation.proofs.front.first_of_levels.Goals as goal

pub overflow_add-result : goal.overflow_add-result
overflow_add-result g c =
    let scan = c.args.scan.now in
    let p = scan.program.now in
    let game = g.W.Worth.game p.game.now in
    let l = c.index-levels-k.result in
    let small =
    subst (IsSmallLevel p.players) (sym c.index-levels-k.is)
    (all_at (IsSmallLevel p.players) c.args.levels.now c.loop-k.k l c.loop-k-test.true c.requires.within) in
    let pairs : c.deref.result.now ≡ l.coalitions = cc (c.deref.ensures.value, c.level.view_is) in
    let count : length c.deref.result.now ≡ length l.coalitions = ap (λ (ps : List (ℕ × ℤ)). length ps) pairs in
    let columns = level_length game c.loop-k.k c.deref.result.now in
    let place = c.in-Some.ensures.place in
    omega arith

pub returns-in-Some : goal.returns-in-Some
returns-in-Some g c =
    let levels = c.args.levels.now in
    let k = c.loop-k.k in
    let l = c.index-levels-k.result in
    let pairs : c.deref.result.now ≡ (get_or levels k l).coalitions =
    c.deref.ensures.value ∙ ap (λ (v : Level). v.coalitions) (c.level.view_is ∙ c.index-levels-k.is) in
    level_first c.args.scan.now levels k c.in-Some.place c.loop-k.passed l c.loop-k-test.true
    c.loop-k.invariant.rest (rw pairs at c.in-Some.ensures)

pub loop-k-preserved : goal.loop-k-preserved
loop-k-preserved g c =
    let scan = c.args.scan.now in
    let p = scan.program.now in
    let levels = c.args.levels.now in
    let k = c.loop-k.k in
    let l = c.index-levels-k.result in
    let small = all_at (IsSmallLevel p.players) levels k l c.loop-k-test.true c.requires.within in
    let pairs : c.deref.result.now ≡ (get_or levels k l).coalitions =
    c.deref.ensures.value ∙ ap (λ (v : Level). v.coalitions) (c.level.view_is ∙ c.index-levels-k.is) in
    let here : c.len.result ≡ length (get_or levels k l).coalitions =
    c.len.ensures ∙ c.level.inside.coalitions.ok.0
    ∙ ap (λ (v : Level). length v.coalitions) (c.level.view_is ∙ c.index-levels-k.is) in
    record {
      few = omega arith;
      rest = rw here
          (level_passed scan levels k c.loop-k.passed l c.loop-k-test.true c.loop-k.invariant.rest
          (rw pairs at c.in_default.ensures));
    }
