use Rattle.std.proofs.Common.{◌≡◌, ◌+◌, ◌-◌, ◌*◌, ◌<◌, ◌≤◌, ℕ, length, drop, get_or}
use Rattle.std.proofs.Common.{ap, sym, subst, ◌∙◌, arith}
use Rattle.definitions.proofs.Alls.{all_at}
use Rattle.definitions.specs.Certificates.{Level}
use Rattle.separation.specs.Stage.{earlier_of}
use Rattle.separation.specs.Kept.{column_at}
use Rattle.separation.specs.Making.{earlier_columns}
use Rattle.separation.specs.Fronts.{IsSmallLevel}
use Rattle.separation.proofs.EarlierColumns.{level_here, level_past, none_left}
use Rattle.separation.proofs.front.earlier.Goals as goal

pub returns-then-rest-twice : goal.returns-then-rest-twice
returns-then-rest-twice g c =
    let game = g.W.Worth.game c.args.game.now in
    let levels = c.args.levels.now in
    let k = c.loop-k.k in
    let l = c.index-levels-k.result in
    let lt : k < length levels = omega (arith, c.loop-k-test.true) in
    let here : c.len.result ≡ length (get_or levels k l).coalitions =
    c.len.ensures ∙ c.level.inside.coalitions.ok.0
    ∙ ap (λ (v : Level). length v.coalitions) (c.level.view_is ∙ c.index-levels-k.is) in
    let less : c.loop-k.rest < 2 * length (get_or levels k l).coalitions = omega arith in
    let pairs : c.deref.result.now ≡ (get_or levels k l).coalitions =
    c.deref.ensures.value ∙ ap (λ (v : Level). v.coalitions) (c.level.view_is ∙ c.index-levels-k.is) in
    cc (c.of_level.ensures, level_here game levels k l lt c.loop-k.rest less, c.loop-k.invariant)

pub loop-k-preserved : goal.loop-k-preserved
loop-k-preserved g c =
    let game = g.W.Worth.game c.args.game.now in
    let levels = c.args.levels.now in
    let k = c.loop-k.k in
    let l = c.index-levels-k.result in
    let lt : k < length levels = omega (arith, c.loop-k-test.true) in
    let here : c.len.result ≡ length (get_or levels k l).coalitions =
    c.len.ensures ∙ c.level.inside.coalitions.ok.0
    ∙ ap (λ (v : Level). length v.coalitions) (c.level.view_is ∙ c.index-levels-k.is) in
    let past : 2 * length (get_or levels k l).coalitions ≤ c.loop-k.rest = omega arith in
    c.loop-k.invariant
    ∙ level_past game levels k l lt c.loop-k.rest past
    ∙ ap
    (λ (t : ℕ). column_at (earlier_columns game (earlier_of (k + 1) (drop (k + 1) levels)))
    (c.loop-k.rest - 2 * t)) (sym here)

pub overflow_mul-twice : goal.overflow_mul-twice
overflow_mul-twice g c =
    let l = c.index-levels-k.result in
    let n = (g.W.Worth.game c.args.game.now).players in
    let small =
    subst (IsSmallLevel n) (sym c.index-levels-k.is)
    (all_at (IsSmallLevel n) c.args.levels.now c.loop-k.k l c.loop-k-test.true c.requires.within) in
    let here : c.len.result ≡ length l.coalitions =
    cc (c.len.ensures, c.level.inside.coalitions.ok.0, c.level.view_is) in
    omega arith

pub of_level-requires-clause-within : goal.of_level-requires-clause-within
of_level-requires-clause-within g c =
    let l = c.index-levels-k.result in
    let n = (g.W.Worth.game c.args.game.now).players in
    let small =
    subst (IsSmallLevel n) (sym c.index-levels-k.is)
    (all_at (IsSmallLevel n) c.args.levels.now c.loop-k.k l c.loop-k-test.true c.requires.within) in
    let pairs : c.deref.result.now ≡ l.coalitions = cc (c.deref.ensures.value, c.level.view_is) in
    rw pairs small.1

pub of_level-requires-clause-place : goal.of_level-requires-clause-place
of_level-requires-clause-place g c =
    let l = c.index-levels-k.result in
    let here : c.len.result ≡ length l.coalitions =
    c.len.ensures ∙ c.level.inside.coalitions.ok.0 ∙ ap (λ (v : Level). length v.coalitions) c.level.view_is in
    let pairs : c.deref.result.now ≡ l.coalitions = cc (c.deref.ensures.value, c.level.view_is) in
    let less : c.loop-k.rest < 2 * length l.coalitions = omega arith in
    rw pairs less

pub returns : goal.returns
returns g c =
    let game = g.W.Worth.game c.args.game.now in
    none_left game c.loop-k.k c.loop-k.rest c.args.levels.now (omega (arith, c.loop-k-test.false))
    ∙ sym c.loop-k.invariant
