use Rattle.std.proofs.Common.{◌≡◌, ℕ, List, [], ◌∷◌, ◌++◌, sym}
use Rattle.std.proofs.Common.{ap, subst, ◌∙◌, arith}
use Rattle.definitions.specs.Coalitions.{grand_coalition}
use Rattle.definitions.specs.Certificates.{Level}
use Rattle.spans.specs.Span.{SpanData}
use Rattle.nested_programs.specs.Stage.{stage_of}
use Rattle.nested_programs.specs.Numbers.{IsLevelOf}
use Rattle.nested_programs.specs.Stages.{IsBest, IsLeft, IsBounded}
use Rattle.nested_programs.proofs.StageSteps.{next_formed, underway_more, kept_grown}
use Rattle.nested_programs.proofs.StageLoop.{underway_at_start, left_of, room_of, all_fixed_at_end, forms_few}
use Rattle.nested_programs.proofs.StageLoop.{new_only, best_at, level_at, extends_at, within_at, done_where_fixed}
use Rattle.nested_programs.proofs.stages.all_stages.Goals as goal
use Rattle.kohlberg.proofs.SpanScan.{level_within}

pub loop-last-init : goal.loop-last-init
loop-last-init g c =
    let game = g.W.Worth.game c.args.game.now in
    let n = c.players-n.ensures.count in
    let kept = ap (λ (v : SpanData). v.kept) c.new-span.ensures ∙ ap (λ (k : ℕ). grand_coalition k ∷ []) n in (
      n,
      ap (λ (v : SpanData). v.players) c.new-span.ensures,
      underway_at_start (stage_of c.args.family c.args.measure game c.new-levels.result.items) c.new-span.result.kept
          c.new-levels.ensures.items kept c.players-n.ensures.laws.some c.requires.few c.requires.member,
    )

pub best_of-requires-clause-left : goal.best_of-requires-clause-left
best_of-requires-clause-left g c =
    let game = g.W.Worth.game c.args.game.now in
    let n = c.loop-last.invariant.0 in
    let levels = c.loop-last.levels.items in
    let least =
    c.first_unspanned.ensures.least levels (rw n c.loop-last.invariant.2.spans) in
    subst (λ (k : ℕ). IsLeft k c.deref.result.now) n (rw c.deref.ensures.value
    (left_of c.players-n.result levels c.first_unspanned.result c.is_some.result c.is_some.ensures
    c.loop-last-test.true least))

pub best_of-requires-clause-bounded : goal.best_of-requires-clause-bounded
best_of-requires-clause-bounded g c =
    let game = g.W.Worth.game c.args.game.now in
    subst (λ (ls : List Level). IsBounded (stage_of c.args.family c.args.measure game ls)) (sym c.deref.ensures.value)
    c.loop-last.invariant.2.bounded

pub level_of-requires-clause-small : goal.level_of-requires-clause-small
level_of-requires-clause-small g c =
    let game = g.W.Worth.game c.args.game.now in
    rw c.deref-in-loop-last.ensures.value
    (forms_few game.players [] c.loop-last.levels.items c.loop-last.invariant.2.form)

pub add_levels-requires-clause-within : goal.add_levels-requires-clause-within
add_levels-requires-clause-within g c =
    let game = g.W.Worth.game c.args.game.now in
    let n = c.loop-last.invariant.0 in
    let under = c.loop-last.invariant.2 in
    let levels = c.loop-last.levels.items in
    let q = stage_of c.args.family c.args.measure game levels in
    let kept = c.loop-last.span.kept in
    let b = c.in_ok-best.best in
    let l = c.in_ok-level_of.field-0 in
    let room =
    room_of c.players-n.result kept c.first_unspanned.result c.is_some.result c.is_some.ensures
    c.loop-last-test.true c.first_unspanned.ensures.room in
    let best : IsBest q b = best_at q _ b c.deref.ensures.value (c.in_ok-best.ensures {u = tt}) in
    let is : IsLevelOf game.players levels b l =
    level_at c.players-n.result game.players _ levels b l n c.deref-in-loop-last.ensures.value
    c.in_ok-level_of.ensures.level in
    let pushed : c.push.new.self.items ≡ levels ++ l ∷ [] = (c.in_ok-push.ensures {u = tt}).items in
    let slice =
    new_only levels c.deref-in-loop-last-2.result.now l c.len-k.result
    (c.deref-in-loop-last-2.ensures.value ∙ pushed) (c.len-k.ensures ∙ c.loop-last.levels.ok.0) in
    let form = next_formed q kept c.loop-last.last b l c.requires.few (rw n at room) under best is in
    within_at c.loop-last.span.players game.players _ l (c.loop-last.invariant.1 ∙ n) slice
    (level_within game.players levels l form)

pub loop-last-smaller : goal.loop-last-smaller
loop-last-smaller g c =
    let game = g.W.Worth.game c.args.game.now in
    let n = c.loop-last.invariant.0 in
    let under = c.loop-last.invariant.2 in
    let levels = c.loop-last.levels.items in
    let q = stage_of c.args.family c.args.measure game levels in
    let kept = c.loop-last.span.kept in
    let b = c.in_ok-best.best in
    let l = c.in_ok-level_of.field-0 in
    let room =
    room_of c.players-n.result kept c.first_unspanned.result c.is_some.result c.is_some.ensures
    c.loop-last-test.true c.first_unspanned.ensures.room in
    let best : IsBest q b = best_at q _ b c.deref.ensures.value (c.in_ok-best.ensures {u = tt}) in
    let is : IsLevelOf game.players levels b l =
    level_at c.players-n.result game.players _ levels b l n c.deref-in-loop-last.ensures.value
    c.in_ok-level_of.ensures.level in
    let pushed : c.push.new.self.items ≡ levels ++ l ∷ [] = (c.in_ok-push.ensures {u = tt}).items in
    let slice =
    new_only levels c.deref-in-loop-last-2.result.now l c.len-k.result
    (c.deref-in-loop-last-2.ensures.value ∙ pushed) (c.len-k.ensures ∙ c.loop-last.levels.ok.0) in
    let extends =
    extends_at c.loop-last.span.players game.players kept c.add_levels.new.span.kept _ (l ∷ [])
    (c.loop-last.invariant.1 ∙ n) slice c.add_levels.ensures.extends in
    let grow = kept_grown q kept c.add_levels.new.span.kept b l best is under.spans extends in
    omega arith

pub loop-last-preserved : goal.loop-last-preserved
loop-last-preserved g c =
    let game = g.W.Worth.game c.args.game.now in
    let n = c.loop-last.invariant.0 in
    let under = c.loop-last.invariant.2 in
    let levels = c.loop-last.levels.items in
    let q = stage_of c.args.family c.args.measure game levels in
    let kept = c.loop-last.span.kept in
    let b = c.in_ok-best.best in
    let l = c.in_ok-level_of.field-0 in
    let room =
    room_of c.players-n.result kept c.first_unspanned.result c.is_some.result c.is_some.ensures
    c.loop-last-test.true c.first_unspanned.ensures.room in
    let best : IsBest q b = best_at q _ b c.deref.ensures.value (c.in_ok-best.ensures {u = tt}) in
    let is : IsLevelOf game.players levels b l =
    level_at c.players-n.result game.players _ levels b l n c.deref-in-loop-last.ensures.value
    c.in_ok-level_of.ensures.level in
    let pushed : c.push.new.self.items ≡ levels ++ l ∷ [] = (c.in_ok-push.ensures {u = tt}).items in
    let slice =
    new_only levels c.deref-in-loop-last-2.result.now l c.len-k.result
    (c.deref-in-loop-last-2.ensures.value ∙ pushed) (c.len-k.ensures ∙ c.loop-last.levels.ok.0) in
    let extends =
    extends_at c.loop-last.span.players game.players kept c.add_levels.new.span.kept _ (l ∷ [])
    (c.loop-last.invariant.1 ∙ n) slice c.add_levels.ensures.extends in
    let more =
    underway_more q kept c.add_levels.new.span.kept c.loop-last.last b l c.requires.few (rw n at room) under best is
    c.in_ok-level_of.ensures.lowest extends in (
      n,
      c.add_levels.ensures.players ∙ c.loop-last.invariant.1,
      rw pushed more,
    )

pub returns : goal.returns
returns g c =
    let game = g.W.Worth.game c.args.game.now in
    let n = c.loop-last.invariant.0 in
    let levels = c.loop-last.levels.items in
    let least =
    c.first_unspanned.ensures.least levels (rw n c.loop-last.invariant.2.spans) in
    done_where_fixed (stage_of c.args.family c.args.measure game levels) c.loop-last.span.kept c.loop-last.last
    c.loop-last.invariant.2 (rw n at
    (all_fixed_at_end c.players-n.result levels c.first_unspanned.result c.is_some.result c.is_some.ensures
    c.loop-last-test.false least))
