use Rattle.std.proofs.Common.{◌<◌, ◌^◌, ℕ, List, ℤ, sym, subst, rules, ◌∙◌}
use Rattle.std.specs.List.{AllByRecursion}
use Rattle.std.proofs.lemmas.Bool.{false≢true}
use Rattle.definitions.specs.Certificates.{HasExcess}
use Rattle.definitions.specs.Failures.{IsFirstFailing}
use Rattle.definitions.proofs.Alls.{all_at}
use Rattle.checker.proofs.Firsts.{leads_start, leads_more, leads_failing, leads_end}
use Rattle.checker.proofs.conditions.first_wrong_excess.Goals as goal

pub has_excess-requires-clause-some : goal.has_excess-requires-clause-some
has_excess-requires-clause-some g c =
    let Proper = λ (p : ℕ × ℤ). (0 < p.0) × (p.0 < 2 ^ (g.W.Worth.game c.args.game.now).players) in
    let proper = subst (AllByRecursion Proper) (sym c.loop-s.invariant.0) c.requires.proper in
    subst (λ (p : ℕ × ℤ). 0 < p.0) (sym c.loop-s-item.is)
    (all_at Proper c.deref-s-items.result.now c.loop-s.s-index c.loop-s-item.result c.loop-s-test.true proper).0

pub has_excess-requires-clause-within : goal.has_excess-requires-clause-within
has_excess-requires-clause-within g c =
    let n = (g.W.Worth.game c.args.game.now).players in
    let Proper = λ (p : ℕ × ℤ). (0 < p.0) × (p.0 < 2 ^ n) in
    let proper = subst (AllByRecursion Proper) (sym c.loop-s.invariant.0) c.requires.proper in
    subst (λ (p : ℕ × ℤ). p.0 < 2 ^ n) (sym c.loop-s-item.is)
    (all_at Proper c.deref-s-items.result.now c.loop-s.s-index c.loop-s-item.result c.loop-s-test.true proper).1

pub loop-s-init : goal.loop-s-init
loop-s-init g c =
    let P = λ (p : ℕ × ℤ). HasExcess c.args.measure (g.W.Worth.game c.args.game.now) c.args.shares.now
    c.args.level.now p.0 in
    (search rules, leads_start P c.deref-s-items.result.now)

pub returns-then-not-has_excess : goal.returns-then-not-has_excess
returns-then-not-has_excess g c =
    let P = λ (p : ℕ × ℤ). HasExcess c.args.measure (g.W.Worth.game c.args.game.now) c.args.shares.now
    c.args.level.now p.0 in
    let failing =
    leads_failing P c.deref-s-items.result.now c.loop-s.s-index c.loop-s-item.result c.loop-s-test.true
    c.loop-s-item.is c.loop-s.invariant.1
    (λ p. absurd (false≢true (sym c.if-not-has_excess.true ∙ c.has_excess.ensures.1 p))) in
    subst (λ (ps : List (ℕ × ℤ)). IsFirstFailing P ps c.loop-s-item.result.0) c.loop-s.invariant.0 failing

pub loop-s-preserved : goal.loop-s-preserved
loop-s-preserved g c =
    let P = λ (p : ℕ × ℤ). HasExcess c.args.measure (g.W.Worth.game c.args.game.now) c.args.shares.now
    c.args.level.now p.0 in (
      c.loop-s.invariant.0,
      leads_more P c.deref-s-items.result.now c.loop-s.s-index c.loop-s-item.result c.loop-s-test.true
          c.loop-s-item.is c.loop-s.invariant.1 (c.has_excess.ensures.0 c.if-not-has_excess.false),
    )

pub returns : goal.returns
returns g c =
    let P = λ (p : ℕ × ℤ). HasExcess c.args.measure (g.W.Worth.game c.args.game.now) c.args.shares.now
    c.args.level.now p.0 in
    subst (AllByRecursion P) c.loop-s.invariant.0
    (leads_end P c.deref-s-items.result.now c.loop-s.s-index c.loop-s.invariant.1 c.loop-s-test.false)
