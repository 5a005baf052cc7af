use Rattle.std.proofs.Common.{◌∙◌, ◌^◌, ◌<◌, ℕ, ℤ, List, refl, sym, ap, subst}
use Rattle.std.proofs.Common.{get_or, arith}
use Rattle.std.specs.List.{AllByRecursion}
use Rattle.definitions.specs.Certificates.{Level}
use Rattle.kohlberg.specs.Extends.{Extends, IsOf, IsPaired, IsBoundVector}
use Rattle.kohlberg.proofs.SpanScan.{levels_start, levels_more, levels_end, same_players}
use Rattle.kohlberg.proofs.spanned.add_levels.Goals as goal
use Rattle.definitions.proofs.Alls.{all_at}

pub add_coalitions-requires : goal.add_coalitions-requires
add_coalitions-requires c =
    let l = c.level-item.result in
    let of =
    subst (λ (v : Level). IsOf c.args.span.now.players v) (sym c.level-item.is)
    (all_at (IsOf c.args.span.now.players) c.args.levels.now c.loop-level.level-index l c.loop-level-test.true
    c.requires.within) in
    rw (c.loop-level.invariant.0, c.deref.ensures.value)
    (subst (λ (v : Level). AllByRecursion (λ p. p.0 < 2 ^ c.args.span.now.players) v.coalitions)
    (sym c.level.view_is) of.coalitions)

pub add_bounds-requires-clause-players : goal.add_bounds-requires-clause-players
add_bounds-requires-clause-players c =
    let l = c.level-item.result in
    let of =
    subst (λ (v : Level). IsOf c.args.span.now.players v) (sym c.level-item.is)
    (all_at (IsOf c.args.span.now.players) c.args.levels.now c.loop-level.level-index l c.loop-level-test.true
    c.requires.within) in
    rw (c.add_coalitions.ensures.players, c.loop-level.invariant.0, c.deref-in-loop-level.ensures.value)
    (subst (λ (v : Level). AllByRecursion (λ p. p.0 < c.args.span.now.players) v.bounds) (sym c.level.view_is)
    of.bounds)

pub loop-level-preserved : goal.loop-level-preserved
loop-level-preserved c =
    let n = c.args.span.now.players in
    let l = c.level-item.result in
    let i = c.loop-level.level-index in
    let first = c.loop-level.invariant.0 in
    let second = c.add_coalitions.ensures.players ∙ first in
    let here = get_or c.args.levels.now i l in
    let paired : Extends n c.loop-level.span.kept c.add_coalitions.new.span.kept (IsPaired here.coalitions) =
    subst (λ (ps : List (ℕ × ℤ)). Extends n c.loop-level.span.kept c.add_coalitions.new.span.kept (IsPaired ps))
    (c.deref.ensures.value ∙ ap (λ (v : Level). v.coalitions) (c.level.view_is ∙ c.level-item.is))
    (same_players n c.loop-level.span.players c.loop-level.span.kept c.add_coalitions.new.span.kept
    (IsPaired c.deref.result.now) first c.add_coalitions.ensures.extends) in
    let bound : Extends n c.add_coalitions.new.span.kept c.add_bounds.new.span.kept (IsBoundVector n here.bounds) =
    subst
    (λ (ps : List (ℕ × ℤ)). Extends n c.add_coalitions.new.span.kept c.add_bounds.new.span.kept
    (IsBoundVector n ps))
    (c.deref-in-loop-level.ensures.value ∙ ap (λ (v : Level). v.bounds) (c.level.view_is ∙ c.level-item.is))
    (subst
    (λ (k : ℕ). Extends k c.add_coalitions.new.span.kept c.add_bounds.new.span.kept
    (IsBoundVector k c.deref-in-loop-level.result.now)) second c.add_bounds.ensures.extends) in (
      c.add_bounds.ensures.players ∙ second,
      levels_more n c.args.span.now.kept c.loop-level.span.kept c.add_coalitions.new.span.kept
          c.add_bounds.new.span.kept c.args.levels.now i l c.loop-level-test.true c.loop-level.invariant.1 paired
          bound,
    )

pub returns-clause-extends : goal.returns-clause-extends
returns-clause-extends c =
    levels_end c.args.span.now.players c.args.span.now.kept c.loop-level.span.kept c.args.levels.now
    c.loop-level.level-index (omega arith) c.loop-level.invariant.1

pub loop-level-init : goal.loop-level-init
loop-level-init c = (refl, levels_start c.args.span.now.players c.args.span.now.kept c.args.levels.now)
