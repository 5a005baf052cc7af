use Rattle.std.proofs.Common.{◌∙◌, ◌<◌, pos, sym, get_or}
use Rattle.kohlberg.proofs.SpanScan.{bounds_step, bounds_skip}
use Rattle.kohlberg.proofs.spanned.add_bounds.Goals as goal
use Rattle.kohlberg.proofs.spanned.add_bounds.Goals.{then-is_weighty, else-is_weighty}
use Rattle.definitions.proofs.Masks.{singleton-within}
use Rattle.definitions.proofs.Alls.{all_at}

pub add-requires : goal.add-requires
add-requires c =
    let lt =
    all_at (λ b. b.0 < c.args.span.now.players) c.args.bounds.now c.loop-i.i-index (0, pos 0) c.loop-i-test.true
    c.requires.players in
    rw (c.single.ensures, c.loop-i.invariant.0)
    (singleton-within c.args.span.now.players (get_or c.args.bounds.now c.loop-i.i-index (0, pos 0)).0 lt)

pub loop-i-preserved : goal.loop-i-preserved
loop-i-preserved c =
    let n = c.args.span.now.players in
    let old = c.args.span.now.kept in
    let ps = c.args.bounds.now in
    let i = c.loop-i.i-index in
    elim c.if-is_weighty.branch [
      | then-is_weighty w ↦ rw w.span-is (
        w.add.ensures.players ∙ c.loop-i.invariant.0,
        bounds_step n c.loop-i.span.players old c.loop-i.span.kept w.add.new.self.kept ps i (0, pos 0)
            w.single.result c.loop-i.invariant.0 c.loop-i-test.true c.requires.players
            (sym w.if-is_weighty.ensures) w.single.ensures c.loop-i.invariant.1 w.add.ensures.grows,
      )
      | else-is_weighty w ↦ rw w.span-is (
        c.loop-i.invariant.0,
        bounds_skip n old c.loop-i.span.kept ps i (0, pos 0) c.loop-i-test.true (sym w.if-is_weighty.ensures)
            c.loop-i.invariant.1,
      )
    ]
