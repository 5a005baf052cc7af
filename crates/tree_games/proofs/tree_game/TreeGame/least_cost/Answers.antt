use Rattle.std.proofs.Common.{length, arith, sym, ◌∙◌, ap, ℕ, ◌<◌, slice_index}
use Rattle.definitions.specs.Coalitions.{has_player}
use Rattle.tree_games.specs.Steps.{closest}
use Rattle.tree_games.proofs.PrimLoop.{prim_start, prim_stays, prim_takes, best-small, doubled}
use Rattle.tree_games.proofs.tree_game.TreeGame.least_cost.Goals as goal
use Rattle.tree_games.proofs.tree_game.TreeGame.least_cost.Goals.{then-contains, else-contains}

pub loop-k-init : goal.loop-k-init
loop-k-init c =
    prim_start c.args.self.now c.args.s _ c.links_of-best.result c.links_of-best.ensures.len
    c.links_of-best.ensures.value
    (doubled (length c.args.self.now) c.args.s c.s.inside.0 (omega arith) c.requires c.s.view_is)

pub overflow_add-total : goal.overflow_add-total
overflow_add-total c =
    let cheap =
    best-small c.args.self.now c.args.s c.loop-k._k c.loop-k.best c.loop-k.connected c.loop-k.waiting
    c.loop-k.total c.closest-p.result c.points-points.ensures.laws c.loop-k.invariant
    (omega arith) in
    omega arith

pub loop-k-preserved : goal.loop-k-preserved
loop-k-preserved c =
    let same = c.points-points.ensures.count in
    let below : c.closest-p.result < (length c.args.self.now) = omega arith in
    let is =
    c.closest-p.ensures.value
    ∙ ap (λ (m : ℕ). closest (slice_index c.loop-k.best) (has_player c.loop-k.waiting) m) same in
    elim c.if-contains.branch [
      | then-contains w ↦
          let cheap =
          best-small c.args.self.now c.args.s c.loop-k._k c.loop-k.best c.loop-k.connected c.loop-k.waiting
          c.loop-k.total c.closest-p.result c.points-points.ensures.laws c.loop-k.invariant below in
          let done =
          prim_takes c.args.self.now c.args.s c.loop-k._k c.loop-k.best w.relax.new.best c.loop-k.connected
          w.with-connected.result c.loop-k.waiting w.without-waiting.result c.loop-k.total c.closest-p.result
          c.loop-k.invariant (omega arith) is below (sym c.contains.ensures ∙ w.if-contains.true)
          w.with-connected.ensures w.without-waiting.ensures w.relax.ensures.len w.relax.ensures.value
          cheap in
          rw (w.best-is, w.connected-is, w.waiting-is, w.total-is) done
      | else-contains w ↦
          let done =
          prim_stays c.args.self.now c.args.s c.loop-k._k c.loop-k.best c.loop-k.connected c.loop-k.waiting
          c.loop-k.total c.closest-p.result c.loop-k.invariant is
          (sym c.contains.ensures ∙ w.if-contains.false) in
          rw (w.best-is, w.connected-is, w.waiting-is, w.total-is) done
    ]
