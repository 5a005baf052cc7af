use Rattle.convexity.proofs.PlayersInOrder.{range_is_order}
use Rattle.convexity.proofs.ShapleyCore.{shapley_in_core}
use Rattle.convexity.proofs.answers.shares_of.Goals as goal

pub marginal-requires : goal.marginal-requires
marginal-requires g c =
    rw (c.deref.ensures.value, c.in_ok-order.ensures, c.players.ensures.count)
    (range_is_order (g.W.Worth.game c.args.game.now).players)

pub returns-in-Ok : goal.returns-in-Ok
returns-in-Ok g c =
    let game = g.W.Worth.game c.args.game.now in
    record {
      shapley = c.in-Ok.ensures.value;
      marginal = rw (c.deref.ensures.value, c.in_ok-order.ensures, c.players.ensures.count) at
          c.in_ok-marginal.ensures.marginal;
      in_core = λ convex. (
        shapley_in_core game c.in-Ok.shapley c.players.ensures.laws.nobody c.in-Ok.ensures.value convex,
        c.in_ok-marginal.ensures.core convex,
      );
    }
