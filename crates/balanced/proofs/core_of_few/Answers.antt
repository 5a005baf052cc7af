use Rattle.std.proofs.Common.{ℕ, sym, subst, ◌∙◌}
use Rattle.std.proofs.lemmas.Bool.{false≢true}
use Rattle.balanced_collections.specs.Collections.{ShowsEmpty}
use Rattle.separation.specs.Shares.{IsReadFrom}
use Rattle.balanced.proofs.Points.{in_core}
use Rattle.balanced.proofs.Collected.{shows_empty}
use Rattle.balanced.proofs.core_of_few.Goals as goal

pub returns-then-is_efficient : goal.returns-then-is_efficient
returns-then-is_efficient g c =
    let game = g.W.Worth.game c.args.game.now in
    let answer = c.in_ok-best.ensures {u = tt} in
    let m = c.in_ok-best.best.multipliers in
    let x = c.in_ok-shares.shares in
    let read =
    subst (λ (n : ℕ). IsReadFrom n m.num.items m.den x) c.players.ensures.count
    (c.in_ok-shares.ensures {u = tt}) in
    in_core game c.players.ensures.laws m.num.items m.den answer.optimal.1 x read
    (c.is_efficient.ensures.0 c.if-is_efficient.true)

pub returns-in_ok-collection_of : goal.returns-in_ok-collection_of
returns-in_ok-collection_of g c =
    let game = g.W.Worth.game c.args.game.now in
    let answer = c.in_ok-best.ensures {u = tt} in
    let best = c.in_ok-best.best in
    let m = best.multipliers in
    let x = c.in_ok-shares.shares in
    let read =
    subst (λ (n : ℕ). IsReadFrom n m.num.items m.den x) c.players.ensures.count
    (c.in_ok-shares.ensures {u = tt}) in
    subst (ShowsEmpty game) (sym (c.in_ok-collection_of.ensures {u = tt}))
    (shows_empty game c.players.ensures.laws best.weights.items best.weight_den m.num.items m.den answer x read
    (λ efficient. false≢true (sym c.if-is_efficient.false ∙ c.is_efficient.ensures.1 efficient)))
