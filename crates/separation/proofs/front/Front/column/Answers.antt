use Rattle.std.proofs.Common.{◌≡◌, ◌+◌, ◌-◌, ◌*◌, ℕ, length, ap, sym, ◌∙◌, arith}
use Rattle.separation.specs.Stage.{earlier_of}
use Rattle.separation.specs.Making.{single, bound}
use Rattle.separation.proofs.InnerColumns.{earlier_at, single_at, bound_at, none_at}
use Rattle.separation.proofs.front.Front.column.Goals as goal

pub returns-then-id-settled : goal.returns-then-id-settled
returns-then-id-settled g c =
    let game = g.W.Worth.game c.args.game.now in
    let f = c.args.self.now in
    c.earlier.ensures
    ∙ sym
    (earlier_at f.family game f.levels.now c.args.id (omega (arith, c.if-id-lt2.false)) (omega arith))

pub returns-then-id-settled-2 : goal.returns-then-id-settled-2
returns-then-id-settled-2 g c =
    let game = g.W.Worth.game c.args.game.now in
    let f = c.args.self.now in
    let at : c.args.id - (2 + 2 * c.coalition_count.result)
    ≡ c.args.id - (2 + 2 * length (earlier_of 0 f.levels.now)) =
    ap (λ (t : ℕ). c.args.id - (2 + 2 * t)) c.coalition_count.ensures.value in
    c.single.ensures ∙ ap (single f.family game) at
    ∙ sym
    (single_at f.family game f.levels.now c.args.id (omega arith) (omega arith))

pub returns-then-id-settled-3 : goal.returns-then-id-settled-3
returns-then-id-settled-3 g c =
    let game = g.W.Worth.game c.args.game.now in
    let f = c.args.self.now in
    let n : c.from-n.result ≡ game.players = omega arith in
    let at : c.args.id - (2 + 2 * c.coalition_count.result) - c.from-n.result
    ≡ c.args.id - (2 + 2 * length (earlier_of 0 f.levels.now)) - game.players =
    cc (c.coalition_count.ensures.value) in
    c.bound.ensures ∙ ap (bound f.family game f.levels.now) at
    ∙ sym
    (bound_at f.family game f.levels.now c.args.id (omega arith) (omega arith))

pub returns-else-id-settled-3 : goal.returns-else-id-settled-3
returns-else-id-settled-3 g c =
    let game = g.W.Worth.game c.args.game.now in
    let f = c.args.self.now in
    sym (none_at f.family game f.levels.now c.args.id (omega arith))
