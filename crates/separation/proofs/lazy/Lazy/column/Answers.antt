use Rattle.std.proofs.Common.{◌≡◌, ◌^◌, ℕ, length, ap, sym, arith}
use Rattle.separation.specs.Fronts.{front_columns}
use Rattle.separation.proofs.Balance.{masks_of}
use Rattle.separation.proofs.LazyColumns.{lazy-marked, lazy-past}
use Rattle.separation.proofs.lazy.Lazy.column.Goals as goal

pub returns-then-id-self-2 : goal.returns-then-id-self-2
returns-then-id-self-2 g c =
    let p = c.args.self.now in
    let game = g.W.Worth.game p.game.now in
    let m = masks_of p.players p.few in
    let e : 2 ^ p.players ≡ 2 ^ game.players = ap (λ (t : ℕ). 2 ^ t) p.count in
    let f : p.first ≡ length (front_columns game p.front) = p.first_is in
    let one =
    lazy-marked game p.front p.marks c.args.id (omega (arith, f, c.if-id-self.false))
    (omega (arith, f, m, e, c.if-id-self.false, c.if-id-self-2.true)) in
    cc (c.marked_column.ensures)

pub returns-else-id-self-2 : goal.returns-else-id-self-2
returns-else-id-self-2 g c =
    let p = c.args.self.now in
    let game = g.W.Worth.game p.game.now in
    let m = masks_of p.players p.few in
    let e : 2 ^ p.players ≡ 2 ^ game.players = ap (λ (t : ℕ). 2 ^ t) p.count in
    let f : p.first ≡ length (front_columns game p.front) = p.first_is in
    sym (lazy-past game p.front p.marks c.args.id (omega arith))
