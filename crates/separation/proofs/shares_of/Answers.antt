use Rattle.std.proofs.Common.{◌≡◌, ℕ, length, take, to_z, of_z, ap, ◌∙◌, arith}
use mir.Syntax.{w128}
use Rattle.std.proofs.lemmas.Result.{IfOk-from_err}
use Rattle.definitions.specs.Games.{IsShares}
use Rattle.definitions.proofs.Casts.{cast_kept}
use Rattle.definitions.proofs.Given.{is_some}
use Rattle.worth_core.specs.Allocations.{allocation}
use Rattle.separation.proofs.ReadShares.{taken_more, taken_are_shares, taken_are_read}
use Rattle.separation.proofs.shares_of.Goals as goal

pub bounds-deref-i : goal.bounds-deref-i
bounds-deref-i c =
    let long = ap length c.deref.ensures.0 in
    omega arith

pub loop-i-preserved : goal.loop-i-preserved
loop-i-preserved c =
    let pushed = c.in_ok-push.ensures {u = tt} in
    taken_more c.args.multipliers.now c.deref.result.now c.loop-i.num.items c.push.new.self.items c.loop-i.i
    (omega arith) c.deref.ensures.0 c.loop-i.invariant pushed.items

pub returns-in_err-push : goal.returns-in_err-push
returns-in_err-push c = IfOk-from_err c.from_residual.result _ c.from_residual.ensures.0

pub unwrap-requires : goal.unwrap-requires
unwrap-requires c =
    let m = c.args.multipliers.now in
    let n = c.args.n in
    let all : c.loop-i.num.items ≡ take n m.num.items =
    c.loop-i.invariant
    ∙ ap (λ (k : ℕ). take k m.num.items) (omega arith) in
    let den : to_z w128 (of_z w128 m.den) ≡ m.den =
    cast_kept w128 m.den (let small = m.den_small in omega (arith, small)) in
    is_some (IsShares (allocation (take n m.num.items) m.den)) _ c.new.result (rw (all, den) at c.new.ensures)
    (taken_are_shares m n c.requires.rows c.requires.some c.requires.few)

pub returns : goal.returns
returns c =
    let m = c.args.multipliers.now in
    let n = c.args.n in
    let all : c.loop-i.num.items ≡ take n m.num.items =
    c.loop-i.invariant
    ∙ ap (λ (k : ℕ). take k m.num.items) (omega arith) in
    let den : to_z w128 (of_z w128 m.den) ≡ m.den =
    cast_kept w128 m.den (let small = m.den_small in omega (arith, small)) in
    let new = rw c.unwrap.ensures at c.new.ensures in
    let is = rw (all, den) at new.0 in
    rw is (taken_are_read m n c.requires.rows)
