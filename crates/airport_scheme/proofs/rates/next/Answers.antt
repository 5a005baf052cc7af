use Rattle.std.proofs.Common.{◌≡◌, to_z, of_z, arith, sym, ◌∙◌}
use Rattle.std.proofs.lemmas.Int.{ints}
use mir.Syntax.{w128}
use Rattle.airport_scheme.proofs.Runs.{IsBest-start, IsBest-kept, IsBest-better, IsLeastTerm-whole}
use Rattle.airport_scheme.proofs.rates.next.Goals as goal
use Rattle.airport_scheme.proofs.rates.next.Goals.{then-less, else-less}
use Rattle.definitions.proofs.Casts.{cast_kept}

pub loop-l-init : goal.loop-l-init
loop-l-init c =
    let den : to_z w128 (of_z w128 c.args.den) ≡ c.args.den = cast_kept w128 c.args.den (omega (arith, ints)) in
    let paid : to_z w128 (of_z w128 c.args.paid) ≡ c.args.paid =
    cast_kept w128 c.args.paid (omega arith) in
    let first = rw (den, paid) at c.term-best.ensures.term in
    let last = c.term-best.ensures.last in
    rw (den, paid, last) (
      IsBest-start _ _ c.args.den c.args.paid c.args.done _ c.term-best.result.size c.term-best.result.value
          (omega arith) first,
      c.term-best.ensures.size,
      c.term-best.ensures.rate,
    )

pub loop-l-preserved : goal.loop-l-preserved
loop-l-preserved c =
    let inv = c.loop-l.invariant in
    let here = c.term-here.ensures in
    elim c.if-less.branch [
      | then-less w ↦
          let less = sym c.less.ensures ∙ w.if-less.true in
          rw (w.best-is, here.last)
          (IsBest-better _ _ _ _ _ _ _ _ _ _ _ inv.0 here.term (omega (arith, ints)), here.size, here.rate)
      | else-less w ↦
          let most = sym c.less.ensures ∙ w.if-less.false in
          rw w.best-is
          (IsBest-kept _ _ _ _ _ _ _ _ _ _ _ inv.0 here.term (omega (arith, ints)), inv.1, inv.2)
    ]

pub returns-clause-least : goal.returns-clause-least
returns-clause-least c =
    let den : to_z w128 (of_z w128 c.args.den) ≡ c.args.den = cast_kept w128 c.args.den (omega (arith, ints)) in
    let paid : to_z w128 (of_z w128 c.args.paid) ≡ c.args.paid =
    cast_kept w128 c.args.paid (omega arith) in
    let best = rw (den, paid) at c.loop-l.invariant.0 in
    IsLeastTerm-whole _ _ c.args.den c.args.paid c.args.done c.loop-l.l c.loop-l.best.last c.loop-l.best.size
    c.loop-l.best.value (omega arith) best
