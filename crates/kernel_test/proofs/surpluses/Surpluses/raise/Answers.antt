use Rattle.std.proofs.Common.{sym, to_z, of_z}
use mir.Syntax.{w128}
use Rattle.kernel_test.specs.Tables.{number_at}
use Rattle.kernel_test.proofs.Rows.{raised-row, left-row}
use Rattle.kernel_test.proofs.surpluses.Surpluses.raise.Goals as goal
use Rattle.kernel_test.proofs.surpluses.Surpluses.raise.Goals.{then-contains, else-contains}

pub loop-i-preserved : goal.loop-i-preserved
loop-i-preserved c =
    let e = to_z w128 (of_z w128 c.args.excess) in
    elim c.if-contains.branch [
      | then-contains w ↦ rw w.self-is (record {
        rows = λ a j ha hj.
            raised-row c.args.s c.loop-i.i a j (number_at c.args.self.now.greatest a j)
            (number_at c.loop-i.self.greatest a j) (number_at w.raise_row.new.self.greatest a j) e
            (sym (w.if-contains.ensures {u = tt})) (c.loop-i.invariant.rows a j ha hj)
            (w.raise_row.ensures.raised a j ha hj);
        floors = w.raise_row.ensures.floors;
      })
      | else-contains w ↦ rw w.self-is (record {
        rows = λ a j ha hj.
            left-row c.args.s c.loop-i.i a j (number_at c.args.self.now.greatest a j)
            (number_at c.loop-i.self.greatest a j) e (sym (w.if-contains.ensures {u = tt}))
            (c.loop-i.invariant.rows a j ha hj);
        floors = c.loop-i.invariant.floors;
      })
    ]
