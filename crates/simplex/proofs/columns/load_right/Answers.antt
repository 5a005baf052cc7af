use Rattle.std.proofs.Common.{rules, arith, ◌<◌, ◌≤◌, length, length-set, ◌∙◌, FitsSigned}
use mir.Syntax.{w128, w32}
use Rattle.std.proofs.lemmas.Int.{to_z-of_z}
use Rattle.simplex.proofs.DotProducts.{flipped_at}
use Rattle.simplex.proofs.Fills.{filled}
use Rattle.simplex.proofs.Minors.{tame_of}
use Rattle.simplex.proofs.columns.load_right.Goals as goal

pub loop-i-preserved : goal.loop-i-preserved
loop-i-preserved g c =
    let fe : FitsSigned w32 c.right.result = search rules in
    let ff : FitsSigned w128 c.from.result = search rules in
    let e = simp to_z-of_z at c.from.ensures in
    let P = g.C.Columns.program c.args.columns.now in
    let small : c.args.n ≤ 31 =
    rw c.requires
    (tame_of (g.C.Columns.program c.args.columns.now) (g.met.C.Columns.lawful c.args.columns.now)).few in
    let lt : c.loop-i.i < P.rows = rw c.requires at c.loop-i-test.true in
    let len : c.loop-i.i < length c.loop-i.entries = rw c.loop-i.invariant.len (omega arith) in
    simp to_z-of_z (record {
      len = length-set c.loop-i.entries c.loop-i.i c.from.result ∙ c.loop-i.invariant.len;
      done = filled c.loop-i.entries c.loop-i.i c.from.result (Rattle.simplex.specs.Program.right_side P) len
          (cc (c.right.ensures, c.requires, flipped_at P.rows (P.right) c.loop-i.i lt)) c.loop-i.invariant.done;
    })
