use Rattle.std.proofs.Common.{◌<◌, slice_set, arith, inl, inr, ◌∙◌}
use Rattle.std.proofs.lemmas.List.{length-set}
use Rattle.big_assignment.specs.Deals.{with_columns}
use Rattle.big_assignment.specs.Searches.{parent_of}
use Rattle.big_assignment.proofs.Arrays.{taken_set}
use Rattle.big_assignment.proofs.Walks.{walk_on, walk_end}
use Rattle.big_assignment.proofs.search.hand_over.Goals as goal

pub returns-then-i-n : goal.returns-then-i-n
returns-then-i-n c =
    let l = c.loop-columns in
    let n = c.args.n in
    walk_end (with_columns c.args.deal.now l.columns) c.args.search.now n l.k
    (slice_set l.columns n c.column_at.result) l.invariant.1 c.if-i-n.true
    (taken_set l.columns n l.k c.column_at.result
    (omega arith) c.column_at.ensures)

pub loop-columns-preserved : goal.loop-columns-preserved
loop-columns-preserved c =
    let s = c.args.search.now in
    let l = c.loop-columns in
    let n = c.args.n in
    let i = parent_of s l.k in
    let joined = (l.invariant.1.joined l.k l.invariant.1.column l.invariant.1.ranked (omega arith)).earlier in
    let size = l.invariant.0 in
    let lt : i < n = (elim joined [ inl e ↦ absurd (c.if-i-n.false e) | inr e ↦ e.0 ]) in
    let on =
    walk_on (with_columns c.args.deal.now l.columns) s n l.k
    (slice_set l.columns i c.column_at-in-loop-columns.result)
    l.invariant.1 c.if-i-n.false
    (taken_set l.columns i l.k c.column_at-in-loop-columns.result (omega arith)
    c.column_at-in-loop-columns.ensures) in
    let columns = slice_set l.columns i c.column_at-in-loop-columns.result in (
      length-set l.columns i c.column_at-in-loop-columns.result ∙ size,
      rw c.place_of-freed.ensures on.0,
    )
