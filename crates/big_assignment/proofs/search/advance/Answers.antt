use Rattle.big_assignment.proofs.Searches.{IsMarked, mark_keeps}
use Rattle.big_assignment.proofs.Walks.{walk_start}
use Rattle.big_assignment.proofs.search.advance.Goals as goal

pub returns-then-is_held-clause-more : goal.returns-then-is_held-clause-more
returns-then-is_held-clause-more c _ =
    let a = c.approach-i.ensures in
    let m = c.mark.ensures in
    let marked : IsMarked c.approach-i.new.deal c.args.search.now c.mark.new.self c.args.n c.approach-i.result.0
    c.approach-i.result.1 = record {
      reached = a.row;
      none = a.unreached;
      tight = a.tight;
      count = m.count;
      ranks = m.ranks;
      parents = m.parents;
      total = m.total;
    } in
    let held = c.is_held.ensures.held c.if-is_held.true in
    mark_keeps c.approach-i.new.deal c.args.search.now c.mark.new.self c.args.n c.approach-i.result.0
    c.approach-i.result.1 a.search marked held.0 held.1

pub hand_over-deal-requires-clause-open : goal.hand_over-deal-requires-clause-open
hand_over-deal-requires-clause-open c =
    let a = c.approach-i.ensures in
    let m = c.mark.ensures in
    let marked : IsMarked c.approach-i.new.deal c.args.search.now c.mark.new.self c.args.n c.approach-i.result.0
    c.approach-i.result.1 = record {
      reached = a.row;
      none = a.unreached;
      tight = a.tight;
      count = m.count;
      ranks = m.ranks;
      parents = m.parents;
      total = m.total;
    } in
    walk_start c.approach-i.new.deal c.args.search.now c.mark.new.self c.args.n c.approach-i.result.0
    c.approach-i.result.1 a.search marked a.column (c.is_held.ensures.free c.if-is_held.false)
