use Rattle.std.proofs.Common.{◌≡◌, ◌<◌, length, slice_index, arith}
use Rattle.voting.proofs.Blocking.{weight-read}
use Rattle.voting.proofs.Tables.{table_start, table_stays, table_more, table_small}
use Rattle.voting.proofs.game.VotingGame.counts_without.Goals as goal
use Rattle.voting.proofs.game.VotingGame.counts_without.Goals.{then-j-i, else-j-i}

pub loop-j-init : goal.loop-j-init
loop-j-init c = record {
  full = c.in_ok-table.ensures.0;
  counts = table_start (slice_index c.args.self.now.weights) c.args.i c.in_ok-table.table c.in_ok-table.ensures.1;
}

pub add_player-requires-clause-full : goal.add_player-requires-clause-full
add_player-requires-clause-full c = c.loop-j.invariant.full

pub add_player-requires-clause-small : goal.add_player-requires-clause-small
add_player-requires-clause-small c =
    let laws = rw c.self.view_is at c.self.invariant in
    table_small (slice_index c.args.self.now.weights) c.args.i c.loop-j.j c.loop-j.table
    (omega arith) c.loop-j.invariant.counts

pub loop-j-preserved : goal.loop-j-preserved
loop-j-preserved c =
    let g = c.args.self.now in
    let i = c.args.i in
    let j = c.loop-j.j in
    let lt : j < length g.weights = omega arith in
    elim c.if-j-i.branch [
      | then-j-i w ↦
          let weight =
          weight-read g c.self.inside.quota c.self.inside.weights.items j w.index.result.now c.self.view_is lt
          w.index.ensures in
          rw w.table-is (record {
            full = w.add_player.ensures.full;
            counts =
                table_more (slice_index g.weights) i j w.index.result.now c.loop-j.table w.add_player.new.self
                w.if-j-i.true weight c.loop-j.invariant.counts w.add_player.ensures.ways;
          })
      | else-j-i w ↦ rw w.table-is (record {
        full = c.loop-j.invariant.full;
        counts = table_stays (slice_index g.weights) i j c.loop-j.table (omega arith) c.loop-j.invariant.counts;
      })
    ]

pub returns : goal.returns
returns c =
    let g = c.args.self.now in
    let end : c.loop-j.j ≡ length g.weights =
    omega arith in (
      c.loop-j.invariant.full,
      rw end at c.loop-j.invariant.counts,
    )
