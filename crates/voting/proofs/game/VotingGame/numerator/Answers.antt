use Rattle.std.proofs.Common.{◌≡◌, ◌<◌, ◌-◌, ℕ, length, slice_index, ap, ◌∙◌}
use Rattle.std.proofs.Common.{arith}
use Rattle.voting.specs.Voting.{Voting}
use Rattle.voting.specs.Counts.{share_unit}
use Rattle.voting.proofs.Blocking.{weight-read}
use Rattle.voting.proofs.Tables.{table_small, numerator_more}
use Rattle.voting.proofs.game.VotingGame.numerator.Goals as goal

pub total-requires-clause-small : goal.total-requires-clause-small
total-requires-clause-small c =
    let g = c.args.self.now in
    let laws = rw c.self.view_is at c.self.invariant in
    let few = laws.few in
    let small =
    table_small (slice_index g.weights) c.args.i (length g.weights) c.in_ok-table.table few
    c.in_ok-table.ensures.1 c.loop-k.k
    (omega arith) in
    rw c.row.ensures small

pub loop-k-preserved : goal.loop-k-preserved
loop-k-preserved c =
    let g = c.args.self.now in
    let i = c.args.i in
    let k = c.loop-k.k in
    let laws = rw c.self.view_is at c.self.invariant in
    let lt : k < length g.weights = omega arith in
    let quota = ap (λ (v : Voting). v.quota) c.self.view_is in
    let weight =
    weight-read g c.self.inside.quota c.self.inside.weights.items i c.index.result.now c.self.view_is c.requires
    c.index.ensures in
    let low : c.saturating_sub-low.result ≡ g.quota - slice_index g.weights i =
    omega arith in
    let unit = c.share_unit.ensures.value ∙ ap (λ (n : ℕ). share_unit n k) c.players-players.ensures.count in
    record {
      value =
          numerator_more g i k c.share_unit.result c.total.result c.saturating_sub-low.result c.self.inside.quota
          c.product-total.result c.loop-k.total c.in_ok-table.table c.row.result.now laws lt c.in_ok-table.ensures.1
          c.row.ensures c.total.ensures.value quota low unit c.product-total.ensures.value c.loop-k.invariant.value;
      small = omega arith;
    }
