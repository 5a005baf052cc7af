use Rattle.std.proofs.Common.{ℕ, length, pos, w64, slice_index, ap}
use Rattle.std.proofs.Common.{◌∙◌, arith}
use Rattle.std.proofs.lemmas.Int.{to_z_pos}
use Rattle.big_assignment.specs.Mates.{payoff, total_below}
use Rattle.big_assignment.proofs.Worths.{worth_total, payoff_small}
use Rattle.big_assignment.proofs.market_game.MarketGameWorth.worth.Goals as goal

pub total-requires-clause-small : goal.total-requires-clause-small
total-requires-clause-small c =
    let d = c.deal-deal.result in
    let b = c.buyers.ensures in
    let p = b.laws.players in
    λ k lt. rw b.count
    (payoff_small d (length c.args.self.now) k c.deal-deal.ensures.offers p.1 c.deal-deal.ensures.fair
    (omega arith))

pub returns : goal.returns
returns c =
    let d = c.deal-deal.result in
    let b = c.buyers.ensures in
    let n = c.players.ensures.count in
    to_z_pos w64 c.total.result (omega arith)
    ∙ ap pos (c.total.ensures.value
    ∙ ap (λ (r : ℕ). total_below c.players.result (payoff r (slice_index d.gains) (slice_index d.prices))) b.count
    ∙ ap (λ (k : ℕ). total_below k (payoff (length c.args.self.now) (slice_index d.gains) (slice_index d.prices))) n
    ∙ worth_total d c.args.self.now c.args.s b.laws c.requires c.deal-deal.ensures.table c.deal-deal.ensures.fair)
