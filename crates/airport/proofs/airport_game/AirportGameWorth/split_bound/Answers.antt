use Rattle.std.proofs.Common.{◌≡◌, ◌<◌, ◌+◌, ◌^◌, ◌&&◌, ◌-ℤ◌, ℕ, ℤ, not, pos}
use Rattle.std.proofs.Common.{neg_ℤ, nat_eq, to_z, of_z}
use Rattle.std.proofs.Common.{Option, length, get_or, arith, rules, sym, ap, ◌∙◌, add-one}
use mir.Syntax.{w128}
use Rattle.definitions.specs.Coalitions.{has_player, splits}
use Rattle.definitions.specs.Games.{excess, share}
use Rattle.worth_core.specs.SplitKinds.{Sums, AreSplitSums}
use Rattle.worth_core.proofs.SplitScan.{is_split}
use Rattle.orders.specs.Orders.{front}
use Rattle.airport.specs.Airport.{airport_game, place}
use Rattle.airport.proofs.Within.{IsWithin-everybody}
use Rattle.airport.proofs.Excesses.{paid, payment, charge, sum_over-paid, next_player}
use Rattle.airport.proofs.Sizes.{charge-is, paid-is, rest-is}
use Rattle.airport.proofs.Splitting.{IsFrontBound, IsFrontBound-start, IsFrontBound-kept}
use Rattle.airport.proofs.Splitting.{IsFrontBound-more, IsBestPayment-from_sums, IsSplitMaximum-from_bound}
use Rattle.airport.proofs.Splitting.{some-from_bound, some_unseen-is, unseen-start, unseen-more}
use Rattle.airport.proofs.airport_game.AirportGameWorth.split_bound.Goals as goal
use Rattle.airport.proofs.airport_game.AirportGameWorth.split_bound.Goals.{in-Some, in_default}

assembled : (n : ℕ) (w : ℕ → ℤ) (f : ℕ) (at : ℕ → ℕ) (k u : ℕ) (sums : Sums) (e : ℕ → ℤ) (most : Option ℤ)
    → sums.count ≡ k + 1 → AreSplitSums n w f (front at k + 2 ^ at k) sums
    → ((j : ℕ) → has_player u j ≡ (has_player f j && not (has_player (front at k + 2 ^ at k) j)))
    → IsFrontBound n (front at k + 2 ^ at k) (splits n (has_player f)) e most
    → (sums.count ≡ k + 1) × AreSplitSums n w f (front at (k + 1)) sums
    × ((j : ℕ) → has_player u j ≡ (has_player f j && not (has_player (front at (k + 1)) j)))
    × IsFrontBound n (front at (k + 1)) (splits n (has_player f)) e most
assembled n w f at k u sums e most count added unseen bound =
    (count, rw add-one added, rw add-one unseen, rw add-one bound)

pub loop-k-init : goal.loop-k-init
loop-k-init c =
    let a = c.args.self.now in
    let x = c.args.x.now in (
      c.new-sums.ensures.count,
      c.new-sums.ensures.sums (length a.costs) (paid x) c.args.free,
      unseen-start c.args.free,
      IsFrontBound-start (length a.costs) c.args.free (excess (airport_game a) x),
    )

pub loop-k-preserved : goal.loop-k-preserved
loop-k-preserved c =
    let a = c.args.self.now in
    let x = c.args.x.now in
    let laws = c.len-k-end.ensures.laws in
    let k = c.loop-k.k in
    let low : k < length a.costs = omega (arith, c.len-k-end.ensures.count) in
    let positive = rw c.den-den.ensures.value at c.den-den.ensures.positive in
    let next = next_player a x laws c.requires.shares positive k low in
    let at = c.place-player.ensures.value in
    let unseen =
    unseen-more c.args.free (front (place a) k) (place a k) c.loop-k.unseen c.without-unseen.result next.new
    c.loop-k.invariant.2 (rw at at c.without-unseen.ensures) in
    let n = length a.costs in
    let p = place a k in
    let seen = front (place a) k in
    let share_is : c.num.result ≡ share x p = c.num.ensures.value ∙ ap (share x) at in
    let weight : paid x p ≡ to_z w128 (of_z w128 (pos 0 -ℤ to_z w128 (of_z w128 c.num.result))) =
    ap neg_ℤ (sym share_is) ∙ sym (paid-is c.num.result c.num.ensures.small) in
    let added =
    c.add.ensures.sums n (paid x) c.args.free seen p next.player next.new
    (sym (c.contains.ensures ∙ ap (has_player c.args.free) at)) weight c.loop-k.invariant.1 in
    let others =
    c.ne.ensures ∙ ap (λ (e : ℕ). not (nat_eq c.without-unseen.result e)) c.empty.ensures
    ∙ some_unseen-is n c.args.free (seen + 2 ^ p) c.without-unseen.result c.requires.within unseen in
    let best =
    IsBestPayment-from_sums n c.args.free (seen + 2 ^ p) (paid x) (payment x) c.ne.result c.best.result
    (λ s. sum_over-paid n x s c.requires.shares) others
    (c.best.ensures.sum n (paid x) c.args.free (seen + 2 ^ p) added) in
    let count : c.add.new.self.count ≡ k + 1 = omega (arith, c.add.ensures.count, c.loop-k.invariant.0) in
    elim c.match-best.branch [
      | in-Some w ↦
          let small = rw w.in-Some.is at c.best.ensures.small in
          let charged =
          charge-is c.den-den.result w.cost.result w.scaled.result x.den (get_or a.costs p 0)
          c.den-den.ensures.positive c.den-den.ensures.common
          (w.cost.ensures.value ∙ ap (λ (i : ℕ). pos (get_or a.costs i 0)) at) w.cost.ensures.small
          w.scaled.ensures.value c.den-den.ensures.value in
          let value =
          rest-is w.in-Some.payment w.scaled.result small w.scaled.ensures.small
          ∙ ap (λ (z : ℤ). w.in-Some.payment -ℤ z) charged in
          let bound =
          IsFrontBound-more n seen p (is_split (airport_game a) c.args.free) (payment x)
          (excess (airport_game a) x) (paid x p) (charge a x p) w.in-Some.payment _ next
          (rw w.in-Some.is at best) value c.loop-k.most c.loop-k.invariant.3 in
          rw (w.most-is, w.raised-most.ensures)
          (assembled n (paid x) c.args.free (place a) k c.without-unseen.result c.add.new.self
          (excess (airport_game a) x) _ count added unseen bound)
      | in_default w ↦
          let bound =
          IsFrontBound-kept n seen (seen + 2 ^ p) (is_split (airport_game a) c.args.free) (payment x)
          (excess (airport_game a) x) c.loop-k.most c.loop-k.invariant.3 (rw w.in_default.is at best) in
          rw w.most-is
          (assembled n (paid x) c.args.free (place a) k c.without-unseen.result c.add.new.self
          (excess (airport_game a) x) c.loop-k.most count added unseen bound)
    ]

pub unwrap-requires : goal.unwrap-requires
unwrap-requires c =
    let a = c.args.self.now in
    let laws = c.len-k-end.ensures.laws in
    let all : c.loop-k.k ≡ length a.costs = omega (arith, c.len-k-end.ensures.count) in
    let scan = rw all at c.loop-k.invariant.3 in
    some-from_bound (airport_game a) c.args.x.now c.args.free (front (place a) (length a.costs)) c.loop-k.most scan
    (IsWithin-everybody (length a.costs) (λ i. get_or a.costs i 0) (place a) laws.sorted.lists) c.requires.two

pub returns : goal.returns
returns c =
    let a = c.args.self.now in
    let laws = c.len-k-end.ensures.laws in
    let all : c.loop-k.k ≡ length a.costs = omega (arith, c.len-k-end.ensures.count) in
    let scan = rw all at c.loop-k.invariant.3 in
    let kept : to_z w128 (of_z w128 c.unwrap.result) ≡ c.unwrap.result = search rules in
    rw kept
    (IsSplitMaximum-from_bound (airport_game a) c.args.x.now c.args.free (front (place a) (length a.costs))
    c.loop-k.most c.unwrap.result scan
    (IsWithin-everybody (length a.costs) (λ i. get_or a.costs i 0) (place a) laws.sorted.lists)
    c.unwrap.ensures)
