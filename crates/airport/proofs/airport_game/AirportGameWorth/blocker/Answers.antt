use Rattle.std.proofs.Common.{◌≡◌, ◌≤◌, ◌<◌, ◌+◌, ◌*◌, ◌^◌, ◌-ℤ◌, ℕ, ℤ, pos}
use Rattle.std.proofs.Common.{◌<ℤ◌, ◌≤ℤ◌, neg_ℤ, to_z}
use Rattle.std.proofs.Common.{Option, length, get_or, arith, sym, ap, ◌∙◌, add-one, unsigned_abs}
use Rattle.std.proofs.lemmas.Int.{ints}
use mir.Syntax.{w128}
use Rattle.definitions.proofs.Ring.{linear}
use Rattle.orders.specs.Orders.{front}
use Rattle.definitions.specs.Games.{excess, share}
use Rattle.airport.specs.Airport.{airport_game, place}
use Rattle.airport.proofs.Within.{IsWithin-everybody, IsWithin-lacks}
use Rattle.airport.proofs.Blocking.{IsScanned, IsScanned-start, IsScanned-with}
use Rattle.airport.proofs.Blocking.{IsScanned-without, blocker-from_scan}
use Rattle.airport.proofs.Excesses.{payment, charge, excess-nobody, payment-nobody, next_player}
use Rattle.airport.proofs.Sizes.{paid-more, paid_size, left, left_fits, charge-is, left-is}
use Rattle.airport.proofs.airport_game.AirportGameWorth.blocker.Goals as goal
use Rattle.airport.proofs.airport_game.AirportGameWorth.blocker.Goals.{then-share-lt0, else-share-lt0}
use Rattle.definitions.proofs.Casts.{cast_kept}
use Rattle.definitions.proofs.Parts.{more-is}

assembled : (n : ℕ) (at : ℕ → ℕ) (k : ℕ) (pay e : ℕ → ℤ) (payers : ℕ) (best : Option ℕ) (most p : ℤ)
    → p ≡ pay payers → unsigned_abs p ≤ (k + 1) * 2 ^ 110
    → IsScanned n (front at k + 2 ^ at k) pay e payers best most
    → (p ≡ pay payers) × (unsigned_abs p ≤ (k + 1) * 2 ^ 110)
    × IsScanned n (front at (k + 1)) pay e payers best most
assembled n at k pay e payers best most p paid size scanned = (paid, size, rw add-one scanned)

pub loop-k-init : goal.loop-k-init
loop-k-init c =
    let a = c.args.self.now in
    let x = c.args.x.now in
    rw (c.empty-payers.ensures, c.none-best.ensures.coalition, c.none-best.ensures.excess) (
      sym (payment-nobody x),
      omega arith,
      IsScanned-start (length a.costs) (payment x) (excess (airport_game a) x)
          (excess-nobody a x c.len-k-end.ensures.laws),
    )

pub overflow_sub-payment-then-share-lt0 : goal.overflow_sub-payment-then-share-lt0
overflow_sub-payment-then-share-lt0 c =
    let few : c.loop-k.k < 64 = omega (arith, c.len-k-end.ensures.count, c.len-k-end.ensures.laws.few) in
    left_fits _ c.num-share.result c.scaled.result c.loop-k.k c.loop-k.invariant.1 few c.num-share.ensures.small
    c.scaled.ensures.small

pub loop-k-preserved : goal.loop-k-preserved
loop-k-preserved c =
    let a = c.args.self.now in
    let x = c.args.x.now in
    let laws = c.len-k-end.ensures.laws in
    let k = c.loop-k.k in
    let payers = c.loop-k.payers in
    let most = c.loop-k.best.excess in
    let low : k < length a.costs = omega (arith, c.len-k-end.ensures.count) in
    let few : k < 64 = omega (arith, laws.few) in
    let positive = rw c.den-den.ensures.value at c.den-den.ensures.positive in
    let next = next_player a x laws c.requires positive k low in
    let at = c.place-player.ensures.value in
    let scan = c.loop-k.invariant.2 in
    let before = to_z w128 c.loop-k.payment-bits in
    let share_is : c.num-share.result ≡ share x (place a k) = c.num-share.ensures.value ∙ ap (share x) at in
    let kept = cast_kept w128 c.num-share.result (omega (arith, c.num-share.ensures.small)) in
    elim c.if-share-lt0.branch [
      | then-share-lt0 w ↦
          let lacks = IsWithin-lacks (length a.costs) (front (place a) k) (place a k) payers next.new scan.within in
          let joined : w.with-payers.result ≡ payers + 2 ^ place a k =
          more-is payers (place a k) w.with-payers.result lacks (rw at at w.with-payers.ensures) in
          let pays : pos 0 <ℤ neg_ℤ (share x (place a k)) =
          omega (arith, ints, w.if-share-lt0.true, kept, share_is) in
          let paid = paid-more before c.num-share.result k c.loop-k.invariant.1 few c.num-share.ensures.small in
          let size = paid_size before c.num-share.result k c.loop-k.invariant.1 c.num-share.ensures.small in
          let charged =
          charge-is c.den-den.result w.cost.result w.scaled.result x.den (get_or a.costs (place a k) 0)
          c.den-den.ensures.positive c.den-den.ensures.common
          (w.cost.ensures.value ∙ ap (λ (i : ℕ). pos (get_or a.costs i 0)) at) w.cost.ensures.small
          w.scaled.ensures.value c.den-den.ensures.value in
          let net =
          left before c.num-share.result w.scaled.result k c.loop-k.invariant.1 few c.num-share.ensures.small
          w.scaled.ensures.small in
          let here =
          left-is before c.num-share.result w.scaled.result (payment x payers) (share x (place a k))
          (charge a x (place a k)) _ _ c.loop-k.invariant.0 share_is charged (next.exceeds payers scan.within)
          net in
          let equal = w.payment-is ∙ paid in
          let total : before -ℤ c.num-share.result ≡ payment x w.with-payers.result =
          omega (
            arith,
            linear,
            c.loop-k.invariant.0,
            share_is,
            next.pays payers scan.within,
            ap (payment x) joined,
          ) in
          let scanned =
          IsScanned-with (length a.costs) (front (place a) k) (place a k) (payment x)
          (excess (airport_game a) x) (neg_ℤ (share x (place a k))) (charge a x (place a k)) next payers
          w.with-payers.result c.loop-k.best.coalition w.or-best.result.coalition most _
          w.or-best.result.excess scan pays joined (here ∙ ap (excess (airport_game a) x) (sym joined))
          w.or-best.ensures.more w.or-best.ensures.no_more in
          rw (w.payers-is, w.best-is) (
          assembled (length a.costs) (place a) k (payment x) (excess (airport_game a) x) w.with-payers.result
          w.or-best.result.coalition w.or-best.result.excess (to_z w128 c.if-share-lt0.payment-bits)
          (equal ∙ total) (rw equal size) scanned
          )
      | else-share-lt0 w ↦
          let free : neg_ℤ (share x (place a k)) ≤ℤ pos 0 =
          omega (arith, ints, w.if-share-lt0.false, kept, share_is) in
          let scanned =
          IsScanned-without (length a.costs) (front (place a) k) (place a k) (payment x)
          (excess (airport_game a) x) (neg_ℤ (share x (place a k))) (charge a x (place a k)) next payers
          c.loop-k.best.coalition most scan free in
          rw (w.payers-is, w.best-is) (
          assembled (length a.costs) (place a) k (payment x) (excess (airport_game a) x) payers
          c.loop-k.best.coalition most (to_z w128 c.if-share-lt0.payment-bits)
          (w.payment-is ∙ c.loop-k.invariant.0) (rw w.payment-is (omega (arith, c.loop-k.invariant.1))) scanned
          )
    ]

pub returns : goal.returns
returns c =
    let a = c.args.self.now in
    let x = c.args.x.now in
    let laws = c.len-k-end.ensures.laws in
    let all : c.loop-k.k ≡ length a.costs = omega (arith, c.len-k-end.ensures.count) in
    let scan = rw all at c.loop-k.invariant.2 in
    blocker-from_scan (airport_game a) x (front (place a) (length a.costs)) c.loop-k.payers (payment x)
    c.loop-k.best.coalition c.loop-k.best.excess scan
    (IsWithin-everybody (length a.costs) (λ i. get_or a.costs i 0) (place a) laws.sorted.lists)
