use Rattle.std.proofs.Common.{◌≡◌, ℕ, ◌<◌, ◌≤◌, ◌^◌, ◌++◌, length, take, drop, arith}
use Rattle.std.proofs.Common.{ap, ◌∙◌}
use Rattle.std.proofs.Math.Seq.{take-append_seam}
use mir.Syntax.{w64}
use Rattle.definitions.proofs.Casts.{cast_kept}
use Rattle.definitions.proofs.Halves.{size_below-most}
use Rattle.shapley.proofs.Sizes.{masks_below, masks_end, masks-few}
use Rattle.shapley.proofs.Credits.{credits, credits-total}
use Rattle.shapley.proofs.Sums.{totals_start, totals_next, totals_small}
use Rattle.shapley.proofs.totals.all_totals.Goals as goal

pub loop-mask-init : goal.loop-mask-init
loop-mask-init g c =
    rw (c.in_ok-totals.ensures.items_if_clones_equal (λ y e. e))
    (totals_start (g.W.Worth.game c.args.game.now) c.players-n.result)

pub add_worth-requires-clause-room : goal.add_worth-requires-clause-room
add_worth-requires-clause-room g c =
    let n = c.players-n.result in
    let small : n ≤ 16 = omega arith in
    rw c.deref_mut.ensures.value
    (totals_small (g.W.Worth.game c.args.game.now) n c.loop-mask.mask c.loop-mask.totals.items
    (omega (arith, masks_below n c.loop-mask.mask small c.loop-mask-test.true)) c.loop-mask.invariant)

pub loop-mask-preserved : goal.loop-mask-preserved
loop-mask-preserved g c =
    let game = g.W.Worth.game c.args.game.now in
    let mask = c.loop-mask.mask in
    let n = c.players-n.result in
    let count = c.players-n.ensures.count in
    let laws = c.players-n.ensures.laws in
    let few : n ≤ 16 = omega arith in
    let below = masks_below n mask few c.loop-mask-test.true in
    let ys = c.add_worth.new.totals in
    let long : length ys ≡ length c.loop-mask.totals.items =
    c.add_worth.auto.totals ∙ ap length c.deref_mut.ensures.value in
    let all : c.loop-mask.totals.len ≡ length ys = omega arith in
    let back =
    ap (λ (k : ℕ). take k (ys ++ drop (length ys) c.loop-mask.totals.items)) all
    ∙ take-append_seam ys (drop (length ys) c.loop-mask.totals.items) in
    let lt : mask < 2 ^ n = omega (arith, masks-few n few) in
    let worth = cast_kept w64 c.worth.result (rw c.worth.ensures (omega (arith, laws.small mask (rw count at lt)))) in
    rw back
    (totals_next game n mask c.loop-mask.totals.items ys laws count few lt (size_below-most n mask)
    c.loop-mask.invariant (long ∙ c.loop-mask.invariant.long)
    (rw (c.deref_mut.ensures.value, worth, c.worth.ensures) at c.add_worth.ensures))

pub returns-clause-value : goal.returns-clause-value
returns-clause-value g c = λ k lt.
    let game = g.W.Worth.game c.args.game.now in
    let n = c.players-n.result in
    let count = c.players-n.ensures.count in
    let end =
    masks_end n c.loop-mask.mask (omega arith) c.loop-mask.auto.mask-end
    c.loop-mask-test.false in
    c.loop-mask.invariant.value k (omega arith)
    ∙ ap (λ (m : ℕ). credits game.worth n k m) end
    ∙ ap (λ (m : ℕ). credits game.worth m k (2 ^ m)) count
    ∙ credits-total game k lt

pub returns-clause-small : goal.returns-clause-small
returns-clause-small g c =
    let n = c.players-n.result in
    let few : n ≤ 16 = omega arith in
    let end = masks_end n c.loop-mask.mask few c.loop-mask.auto.mask-end c.loop-mask-test.false in
    let top = masks-few n few in
    totals_small (g.W.Worth.game c.args.game.now) n c.loop-mask.mask c.loop-mask.totals.items
    (omega arith) c.loop-mask.invariant
