use Rattle.std.proofs.Common.{ℕ, ◌<◌, ◌^◌, FitsSigned, arith, rules}
use Rattle.std.proofs.lemmas.Int.{to_z-of_z}
use Rattle.std.proofs.lemmas.Nat.{one_shl}
use mir.Syntax.{w64}
use Rattle.convexity.specs.Search.{HoldsAt}
use Rattle.convexity.proofs.Search.{convex_from, first_failure, one_more}
use Rattle.convexity.proofs.failures.test.Goals as goal

pub first_pair-requires : goal.first_pair-requires
first_pair-requires g c =
    let count = c.players.ensures.count in
    let shl = one_shl c.players.result 64 (omega (arith, count, c.requires)) in
    let below : c.loop-mask.mask < 2 ^ c.players.result = omega (arith, shl, c.loop-mask-test.true) in
    record { few = c.requires; within = rw count at below }

pub loop-mask-init : goal.loop-mask-init
loop-mask-init g c = λ t lt. absurd (omega (arith, lt))

pub loop-mask-preserved : goal.loop-mask-preserved
loop-mask-preserved g c =
    one_more (λ t. (k m : ℕ) → k < m → HoldsAt (g.W.Worth.game c.args.game.now) t k m) c.loop-mask.mask
    c.loop-mask.invariant (c.in_default.ensures {u = tt})

pub returns-in-Some : goal.returns-in-Some
returns-in-Some g c =
    let pair = c.in-Some.pair in
    let fits : FitsSigned w64 c.in-Some.pair.deficit = search rules in
    rw (to_z-of_z w64 pair.deficit fits)
    (first_failure (g.W.Worth.game c.args.game.now) c.loop-mask.mask pair.i pair.j pair.deficit
    c.loop-mask.invariant (c.in-Some.ensures {u = tt}))

pub returns : goal.returns
returns g c =
    let game = g.W.Worth.game c.args.game.now in
    let count = c.players.ensures.count in
    let few = c.requires in
    let shl = one_shl c.players.result 64 (omega (arith, count, few)) in
    let end = c.loop-mask-test.false in
    convex_from game (λ s lt i j less.
    let below : s < 2 ^ c.players.result = rw count lt in
    c.loop-mask.invariant s (omega (arith, below, shl, end)) i j less)
