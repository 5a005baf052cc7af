use Rattle.std.proofs.Common.{arith, ap, ◌∙◌, ℕ, ◌≡◌, ◌-◌, ◌*◌, ◌%◌, ◌^◌}
use Rattle.std.proofs.Common.{◌<◌, [], ◌∷◌, ◌++◌}
use Rattle.std.proofs.Common.{replicate, refl, set, pos, ℤ, to_z, of_z, length}
use Rattle.std.proofs.lemmas.List.{length-replicate}
use mir.Syntax.{w128}
use Rattle.definitions.proofs.Casts.{cast_kept}
use Rattle.definitions.proofs.Given.{is_some}
use Rattle.definitions.proofs.Masks.{grand_coalition-within}
use Rattle.definitions.specs.Coalitions.{grand_coalition}
use Rattle.definitions.specs.Games.{IsShares}
use Rattle.worth_core.specs.Allocations.{allocation}
use Rattle.matrices.specs.Rows.{entries_of}
use Rattle.tree_games.proofs.PrimLoop.{doubled}
use Rattle.tree_games.proofs.BirdLoop.{bird_start, pair_taken, bird_takes, bird_end, bird_shares}
use Rattle.tree_games.proofs.tree_game.TreeGame.bird.Goals as goal

pub loop-k-init : goal.loop-k-init
loop-k-init c =
    let t = c.args.self.now in
    let num = c.in_ok-num.num.items in
    let len : c.points-points.result - 1 ≡ length t - 1 = omega arith in
    let made = c.in_ok-num.ensures.items_if_clones_equal (λ y e. e) in
    let all = c.waiting.view_is ∙ c.all.ensures ∙ ap grand_coalition len in
    let twice =
    doubled (length t) (grand_coalition (length t - 1)) c.waiting.inside.0 (omega arith)
    (grand_coalition-within (length t - 1)) all in
    rw c.new-edges.ensures.items
    (bird_start t num (c.waiting.inside.0 * 2 % 2 ^ 64) c.points-points.ensures.laws
    (ap length made ∙ length-replicate (c.points-points.result - 1) (pos 0) ∙ len)
    (made ∙ ap (λ (n : ℕ). replicate n (pos 0)) len) twice)

pub overflow_sub-player : goal.overflow_sub-player
overflow_sub-player c =
    let t = c.args.self.now in
    let taken =
    pair_taken t c.loop-k._k c.loop-k.num.items c.loop-k.edges.items c.loop-k.connected c.loop-k.waiting
    c.next_end-end.result c.nearest-player.result c.loop-k.invariant
    (omega arith)
    c.next_end-end.ensures.value c.nearest-player.ensures.value in
    (c.loop-k.invariant.far c.nearest-player.result taken.1).0

pub loop-k-preserved : goal.loop-k-preserved
loop-k-preserved c =
    let t = c.args.self.now in
    let end = c.next_end-end.result in
    let player = c.nearest-player.result in
    let num = c.loop-k.num.items in
    let edges = c.loop-k.edges.items in
    let v = c.owed.result in
    let cost = pos (entries_of t end player) in
    let lt : c.loop-k._k < length t - 1 =
    omega arith in
    let taken =
    pair_taken t c.loop-k._k num edges c.loop-k.connected c.loop-k.waiting end player c.loop-k.invariant lt
    c.next_end-end.ensures.value c.nearest-player.ensures.value in
    let kept : to_z w128 (of_z w128 v) ≡ v = cast_kept w128 v (omega arith) in
    let pushed : c.push.new.self.items ≡ edges ++ (end, player, cost) ∷ [] =
    c.in_ok-push.ensures.items ∙ ap (λ (e : ℕ × ℕ × ℤ). edges ++ e ∷ []) c.edge.ensures in
    bird_takes t c.loop-k._k num (set num (player - 1) (to_z w128 (of_z w128 v))) edges c.push.new.self.items
    c.loop-k.connected c.with-connected.result c.loop-k.waiting c.without-waiting.result end player v cost
    c.points-points.ensures.laws c.loop-k.invariant lt taken c.with-connected.ensures c.without-waiting.ensures
    (ap (λ (z : ℤ). set num (player - 1) z) kept) c.owed.ensures.value pushed refl

pub unwrap-shares-requires : goal.unwrap-shares-requires
unwrap-shares-requires c =
    let t = c.args.self.now in
    is_some (IsShares (allocation c.loop-k.num.items (pos 1))) _ c.new.result c.new.ensures
    (bird_shares t c.loop-k._k c.loop-k.num.items c.loop-k.edges.items c.loop-k.connected c.loop-k.waiting
    c.points-points.ensures.laws c.loop-k.invariant)

pub returns : goal.returns
returns c =
    let t = c.args.self.now in
    let new = rw c.unwrap-shares.ensures at c.new.ensures in
    rw new.0 (bird_end t c.loop-k._k c.loop-k.num.items c.loop-k.edges.items c.loop-k.connected c.loop-k.waiting
    c.points-points.ensures.laws c.loop-k.invariant (omega arith))
