use Rattle.std.proofs.Common.{◌≡◌, ◌≤◌, ◌<◌, ◌*◌, ◌+◌, ◌-◌, ◌%◌, ◌^◌, ℕ, ℤ}
use Rattle.std.proofs.Common.{pos, ◌+ℤ◌, slice_index_or, slice_set}
use Rattle.std.proofs.Common.{length, length-set, to_z, of_z, arith, ap, sym, subst, ◌∙◌}
use Rattle.std.proofs.lemmas.Nat.{one_shl}
use mir.Syntax.{w64}
use Rattle.spans.specs.Sums.{number_at, eight_sum, IsEightSum}
use Rattle.spans.proofs.EightSums.{added_in_64, eight_sum-last, filled_below, IsEightSum-is, size_below_256}
use Rattle.spans.proofs.player_sums.add_player.Goals as goal

pub overflow_add-sums : goal.overflow_add-sums
overflow_add-sums c =
    let mask : 1 * 2 ^ c.args.player % 2 ^ 64 ≡ 2 ^ c.args.player =
    one_shl c.args.player 64 (let few = c.requires.player in omega (arith, few)) in
    let s = c.loop-s.s in
    let few : s < 2 ^ c.args.player + s = omega (arith, mask, c.loop-s-test.true) in
    let small = (c.loop-s.invariant.done s few).small (2 ^ 58) c.requires.numbers in
    let added = c.requires.numbers (c.args.first + c.args.player) in
    (added_in_64 (slice_index_or c.loop-s.sums s (pos 0)) (number_at c.args.numbers.now (c.args.first + c.args.player))
    (omega (arith, small)) (omega (arith, added))).0

pub loop-s-preserved : goal.loop-s-preserved
loop-s-preserved c =
    let numbers = c.args.numbers.now in
    let first = c.args.first in
    let player = c.args.player in
    let sums = c.loop-s.sums in
    let s = c.loop-s.s in
    let inv = c.loop-s.invariant in
    let mask : 1 * 2 ^ player % 2 ^ 64 ≡ 2 ^ player =
    one_shl player 64 (let few = c.requires.player in omega (arith, few)) in
    let half : 2 ^ player ≤ 128 = size_below_256 player c.requires.player in
    let below : s < 2 ^ player = omega (arith, mask, c.loop-s-test.true) in
    let before = inv.done s (omega (arith, below)) in
    let small = before.small (2 ^ 58) c.requires.numbers in
    let added = c.requires.numbers (first + player) in
    let v =
    to_z w64
    (of_z w64
    (to_z w64 (of_z w64 (slice_index_or sums s (pos 0)))
    +ℤ to_z w64 (of_z w64 (number_at numbers (first + player))))) in
    let rest : 2 ^ player + s - 2 ^ player ≡ s = omega arith in
    let is : IsEightSum numbers first (2 ^ player + s) v =
    IsEightSum-is numbers first (2 ^ player + s) v
    ((added_in_64 (slice_index_or sums s (pos 0)) (number_at numbers (first + player)) (omega (arith, small))
    (omega (arith, added))).1
    ∙ ap (λ (z : ℤ). z +ℤ number_at numbers (first + player)) before.value
    ∙ ap (λ (t : ℕ). eight_sum numbers first t +ℤ number_at numbers (first + player)) (sym rest)
    ∙ eight_sum-last numbers first (2 ^ player + s) player (omega (arith, half, below)) (omega arith)
    (omega (arith, below))) in
    let place : 1 * 2 ^ player % 2 ^ 64 + s ≡ 2 ^ player + s = omega (arith, mask) in
    let next : 2 ^ player + s + 1 ≡ 2 ^ player + (s + 1) = omega arith in
    let len : 2 ^ player + s < length sums = omega (arith, inv.len, half, below) in
    let filled =
    filled_below (λ t z. IsEightSum numbers first t z) sums (2 ^ player + s) v len is inv.done in
    record {
      len = length-set sums (1 * 2 ^ player % 2 ^ 64 + s) v ∙ inv.len;
      done = λ t lt.
          subst (λ (i : ℕ). IsEightSum numbers first t (slice_index_or (slice_set sums i v) t (pos 0))) (sym place)
          (filled t (omega (arith, lt)));
    }

pub returns : goal.returns
returns c = λ t lt.
    let mask : 1 * 2 ^ c.args.player % 2 ^ 64 ≡ 2 ^ c.args.player =
    one_shl c.args.player 64 (let few = c.requires.player in omega (arith, few)) in
    c.loop-s.invariant.done t (omega (arith, mask, lt, c.loop-s-test.false))
