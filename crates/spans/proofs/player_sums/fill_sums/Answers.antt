use Rattle.std.proofs.Common.{◌≡◌, ◌<◌, ◌^◌, ℕ, arith, subst, length, pos}
use Rattle.std.proofs.Common.{rules}
use Rattle.std.proofs.Common.{get_or-set_same}
use Rattle.spans.proofs.EightSums.{IsEightSum-empty}
use Rattle.spans.proofs.player_sums.fill_sums.Goals as goal
use Rattle.definitions.proofs.Masks.{masks-double}

pub loop-player-init : goal.loop-player-init
loop-player-init c = λ s lt.
    let first : s ≡ 0 = omega arith in
    let some : 0 < length c.args.sums.now = search rules in
    rw (first, get_or-set_same c.args.sums.now 0 (pos 0) (pos 0) some)
    (IsEightSum-empty c.args.numbers.now c.args.first)

pub loop-player-preserved : goal.loop-player-preserved
loop-player-preserved c = λ s lt.
    c.add_player.ensures s (subst (λ (k : ℕ). s < k) (masks-double c.loop-player.player) lt)

pub returns : goal.returns
returns c = λ s lt.
    let end : 8 ≡ c.loop-player.player = omega arith in
    c.loop-player.invariant s (subst (λ (k : ℕ). s < 2 ^ k) end lt)
