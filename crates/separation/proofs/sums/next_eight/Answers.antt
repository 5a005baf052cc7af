use Rattle.std.proofs.Common.{◌≡◌, ◌≤◌, ◌<◌, ◌*◌, ◌-◌, ◌%◌, ◌^◌, ℕ, pos, slice_index_or}
use Rattle.std.proofs.Common.{subst, arith}
use Rattle.separation.specs.Values.{IsEight}
use Rattle.separation.proofs.Balance.{masks_of}
use Rattle.separation.proofs.Eights.{IsEight-next}
use Rattle.spans.proofs.EightSums.{last_below_eight}
use Rattle.separation.proofs.sums.next_eight.Goals as goal

pub returns : goal.returns
returns c =
    let num = c.args.m.now.num.items in
    let s = c.args.s in
    let last = c.ilog2-last.result in
    let lower : 2 ^ last ≤ s = c.ilog2-last.ensures.power_le in
    let upper : s < 2 * 2 ^ last = c.ilog2-last.ensures.next_power_gt in
    let eight : last < 8 = last_below_eight last s lower c.requires.few in
    let mask : 1 * 2 ^ last % 2 ^ 64 ≡ 2 ^ last = masks_of last (omega (arith, eight)) in
    let before : s - 1 * 2 ^ last % 2 ^ 64 < s = omega arith in
    let is = c.requires.before (s - 1 * 2 ^ last % 2 ^ 64) before in
    let is' =
    subst (λ (k : ℕ). IsEight num c.args.n c.args.first (s - k)
    (slice_index_or c.args.sums.now (s - 1 * 2 ^ last % 2 ^ 64) (pos 0))) mask is in
    IsEight-next num c.args.n c.args.first s last _ _ c.args.m.now.num_small c.requires.few lower upper is'
    c.player_multiplier.ensures.value c.player_multiplier.ensures.small
