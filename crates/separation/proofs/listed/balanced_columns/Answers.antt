use Rattle.std.proofs.Common.{◌≡◌, ◌*◌, ◌%◌, ◌^◌, arith}
use Rattle.separation.proofs.Balance.{masks_of}
use Rattle.separation.proofs.listed.balanced_columns.Goals as goal

pub returns : goal.returns
returns g c =
    let count = c.players.ensures.count in
    let few = c.requires in
    let m : 1 * 2 ^ c.players.result % 2 ^ 64 ≡ 2 ^ c.players.result =
    masks_of c.players.result (omega arith) in
    let full : c.loop-s.s ≡ 2 ^ c.players.result = omega arith in
    cc (c.loop-s.invariant)
