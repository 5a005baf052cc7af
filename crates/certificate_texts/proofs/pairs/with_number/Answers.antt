use Rattle.std.proofs.Common.{◌≡◌, ◌-◌, ◌*◌, ◌^◌, ◌%◌, rules}
use Rattle.certificate_texts.proofs.Ascents.{bit_above}
use Rattle.certificate_texts.proofs.pairs.with_number.Goals as goal

pub returns-clause-small : goal.returns-clause-small
returns-clause-small c =
    let shift : 1 * 2 ^ (c.args.number - 1) % 18446744073709551616 ≡ 2 ^ (c.args.number - 1) = search rules in
    rw shift (bit_above c.args.mask c.args.low c.args.number c.requires.above c.requires.small)
