use Rattle.std.proofs.Common.{◌≡◌, ◌*◌, ◌^◌, ◌%◌, false, sym, ◌∙◌, rules}
use Rattle.definitions.specs.Coalitions.{has_player}
use Rattle.document_parts.proofs.Joining.{join_below}
use Rattle.document_parts.proofs.table.join.Goals as goal

pub returns-clause-within : goal.returns-clause-within
returns-clause-within c =
    let i = c.args.i in
    let shift : 1 * 2 ^ i % 18446744073709551616 ≡ 2 ^ i = search rules in
    let absent : has_player c.args.s i ≡ false = sym c.contains.ensures ∙ c.if-contains.false in
    let below = join_below c.args.players c.args.s i c.requires.player c.requires.within absent in
    rw shift (rw c.s.view_is below)
