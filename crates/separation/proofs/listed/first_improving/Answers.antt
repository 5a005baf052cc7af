use Rattle.std.proofs.Common.{◌≡◌, ◌<◌, length, rules, None}
use Rattle.std.proofs.lemmas.List.{get_or_read}
use Rattle.separation.specs.Kept.{column_at}
use Rattle.separation.proofs.listed.first_improving.Goals as goal

pub improves-requires-clause-within : goal.improves-requires-clause-within
improves-requires-clause-within c =
    let lt : c.loop-id.id < length c.args.columns.now = search rules in
    let e : c.index-columns-id.result ≡ column_at c.args.columns.now c.loop-id.id =
    get_or_read c.args.columns.now c.loop-id.id c.index-columns-id.result lt c.index-columns-id.is None in
    rw e (c.requires.within c.loop-id.id)
