use Rattle.std.proofs.Common.{pos, ◌<◌, ◌^◌, ◌≡◌, true, unsigned_abs, All}
use Rattle.std.proofs.lemmas.List.Elements.{All-from_get_or}
use Rattle.worth_core.proofs.shares.Shares.new.Goals as goal

pub returns-then-not-all_small : goal.returns-then-not-all_small
returns-then-not-all_small c = λ h.
    let all : All (λ z. unsigned_abs z < 2 ^ 110) c.args.num.items =
    All-from_get_or (λ z. unsigned_abs z < 2 ^ 110) c.args.num.items (pos 0) h.small in
    let passed : c.all_small.result ≡ true = c.all_small.ensures.1 (rw c.deref.ensures.value all) in
    let failed = c.if-not-all_small.true in
    (cc)
