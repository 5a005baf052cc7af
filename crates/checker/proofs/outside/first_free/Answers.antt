use Rattle.std.proofs.Common.{refl}
use Rattle.std.proofs.lemmas.Bool.{false≢true}
use Rattle.checker.proofs.Free.{found_first, all_fixed_from}
use Rattle.checker.proofs.outside.first_free.Goals as goal

pub returns-then-has_two : goal.returns-then-has_two
returns-then-has_two c =
    λ levels h. found_first c.args.n levels c.args.free c.first_member.result h (c.if-has_two.ensures.0 refl)
    c.first_member.ensures

pub returns-else-has_two : goal.returns-else-has_two
returns-else-has_two c =
    λ levels h. all_fixed_from c.args.n levels c.args.free h (λ two. false≢true (c.if-has_two.ensures.1 two))
