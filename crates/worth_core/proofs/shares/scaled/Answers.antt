use Rattle.std.proofs.Common.{arith, ◌*ℤ◌}
use Rattle.std.proofs.lemmas.Int.{fits_signed_from_abs}
use Rattle.worth_core.proofs.Casts.{product_small, scaled_value}
use mir.Syntax.{w128}
use Rattle.worth_core.proofs.shares.scaled.Goals as goal
use Rattle.definitions.proofs.Casts.{cast_kept}

pub overflow_mul-result : goal.overflow_mul-result
overflow_mul-result c =
    let small = product_small c.args.den c.args.worth c.requires.positive c.requires.common c.requires.small in
    rw (scaled_value c.args.den c.args.worth c.requires.positive c.requires.common c.requires.small)
    (fits_signed_from_abs w128 _ (omega arith))

pub returns-clause-value : goal.returns-clause-value
returns-clause-value c =
    let small = product_small c.args.den c.args.worth c.requires.positive c.requires.common c.requires.small in
    rw (scaled_value c.args.den c.args.worth c.requires.positive c.requires.common c.requires.small)
    (cast_kept w128 _ (omega arith))

pub returns-clause-small : goal.returns-clause-small
returns-clause-small c =
    let small = product_small c.args.den c.args.worth c.requires.positive c.requires.common c.requires.small in
    let kept = cast_kept w128 (c.args.den *ℤ c.args.worth) (omega arith) in
    rw (scaled_value c.args.den c.args.worth c.requires.positive c.requires.common c.requires.small, kept) small
