use Rattle.std.proofs.Common.{◌∙◌, refl, arith}
use Rattle.std.proofs.lemmas.Int.{to_z-of_z}
use Rattle.definitions.proofs.Casts.{cast_kept}
use mir.Syntax.{w128}
use Rattle.voting.proofs.layer.Layer.excess_at.Goals as goal

pub returns : goal.returns
returns c =
    let kept = to_z-of_z w128 c.from_quota.result (record { sfits = c.from_quota.type_inv }) in
    let more = cast_kept w128 c.args.more (omega arith) in
    c.plus.ensures.value ∙ rw (c.at.ensures, kept ∙ c.from_quota.ensures, more) refl
