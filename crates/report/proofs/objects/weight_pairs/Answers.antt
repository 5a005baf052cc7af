use Rattle.std.proofs.Common.{[], ◌∷◌, ◌++◌, map, ap, sym, subst, ◌∙◌, arith}
use mir.Syntax.{w128}
use Rattle.serde_json.specs.View.{view}
use Rattle.definitions.specs.Certificates.{IsSmall}
use Rattle.definitions.proofs.Casts.{cast_kept}
use Rattle.report.specs.Certificates.{weight_pair}
use Rattle.report.proofs.Lists.{all_at, mapped_more}
use Rattle.report.proofs.objects.weight_pairs.Goals as goal

pub weight_pair-requires : goal.weight_pair-requires
weight_pair-requires g c =
    let item = c.loop-key-item.result in
    let small : IsSmall item.1 =
    subst (λ p. IsSmall p.1) (sym c.loop-key-item.is)
    (all_at (λ p. IsSmall p.1) item c.args.pairs.now c.loop-key.key-index (omega arith) c.requires) in
    rw (cast_kept w128 item.1 (omega (arith, small))) small

pub loop-key-preserved : goal.loop-key-preserved
loop-key-preserved g c =
    let item = c.loop-key-item.result in
    let small : IsSmall item.1 =
    subst (λ p. IsSmall p.1) (sym c.loop-key-item.is)
    (all_at (λ p. IsSmall p.1) item c.args.pairs.now c.loop-key.key-index (omega arith) c.requires) in
    let kept = rw (cast_kept w128 item.1 (omega (arith, small))) at c.in_ok-weight_pair.ensures in
    let tree = kept ∙ ap (weight_pair g.K.Weighted.tree) c.loop-key-item.is in
    ap (map view) {y = c.loop-key.trees.items ++ c.in_ok-weight_pair.field-0 ∷ []} c.in_ok-push.ensures.items
    ∙ mapped_more view (weight_pair g.K.Weighted.tree) c.args.pairs.now c.loop-key.trees.items
    c.loop-key.key-index item c.in_ok-weight_pair.field-0 (omega arith) c.loop-key.invariant tree
