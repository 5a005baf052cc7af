use Rattle.std.proofs.Common.{map, ap, sym, subst, ◌∙◌, arith}
use Rattle.serde_json.specs.View.{view}
use Rattle.serde_json.specs.declared.value.Value.{Object}
use Rattle.serde_json.proofs.Views.{view-Object}
use Rattle.definitions.specs.Certificates.{Level}
use Rattle.report.specs.Certificates.{level_tree}
use Rattle.report.specs.Limits.{IsFine, HasSmallWeights}
use Rattle.report.proofs.Lists.{all_at, mapped_more}
use Rattle.report.proofs.nucleolus.level_trees.Goals as goal

pub level_members-requires-clause-small : goal.level_members-requires-clause-small
level_members-requires-clause-small c =
    subst HasSmallWeights (sym c.level-item.is)
    (all_at HasSmallWeights c.level-item.result c.args.levels.now c.loop-level.level-index (omega arith)
    c.requires.small)

pub level_members-requires-clause-fine : goal.level_members-requires-clause-fine
level_members-requires-clause-fine c =
    subst (λ (l : Level). IsFine l.excess_den) (sym c.level-item.is)
    (all_at (λ l. IsFine l.excess_den) c.level-item.result c.args.levels.now c.loop-level.level-index
    (omega arith) c.requires.fine)

pub loop-level-preserved : goal.loop-level-preserved
loop-level-preserved c =
    let tree =
    view-Object c.in_ok-members.members ∙ c.in_ok-members.ensures
    ∙ ap (level_tree c.args.scale) c.level-item.is in
    ap (map view) c.in_ok-push.ensures.items
    ∙ mapped_more view (level_tree c.args.scale) c.args.levels.now c.loop-level.trees.items
    c.loop-level.level-index c.level-item.result (Object c.in_ok-members.members) (omega arith)
    c.loop-level.invariant tree
