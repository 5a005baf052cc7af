use Rattle.talmud.proofs.Cuts.{all-cut_small}
use Rattle.talmud.proofs.cut_claims.CutClaims.new.Goals as goal

pub new-requires-clause-small : goal.new-requires-clause-small
new-requires-clause-small c =
    all-cut_small c.args.game.now c.cuts.ensures.laws c.in_ok-cuts.field-0.items c.in_ok-cuts.ensures.cuts
