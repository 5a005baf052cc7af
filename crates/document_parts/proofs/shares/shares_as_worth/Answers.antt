use Rattle.std.proofs.Common.{All, sym, ◌∙◌, subst}
use Rattle.fractions.specs.Fraction.{IsReduced}
use Rattle.document_parts.proofs.LeastDenominators.{scaled_reduced}
use Rattle.document_parts.proofs.shares.shares_as_worth.Goals as goal

pub signed_shares-requires-clause-reduced : goal.signed_shares-requires-clause-reduced
signed_shares-requires-clause-reduced c =
    let written = rw c.in-Some.is at c.in_ok-numbers.ensures in
    subst (All IsReduced) (sym (c.deref.ensures.value ∙ written))
    (scaled_reduced c.args.scale c.args.written.now c.requires.reduced)
