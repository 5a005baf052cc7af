use Rattle.std.proofs.Common.{sym, ◌∙◌}
use Rattle.std.proofs.lemmas.Bool.{false≢true}
use Rattle.separation.proofs.stage.outer.Goals as goal

pub returns-then-contains : goal.returns-then-contains
returns-then-contains g c =
    ((c.requires.marks c.args.s).0 (sym c.contains.ensures ∙ c.if-contains.true), c.plain.ensures)

pub returns-else-contains : goal.returns-else-contains
returns-else-contains g c =
    λ out. false≢true (sym c.if-contains.false ∙ (c.contains.ensures ∙ (c.requires.marks c.args.s).1 out))
