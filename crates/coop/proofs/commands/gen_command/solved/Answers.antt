use Rattle.std.proofs.Common.{subst}
use Rattle.definitions.specs.Games.{IsNucleolus}
use Rattle.definitions.specs.declared.Family.TheVariants.{Imputations}
use Rattle.definitions.specs.declared.Measure.TheVariants.{Plain}
use Rattle.game_text.specs.Classes.{game_of, description_in}
use Rattle.coop.proofs.commands.gen_command.solved.Goals as goal

pub returns-in-Some-clause-nucleolus : goal.returns-in-Some-clause-nucleolus
returns-in-Some-clause-nucleolus c =
    let same = rw c.in-Some.is at c.in_ok-kept.ensures.same in
    subst (λ g. IsNucleolus Imputations Plain (game_of (description_in g)) c.checked.result.0) same
    c.checked.ensures.nucleolus
