-- That the nucleolus exists if worths are real numbers (Schmeidler 1969; Peleg and Sudhölter).
--
--   NucleoliExist      if there is an imputation, one of them is the nucleolus; the same of preimputations
--   PrenucleoliExist   each game with a player has a prenucleolus
--   ImputationsExist   there is an imputation exactly when the players alone aren't worth more than all together
use Rattle.std.specs.Prelude.{◌↔◌, ◌≤◌, List}
use Rattle.definitions.specs.Coalitions.{singleton, grand_coalition}
use Rattle.definitions.specs.declared.Family.{Family}
use Rattle.definitions.specs.declared.Family.TheVariants.{Imputations, Preimputations}
use Rattle.real_shares.specs.Numbers.{Numbers, AtMost, total_below}
use Rattle.real_shares.specs.Reals.{Real, AreReals}
use Rattle.law_real_worths.specs.Games.{NumberGame, InFamilyIn, IsNucleolusIn}

abbrev pub NucleoliExist : Type 0
NucleoliExist =
    (N : Numbers Real) (family : Family) (g : NumberGame Real) (y : List Real) → AreReals N →
    InFamilyIn N family g y → (x : List Real) × IsNucleolusIn N family g x

abbrev pub PrenucleoliExist : Type 0
PrenucleoliExist =
    (N : Numbers Real) (g : NumberGame Real) → AreReals N → 1 ≤ g.players →
    (x : List Real) × IsNucleolusIn N Preimputations g x

abbrev pub ImputationsExist : Type 0
ImputationsExist =
    (N : Numbers Real) (g : NumberGame Real) → AreReals N → 1 ≤ g.players →
    ((y : List Real) × InFamilyIn N Imputations g y)
    ↔ AtMost N (total_below N g.players (λ i. g.worth (singleton i))) (g.worth (grand_coalition g.players))
