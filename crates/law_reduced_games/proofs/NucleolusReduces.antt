-- If the core isn't empty, it has the nucleolus, which is the prenucleolus; and so in the reduced game, in whose
-- core the shares of those who stay are.
use Rattle.std.proofs.Common.{ℕ, refl, inl}
use Rattle.definitions.specs.Games.{Game, Allocation, InCore, IsNucleolus}
use Rattle.definitions.specs.declared.Family.{Family}
use Rattle.definitions.specs.declared.Family.TheVariants.{Imputations, Preimputations}
use Rattle.definitions.specs.declared.Measure.TheVariants.{Plain}
use Rattle.law_answers.proofs.NucleolusIsInCore.{nucleolus_in_core}
use Rattle.law_answers.proofs.WithACoreBothAreOne.{both_are_one}
use Rattle.law_reduced_games.specs.ReducedGames.{AreSome, staying_shares, IsReducedGame, NucleolusReduces}
use Rattle.law_reduced_games.proofs.PrekernelAndCoreReduce.{core_reduces}
use Rattle.law_reduced_games.proofs.ReducedGameProperty.{reduced_game_property}

pub nucleolus_reduces : NucleolusReduces
nucleolus_reduces m who g h x z a r core is =
    let y = staying_shares m who x in
    let there = core_reduces m who g h x a r (nucleolus_in_core Imputations Plain g x z (inl refl) is core) in
    (both_are_one Plain h y y (inl refl) there).0
    (reduced_game_property m who g h x a r ((both_are_one Plain g x z (inl refl) core).1 is))

-- the same of both families
pub both_reduce : (family : Family) (m : ℕ) (who : ℕ → ℕ) (g h : Game) (x z : Allocation) → AreSome g.players m who
    → IsReducedGame m who g x h → InCore g z → IsNucleolus family Plain g x
    → IsNucleolus family Plain h (staying_shares m who x)
both_reduce Imputations m who g h x z a r core is = nucleolus_reduces m who g h x z a r core is
both_reduce Preimputations m who g h x z a r core is = reduced_game_property m who g h x a r is
