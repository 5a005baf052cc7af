-- The levels of all stages certify shares that are the multipliers of the last stage.
use Rattle.std.proofs.Common.{List, [], ◌∷◌, Some}
use Rattle.definitions.specs.Measures.{IsMeasurable}
use Rattle.definitions.specs.Games.{Allocation}
use Rattle.definitions.specs.Certificates.{IsAllFixed, Certifies}
use Rattle.definitions.specs.declared.Mode.TheVariants.{Span}
use Rattle.simplex.specs.declared.multipliers.Multipliers.{Multipliers}
use Rattle.separation.specs.Shares.{IsReadFrom}
use Rattle.nested_programs.specs.Stage.{Stage, with_front}
use Rattle.nested_programs.specs.Chain.{StageAnswer, levels_of, IsChain, last_of}
use Rattle.nested_programs.specs.Stages.{OwnExcesses, AreLast, AreDone}
use Rattle.nested_programs.proofs.Certify.{last_reads, chain_certified}
use Rattle.nested_programs.proofs.OwnExcesses.{have_excesses}

chain_end : (q : Stage) (ts : List StageAnswer) (m : Multipliers) (x : Allocation)
    → IsMeasurable q.measure q.game.players → IsChain (with_front q []) ts → OwnExcesses q.game 0 ts
    → AreLast ts (Some m) → IsAllFixed Span q.game.players (levels_of ts)
    → IsReadFrom q.game.players m.num.items m.den x → Certifies Span q.family q.measure q.game x (levels_of ts)
chain_end q [] m x has chain own last fixed read = absurd last
chain_end q (t ∷ ts) m x has chain own last fixed read =
    chain_certified q t ts x has chain fixed (rw last read)
    (have_excesses (with_front q []) (t ∷ ts) (last_of t ts).multipliers chain
    (last_reads (with_front q []) t ts chain.0 chain.1) own)

pub last_certifies : (q : Stage) (m : Multipliers) (x : Allocation) → IsMeasurable q.measure q.game.players
    → AreDone q (Some m) → IsReadFrom q.game.players m.num.items m.den x
    → Certifies Span q.family q.measure q.game x q.front
last_certifies q m x has done read =
    let s = done.stages in
    rw s.levels_are (chain_end q s.stages m x has s.chain s.own s.last_is (rw s.levels_are at done.all) read)
