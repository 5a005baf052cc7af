-- Each level of a chain settles more than the levels in front of it.
use Rattle.std.proofs.Common.{List, [], ◌∷◌}
use Rattle.definitions.specs.Certificates.{LevelsForm}
use Rattle.simplex.specs.declared.multipliers.Multipliers.{Multipliers}
use Rattle.std.specs.Prelude.{Option}
use Rattle.nested_programs.specs.Stage.{Stage, with_front}
use Rattle.nested_programs.specs.Answer.{SettleMore}
use Rattle.nested_programs.specs.Chain.{StageAnswer, levels_of, IsChain, after}
use Rattle.nested_programs.specs.Stages.{AreDone}
use Rattle.nested_programs.proofs.Form.{level_outside}

chain_settles_more : (q : Stage) (ts : List StageAnswer) → IsChain q ts
    → LevelsForm q.game.players q.front (levels_of ts) → SettleMore q.game.players q.front (levels_of ts)
chain_settles_more q [] chain form = tt
chain_settles_more q (t ∷ ts) chain form = (
  record { some = form.0.some; outside = level_outside q t chain.0 },
  chain_settles_more (after q t) ts chain.1 form.1,
)

pub settle_more : (q : Stage) (last : Option Multipliers) → AreDone q last → SettleMore q.game.players [] q.front
settle_more q last done =
    let s = done.stages in
    rw s.levels_are (chain_settles_more (with_front q []) s.stages s.chain
    (rw s.levels_are at done.form))
