use Rattle.std.proofs.Common.{sym, ◌∙◌, arith}
use Rattle.std.proofs.lemmas.Bool.{false≢true}
use Rattle.coop.proofs.Requests.{size_is_none}
use Rattle.coop.proofs.words.generation.Goals as goal
use Rattle.coop.proofs.words.generation.Goals.{else-has_size-via-then-has_size+else-seed}
use Rattle.coop.proofs.words.generation.Goals.{else-has_size-via-else-has_size}

pub returns-else-has_size : goal.returns-else-has_size
returns-else-has_size c =
    size_is_none _ _ _ _ c.in_ok-kind.kind c.in_ok-players.players c.in_ok-seed.seed c.in_ok-kind.ensures
    c.in_ok-players.ensures.value c.in_ok-seed.ensures.value c.in_ok-players.ensures.small
    c.in_ok-seed.ensures.small (λ fits. elim c.else-has_size.branch [
      | else-has_size-via-then-has_size+else-seed w ↦ omega (arith, w.if-seed.false, fits.1)
      | else-has_size-via-else-has_size w ↦ false≢true (sym w.if-has_size.false ∙ c.has_size.ensures.1 fits.0)
    ])
