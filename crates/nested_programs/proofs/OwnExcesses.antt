-- The excess of each level of a chain, which is the optimum of its own stage, is what multipliers that settle all
-- levels have in its row.
use Rattle.std.proofs.Common.{◌≡◌, List, [], ◌∷◌, length, ℤ, pos, ◌*ℤ◌, ◌≤ℤ◌}
use Rattle.std.proofs.Common.{sym, subst, arith}
use Rattle.std.proofs.lemmas.List.{append_assoc, length-append}
use Rattle.definitions.proofs.Ring.{linear, mul-cancelℤ, mul_ends_exchangedℤ}
use Rattle.nested_programs.specs.Stage.{Stage, with_front, behind}
use Rattle.nested_programs.specs.Reading.{RowMultipliers, excess_of}
use Rattle.nested_programs.specs.Chain.{StageAnswer, levels_of, IsChain, HaveExcesses, after}
use Rattle.nested_programs.specs.Stages.{OwnExcesses}
use Rattle.nested_programs.proofs.Advance.{Reads}
use Rattle.nested_programs.proofs.Chain.{excess_optimum}

-- fractions a / b and e / c that are both f / d are the same
common_value : (a b c d e f : ℤ) → pos 1 ≤ℤ d → a *ℤ d ≡ f *ℤ b → e *ℤ d ≡ f *ℤ c → a *ℤ c ≡ e *ℤ b
common_value a b c d e f one h k =
    mul-cancelℤ d (a *ℤ c) (e *ℤ b) (omega (arith, linear, one))
    (cc (mul_ends_exchangedℤ d a c, mul_ends_exchangedℤ c f b, mul_ends_exchangedℤ b e d))

pub have_excesses : (q : Stage) (ts : List StageAnswer) (m : RowMultipliers) → IsChain q ts
    → Reads (behind q (levels_of ts)) m → OwnExcesses q.game (length q.front) ts
    → HaveExcesses q.game m (length q.front) (levels_of ts)
have_excesses q [] m chain r own = tt
have_excesses q (t ∷ ts) m chain r own =
    let r' =
    subst (λ ls. Reads (with_front q ls) m) (sym (append_assoc q.front (t.level ∷ []) (levels_of ts))) r in
    let rest =
    have_excesses (after q t) ts m chain.1 r' (rw (length-append q.front (t.level ∷ [])) own.2) in (
      common_value t.level.excess_num t.level.excess_den m.den t.multipliers.den
          (excess_of q.game.players m (length q.front))
          (excess_of q.game.players t.multipliers (length q.front)) chain.0.optimal.1.0 own.0
          (excess_optimum q t (levels_of ts) m chain.0 r'),
      own.1,
      rw (length-append q.front (t.level ∷ [])) at rest,
    )
