-- The stage program behind levels that leave a player has an optimum: some weights solve it, and no ray raises its
-- cost.
use Rattle.std.proofs.Common.{◌≤◌, ◌≡◌, ◌⊎◌, ℕ, ◌^◌, ◌<◌, List, inl, inr, arith}
use Rattle.std.proofs.Math.Pow.{pow_pos, pow-lt}
use Rattle.definitions.specs.Coalitions.{singleton, grand_coalition}
use Rattle.definitions.specs.Certificates.{Level, IsFixedVector, IsOutside}
use Rattle.definitions.specs.Programs.{Program}
use Rattle.definitions.specs.declared.Mode.TheVariants.{Span}
use Rattle.simplex.specs.Answer.{IsAnswer, IsFault}
use Rattle.simplex.specs.declared.answer.Optimal.{Optimal}
use Rattle.simplex.specs.declared.solving.LpFault.{LpFault}
use Rattle.simplex.specs.declared.solving.LpFault.TheVariants.{NoSolution, Unbounded}
use Rattle.separation.specs.Same.{IsStage}
use Rattle.nested_programs.specs.Stage.{Stage, program_of}
use Rattle.nested_programs.specs.Stages.{IsLeft, IsBest, IsBounded}
use Rattle.nested_programs.proofs.Start.{some_solution}
use Rattle.kohlberg.proofs.SpanLaws.{span_of_one}
use Rattle.separation.proofs.SamePrograms.{ray_same, no_solution_same, answer_same}

-- a player alone that isn't spanned is outside
pub left_outside : (n : ℕ) (levels : List Level) (left : IsLeft n levels)
    → IsOutside Span n levels (singleton left.player)
left_outside n levels left =
    (pow_pos left.player, not_all (below_or_all (singleton left.player) (pow-lt left.below)), left.apart)
  where
    below_or_all : (s : ℕ) → s < 2 ^ n → (s < grand_coalition n) ⊎ (s ≡ grand_coalition n)
    below_or_all s lt = grind arith

    not_all : (singleton left.player < grand_coalition n) ⊎ (singleton left.player ≡ grand_coalition n)
        → singleton left.player < grand_coalition n
    not_all (inl lt) = lt
    not_all (inr e) = absurd (left.apart (span_of_one n (IsFixedVector n levels) (singleton left.player) (inl e)))

-- neither fault comes
pub no_fault : (q : Stage) (p : Program) (fault : LpFault) → q.game.players ≤ 16
    → IsStage q.family q.measure q.game q.front p → IsLeft q.game.players q.front → IsBounded q → IsFault p fault
    → ⊥
no_fault q p NoSolution few stage left bounded none =
    some_solution q stage.outside (singleton left.player) few (λ s o. (stage.decides s).1 o)
    (left_outside q.game.players q.front left) (no_solution_same p (program_of q stage.outside) stage.same none)
no_fault q p Unbounded few stage left bounded (solution, ray) =
    bounded stage.outside (λ s o. (stage.decides s).0 o) (ray_same p (program_of q stage.outside) stage.same ray)

pub best_of_answer : (q : Stage) (p : Program) (best : Optimal) → IsStage q.family q.measure q.game q.front p
    → IsAnswer p best.weights.items best.weight_den best.multipliers.num.items best.multipliers.den → IsBest q best
best_of_answer q p best stage answer = record {
  outside = stage.outside;
  decides = stage.decides;
  answer = answer_same p (program_of q stage.outside) stage.same _ _ _ _ answer;
}
