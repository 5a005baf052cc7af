-- The levels of a certificate can be printed.
use Rattle.std.proofs.Common.{ℕ, List, [], ◌∷◌, ◌++◌}
use Rattle.std.specs.List.{AllByRecursion}
use Rattle.definitions.specs.Certificates.{Level, LevelForm, LevelsForm, IsSmall}
use Rattle.report.specs.Limits.{HasSmallWeights}
use Rattle.definitions.proofs.Alls.{all_left, all_right}

pub small_level : (n : ℕ) (front : List Level) (l : Level) → LevelForm n front l → HasSmallWeights l
small_level n front l h =
    let front = all_left (λ p. IsSmall p.1) (l.coalitions ++ l.earlier) l.bounds h.small in
    record {
      coalitions = all_left (λ p. IsSmall p.1) l.coalitions l.earlier front;
      earlier = all_right (λ p. IsSmall p.1) l.coalitions l.earlier front;
      bounds = all_right (λ p. IsSmall p.1) (l.coalitions ++ l.earlier) l.bounds h.small;
      total = h.total_small;
    }

pub small_levels : (n : ℕ) (front levels : List Level) → LevelsForm n front levels
    → AllByRecursion HasSmallWeights levels
small_levels n front [] h = tt
small_levels n front (l ∷ levels) h = (small_level n front l h.0, small_levels n (front ++ l ∷ []) levels h.1)
