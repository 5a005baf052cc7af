-- Bird's shares if each link of a network costs k times as much, as in another unit of money (Bird 1976). The law is
-- the contract of a function of this crate.
--
--   BirdTimes   the Bird plan stays, and each player pays k times as much
use Rattle.std.specs.Prelude.{◌↔◌, ℕ, ◌≤◌, List, pos}
use Rattle.definitions.specs.Classes.{Matrix, IsBirdPlan, IsBirdShares}
use Rattle.definitions.specs.Games.{Allocation}
use Rattle.definitions.specs.Scales.{times}
use Rattle.law_answers.specs.CommonScales.{matrix_times}

-- the plans are the same, and the shares are times k
abbrev pub BirdTimes : Type 0
BirdTimes =
    (k : ℕ) (matrix : Matrix) (s : ℕ) (plan : List (ℕ × ℕ)) (x : Allocation) → 1 ≤ k →
    (IsBirdPlan matrix s plan ↔ IsBirdPlan (matrix_times k matrix) s plan)
    × (IsBirdShares matrix plan x → IsBirdShares (matrix_times k matrix) plan (times (pos k) x))
