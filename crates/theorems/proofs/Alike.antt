-- A game over a scale and the game of its whole numbers agree.
use Rattle.std.proofs.Common.{ℤ, pos, ◌≤ℤ◌}
use Rattle.theorems.proofs.Scaled.{excess_times, family_to, family_from, same_to, same_from, beats_to, beats_from}
use Rattle.theorems.proofs.Scaled.{nucleolus_to, nucleolus_from, blocks_to, blocks_from, core_to, core_from, blocker_to}
use Rattle.theorems.proofs.Scaled.{blocker_from}
use Rattle.theorems.proofs.ScaledLevels.{certifies_to, certifies_from}
use Rattle.definitions.specs.Games.{Game, Allocation}
use Rattle.definitions.specs.Scales.{AreAlike}

pub alike : (k : ℤ) (g : Game) (x : Allocation) → pos 1 ≤ℤ k → AreAlike k g x
alike k g x p = record {
  excess = excess_times k g x;
  family = λ f. (family_to k f g x, family_from k f g x);
  same = λ y. (same_to k g x y, same_from k g x y p);
  beats = λ measure y. (beats_to k measure g x y, beats_from k measure g x y);
  nucleolus = λ f measure. (nucleolus_to k f measure g x p, nucleolus_from k f measure g x p);
  blocks = λ s. (blocks_to k g x s, blocks_from k g x s);
  core = (core_to k g x, core_from k g x);
  blocker = λ s. (blocker_to k g x s, blocker_from k g x s);
  certifies = λ mode f measure ls ms o.
      (certifies_to k mode f measure g x ls ms o, certifies_from k mode f measure g x ls ms o);
}
