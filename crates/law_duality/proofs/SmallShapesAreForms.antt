-- Levels in the form without limits of size, of at most 16 players and with weights within the limits, have the form of
-- a certificate: their coalitions ascend, so they aren't too many.
use Rattle.std.proofs.Common.{◌≡◌, ℕ, ◌^◌, ◌<◌, ◌≤◌, true, List, [], ◌∷◌, ◌++◌, length, ℤ, IsTrue, inl, inr, arith}
use Rattle.std.specs.List.{AllByRecursion}
use Rattle.std.proofs.lemmas.Bool.{false≢true}
use Rattle.std.proofs.Math.Nat.{pow-le-pow_right}
use Rattle.definitions.proofs.Alls.{all_weaken}
use Rattle.definitions.proofs.Masks.{proper-within}
use Rattle.definitions.proofs.Levels.{Ascends-few}
use Rattle.definitions.specs.Certificates.{Level, is_listed, Ascends, LevelForm, LevelsForm}
use Rattle.law_duality.specs.Kohlberg.{LevelShape, LevelsShape, AreSmall, SmallShapesAreForms}
use Rattle.law_duality.proofs.Chosen.{any_key}
use Rattle.law_duality.proofs.LevelTests.{last_any, lists}

module _ (n : ℕ) (few : n ≤ 16) where
  -- the levels list coalitions of the players
  abbrev ListsWithin : List Level → Type 0
  ListsWithin front = (s : ℕ) → is_listed front s ≡ true → s < 2 ^ n

  few_masks : (ps : List (ℕ × ℤ)) → Ascends 0 ps → AllByRecursion (λ p. p.0 < 2 ^ n) ps → length ps ≤ 65536
  few_masks ps rises within =
      let positive : 0 < 2 = omega arith in
      let most : 2 ^ n ≤ 2 ^ 16 = pow-le-pow_right positive few in
      omega (arith, most, Ascends-few 0 (2 ^ n) ps rises within)

  level_form : (front : List Level) (l : Level) → ListsWithin front → LevelShape n front l → AreSmall (l ∷ [])
      → LevelForm n front l
  level_form front l within shape small = record {
    fraction = shape.fraction;
    some = shape.some;
    few = few_masks l.coalitions shape.ascend (proper-within n l.coalitions shape.proper);
    few_earlier = few_masks l.earlier shape.earlier_ascend
        (all_weaken (λ p. IsTrue (is_listed front p.0)) (λ p. p.0 < 2 ^ n) l.earlier (λ p listed. within p.0 listed)
        shape.listed);
    proper = shape.proper;
    listed = shape.listed;
    players = shape.players;
    ascend = shape.ascend;
    earlier_ascend = shape.earlier_ascend;
    bounds_ascend = shape.bounds_ascend;
    small = small.0.0;
    total_small = small.0.1;
  }

  levels_form : (front levels : List Level) → ListsWithin front → LevelsShape n front levels → AreSmall levels
      → LevelsForm n front levels
  levels_form front [] within shape small = tt
  levels_form front (l ∷ levels) within shape small = (
    level_form front l within shape.0 (small.0, tt),
    levels_form (front ++ l ∷ []) levels
        (λ s listed. elim (last_any (lists s) front l listed) [
          | inl before ↦ within s before
          | inr now ↦ any_key (λ t. t < 2 ^ n) l.coalitions s (proper-within n l.coalitions shape.0.proper) now
        ])
        shape.1 small.1,
  )

pub small_shapes_are_forms : SmallShapesAreForms
small_shapes_are_forms n levels some few shape small = record {
  players = inr few;
  few = omega (arith, shape.few, some);
  each = levels_form n few [] levels (λ s listed. absurd (false≢true listed)) shape.each small;
}
