-- For the private functions of this crate.
-- The stages so far, and all of them.
--
--   IsLeft        some player alone isn't spanned by what the levels fix
--   IsBest        an optimum of a stage
--   rows_of       the multipliers as numbers
--   answer_of     the answer that an optimum and its level are
--   OwnExcesses   the excess of each level is the optimum of its stage
--   AreLast       the last stage has these multipliers
--   AreWide       multipliers for the players, at least
--   AreStages     the levels in front are those of optimal stages, with the multipliers of the last
--   IsBounded     a stage has no endless ray
--   AreUnderway   the levels in front of the next stage, with what they fix
--   AreDone       the levels of all stages
use Rattle.std.specs.Prelude.{◌≡◌, ◌↔◌, ℕ, ◌+◌, ◌<◌, ◌≤◌, Bool, List, [], ◌∷◌, length}
use Rattle.std.specs.Prelude.{pos, ◌*ℤ◌, ◌≤ℤ◌, IsTrue, Option, Some, None}
use Rattle.std.specs.List.{AllByRecursion}
use Rattle.definitions.specs.Coalitions.{singleton}
use Rattle.definitions.specs.Games.{Game}
use Rattle.definitions.specs.Certificates.{Level, InSpan, IsFixedVector, IsOutside, IsAllFixed, LevelsForm}
use Rattle.definitions.specs.Programs.{HasRay}
use Rattle.definitions.specs.declared.Mode.TheVariants.{Span}
use Rattle.simplex.specs.Answer.{IsAnswer}
use Rattle.simplex.specs.declared.answer.Optimal.{Optimal}
use Rattle.simplex.specs.declared.multipliers.Multipliers.{Multipliers}
use Rattle.kohlberg.specs.Extends.{SpansFixed}
use Rattle.nested_programs.specs.Reading.{RowMultipliers, excess_of}
use Rattle.nested_programs.specs.Stage.{Stage, with_front, program_of}
use Rattle.nested_programs.specs.Chain.{StageAnswer, IsChain, levels_of, last_of}
use Rattle.kohlberg.specs.Solved.{IsLowest}
use Rattle.nested_programs.specs.Answer.{IsShort}

-- the vector of some player alone isn't in the span of what the levels fix
pub record IsLeft (n : ℕ) (levels : List Level) : Type 0 where
  pub player : ℕ
  pub below : player < n
  pub apart : ¬ InSpan n (IsFixedVector n levels) (singleton player)

-- an optimum of a stage, by a test that passes exactly at the coalitions outside
pub record IsBest (q : Stage) (best : Optimal) : Type 0 where
  pub outside : ℕ → Bool
  pub decides : (s : ℕ) → IsTrue (outside s) ↔ IsOutside Span q.game.players q.front s
  pub answer : IsAnswer (program_of q outside) best.weights.items best.weight_den best.multipliers.num.items
      best.multipliers.den

abbrev pub rows_of : Multipliers → RowMultipliers
rows_of m = record { num = m.num.items; den = m.den }

abbrev pub answer_of : Level → (ℕ → Bool) → Optimal → StageAnswer
answer_of l outside best = record {
  level = l;
  outside = outside;
  weights = best.weights.items;
  weight_den = best.weight_den;
  multipliers = rows_of best.multipliers;
}

abbrev pub OwnExcesses : Game → ℕ → List StageAnswer → Type 0
OwnExcesses g k [] = Unit {0}
OwnExcesses g k (t ∷ ts) =
    (t.level.excess_num *ℤ t.multipliers.den ≡ excess_of g.players t.multipliers k *ℤ t.level.excess_den)
    × (pos 1 ≤ℤ t.level.excess_den) × OwnExcesses g (k + 1) ts

-- the last of the stages has these multipliers; without stages there are none
abbrev pub AreLast : List StageAnswer → Option Multipliers → Type 0
AreLast [] None = Unit {0}
AreLast [] (Some m) = ⊥
AreLast (t ∷ ts) None = ⊥
AreLast (t ∷ ts) (Some m) = (last_of t ts).multipliers ≡ rows_of m

-- multipliers for the players, at least; without stages there are none
abbrev pub AreWide : ℕ → List Level → Option Multipliers → Type 0
AreWide n levels None = levels ≡ []
AreWide n levels (Some m) = n ≤ length m.num.items

-- the levels in front of a stage are those of optimal stages, each behind those in front of it, and these are the
-- multipliers of the last
pub record AreStages (q : Stage) (last : Option Multipliers) : Type 0 where
  pub stages : List StageAnswer
  pub levels_are : q.front ≡ levels_of stages
  pub chain : IsChain (with_front q []) stages
  pub own : OwnExcesses q.game 0 stages
  pub last_is : AreLast stages last
  pub wide : AreWide q.game.players q.front last

abbrev pub IsBounded : Stage → Type 0
IsBounded q =
    (outside : ℕ → Bool) → ((s : ℕ) → IsTrue (outside s) → IsOutside Span q.game.players q.front s)
    → HasRay (program_of q outside) → ⊥

-- the levels in front of the next stage: in their form, each with few entries and its excess in lowest terms; the
-- next stage has no endless ray; and the coalitions that are kept span what the levels fix, more of them than levels
pub record AreUnderway (q : Stage) (kept : List ℕ) (last : Option Multipliers) : Type 0 where
  pub stages : AreStages q last
  pub form : LevelsForm q.game.players [] q.front
  pub short : AllByRecursion (IsShort q.game.players) q.front
  pub lowest : AllByRecursion IsLowest q.front
  pub bounded : IsBounded q
  pub spans : SpansFixed q.game.players kept q.front
  pub more : length q.front < length kept
  pub count : length q.front < q.game.players

-- the levels of all stages, which fix everything
pub record AreDone (q : Stage) (last : Option Multipliers) : Type 0 where
  pub stages : AreStages q last
  pub form : LevelsForm q.game.players [] q.front
  pub short : AllByRecursion (IsShort q.game.players) q.front
  pub lowest : AllByRecursion IsLowest q.front
  pub all : IsAllFixed Span q.game.players q.front
  pub count : length q.front < q.game.players
