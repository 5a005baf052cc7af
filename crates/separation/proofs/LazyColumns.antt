-- The columns that are found by their numbers: what stands under each, and that they are the programs'.
--
-- A `Lazy` keeps no column. Its program is that of the list that `Listed` would have kept (`lazy_columns`), so the laws
-- and lemmas on lists serve both. First are the columns in front of those of the coalitions (`lazy-front`), then the
-- marked coalitions (`lazy-marked`), then nothing (`lazy-past`).
use Rattle.std.proofs.Common.{◌≡◌, ℕ, ◌+◌, ◌-◌, ◌<◌, ◌≤◌, ◌^◌, Bool, true, false}
use Rattle.std.proofs.Common.{List, [], ◌∷◌, ◌++◌, length, length-append, refl, ◌∙◌, arith, if◌then◌else◌}
use Rattle.std.proofs.Common.{Option, Some, None, IsTrue, ◌↔◌}
use Rattle.std.proofs.lemmas.List.{get_or-append_right, get_or_append_left}
use Rattle.std.specs.List.{AllByRecursion}
use Rattle.definitions.specs.Games.{Game, IsGame}
use Rattle.definitions.specs.Certificates.{Level, LevelsForm, IsOutside}
use Rattle.definitions.specs.declared.Mode.TheVariants.{Span}
use Rattle.definitions.specs.declared.Measure.{Measure}
use Rattle.definitions.specs.declared.Measure.TheVariants.{Plain}
use Rattle.separation.specs.Balanced.{balanced_program}
use Rattle.separation.specs.Kept.{column_at, kept_program, AreSmall}
use Rattle.separation.specs.Same.{IsSame, IsSpanOf, IsStage}
use Rattle.separation.specs.Making.{listed, plain, IsOuter, AreOuter, AreWithin}
use Rattle.spans.specs.Outside.{is_marked}
use Rattle.kohlberg.specs.Marking.{IsMarking}
use Rattle.separation.specs.Fronts.{front_columns, front_level, has_mark, marked_column, lazy_columns, IsSmallLevel}
use Rattle.separation.specs.declared.column.Column.{Column}
use Rattle.separation.specs.declared.front.Front.{Front}
use Rattle.separation.proofs.Slots.{length-listed, listed_at, past_at}
use Rattle.separation.proofs.Staged.{IsPlainOr, ArePlain, plain_small, stage_of}
use Rattle.definitions.proofs.Masks.{proper-within}
use Rattle.separation.proofs.Balance.{balanced_of}

-- ---- what stands under a number

module _ (g : Game) (front : Option Front) (marks : Option (List ℕ)) where
  abbrev marked : List (Option Column)
  marked = listed (2 ^ g.players) (marked_column g (front_level front) marks)

  pub length-lazy : length (lazy_columns g front marks) ≡ length (front_columns g front) + 2 ^ g.players
  length-lazy =
      let one = length-listed (2 ^ g.players) (marked_column g (front_level front) marks) in
      cc (length-append (front_columns g front) marked)

  pub lazy-front : (id : ℕ) → id < length (front_columns g front)
      → column_at (lazy_columns g front marks) id ≡ column_at (front_columns g front) id
  lazy-front id lt = get_or_append_left (front_columns g front) marked None id lt

  pub lazy-marked : (id : ℕ) → length (front_columns g front) ≤ id
      → id < length (front_columns g front) + 2 ^ g.players
      → column_at (lazy_columns g front marks) id
      ≡ marked_column g (front_level front) marks (id - length (front_columns g front))
  lazy-marked id le lt =
      get_or-append_right (front_columns g front) marked (length (front_columns g front)) id None refl le
      ∙ listed_at (2 ^ g.players) (id - length (front_columns g front)) (marked_column g (front_level front) marks)
      (omega arith)

  pub lazy-past : (id : ℕ) → length (front_columns g front) + 2 ^ g.players ≤ id
      → column_at (lazy_columns g front marks) id ≡ None
  lazy-past id le = past_at (lazy_columns g front marks) id (let h = length-lazy in omega arith)

-- ---- that they are small, and the programs

marked_plain : (g : Game) (k : ℕ) (marks : Option (List ℕ))
    → ArePlain g k (2 ^ g.players) (listed (2 ^ g.players) (marked_column g (Some k) marks))
marked_plain g k marks = record {
  count = length-listed (2 ^ g.players) (marked_column g (Some k) marks);
  plain_or = λ s lt. rw (listed_at (2 ^ g.players) s (marked_column g (Some k) marks) lt)
      (by_test s (has_mark marks s));
}
  where
    by_test : (s : ℕ) (b : Bool) → IsPlainOr g k s (if b then Some (plain g s (Some k)) else None)
    by_test s true = refl
    by_test s false = tt

pub small_within : (n : ℕ) (levels : List Level) → AllByRecursion (IsSmallLevel n) levels
    → AllByRecursion (AreWithin n) levels
small_within n [] h = tt
small_within n (l ∷ levels) h = (record { coalitions = h.0.1 }, small_within n levels h.1)

pub small_form : (n : ℕ) (front levels : List Level) → LevelsForm n front levels
    → AllByRecursion (IsSmallLevel n) levels
small_form n front [] h = tt
small_form n front (l ∷ levels) h =
    ((h.0.few, proper-within n l.coalitions h.0.proper), small_form n (front ++ l ∷ []) levels h.1)

pub stage_columns_small : (measure : Measure) (g : Game) (f : Front) (marks : Option (List ℕ)) → IsGame g
    → AllByRecursion (IsSmallLevel g.players) f.levels.now
    → AreSmall (length f.levels.now + 1) (lazy_columns g (Some f) marks)
stage_columns_small measure g f marks game small =
    plain_small f.family measure g f.levels.now game (small_within g.players f.levels.now small)
    (listed (2 ^ g.players) (marked_column g (Some (length f.levels.now)) marks))
    (marked_plain g (length f.levels.now) marks)

pub balanced_kept : (g : Game) (n : ℕ) → n ≡ g.players → IsGame g
    → (n ≡ g.players) × IsSame (kept_program Plain n 0 (lazy_columns g None None)) (balanced_program g)
balanced_kept g n e game = (e, rw e (balanced_of g game))

marked_outer : (g : Game) (levels : List Level) (words : List ℕ) → IsMarking g.players levels words
    → AreOuter g levels (2 ^ g.players)
    (listed (2 ^ g.players) (marked_column g (Some (length levels)) (Some words)))
marked_outer g levels words h = record {
  count = length-listed (2 ^ g.players) (marked_column g (Some (length levels)) (Some words));
  outer = λ s lt. rw (listed_at (2 ^ g.players) s (marked_column g (Some (length levels)) (Some words)) lt)
      (by_test s (is_marked words s) (h s));
}
  where
    by_test : (s : ℕ) (b : Bool) → (IsTrue b ↔ IsOutside Span g.players levels s)
        → IsOuter g levels s (if b then Some (plain g s (Some (length levels))) else None)
    by_test s true d = (d.0 refl, refl)
    by_test s false d = λ out. clash (d.1 out)
      where
        clash : false ≡ true → ⊥
        clash e = cc

pub marking_of : (n m : ℕ) (levels : List Level) (kept words : List ℕ) → n ≡ m → IsSpanOf m kept levels
    → (IsSpanOf n kept levels → IsMarking n levels words) → IsMarking m levels words
marking_of n m levels kept words e span marking = rw e at (marking (rw e span))

pub stage_kept : (f : Front) (measure : Measure) (g : Game) (n : ℕ) (kept words : List ℕ) → n ≡ g.players → IsGame g
    → AllByRecursion (IsSmallLevel g.players) f.levels.now → IsSpanOf g.players kept f.levels.now
    → (IsSpanOf n kept f.levels.now → IsMarking n f.levels.now words)
    → (n ≡ g.players)
    × IsStage f.family measure g f.levels.now
    (kept_program measure n (length f.levels.now + 1) (lazy_columns g (Some f) (Some words)))
stage_kept f measure g n kept words e game small span marking = (
  e,
  rw e
      (stage_of f.family measure g f.levels.now game (small_within g.players f.levels.now small)
      (listed (2 ^ g.players) (marked_column g (Some (length f.levels.now)) (Some words)))
      (marked_outer g f.levels.now words (marking_of n g.players f.levels.now kept words e span marking))),
)
