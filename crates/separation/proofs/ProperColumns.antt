-- The columns of a stage are proper: none of them has all players and a level row.
use Rattle.std.proofs.Common.{◌≡◌, ℕ, zero, suc, ◌+◌, ◌<◌, ◌≤◌, ◌^◌, Bool, true}
use Rattle.std.proofs.Common.{false, ◌&&◌, List, [], ◌∷◌}
use Rattle.std.proofs.Common.{◌++◌, length, map, refl, arith, Option, Some, None}
use Rattle.std.proofs.Math.Pow.{pow-lt}
use Rattle.std.specs.List.{AllByRecursion}
use Rattle.std.specs.Option.{ForSome}
use Rattle.definitions.specs.Coalitions.{singleton, grand_coalition}
use Rattle.definitions.specs.Games.{Game}
use Rattle.definitions.specs.Certificates.{Level, LevelsForm, has_bound}
use Rattle.definitions.specs.declared.Family.{Family}
use Rattle.definitions.specs.declared.Measure.{Measure}
use Rattle.definitions.specs.declared.Measure.TheVariants.{Plain, PerHead}
use Rattle.separation.specs.Stage.{earlier_of, is_imputations}
use Rattle.separation.specs.Kept.{column_at, AreShort}
use Rattle.separation.proofs.HeadSizes.{IsProper, kept_short}
use Rattle.separation.proofs.Slots.{for_some, for_none}
use Rattle.separation.specs.Making.{listed, plain, minus, earlier_columns, whole_columns}
use Rattle.separation.specs.Making.{single, bound, IsOuter, AreOuter, inner_columns}
use Rattle.spans.specs.Outside.{is_marked}
use Rattle.kohlberg.specs.Marking.{IsMarking}
use Rattle.separation.specs.Fronts.{marked_column, lazy_columns}
use Rattle.separation.specs.declared.column.Column.{Column}
use Rattle.separation.specs.declared.front.Front.{Front}
use Rattle.definitions.proofs.Alls.{all_join, all_at_places}
use Rattle.definitions.proofs.Masks.{grand_coalition-within}

-- ---- plain programs have no such limit

no_heads : Plain ≡ PerHead → ⊥
no_heads e = cc

pub plain_short : (players levels : ℕ) (columns : List (Option Column)) → AreShort Plain players levels columns
plain_short players levels columns e = absurd (no_heads e)

-- ---- a column

abbrev pub Proper : ℕ → Option Column → Type 0
Proper n o = ForSome o (IsProper n)

-- a column without a level row
without_level : (n : ℕ) (c : Column) → c.level ≡ None → c.coalition < 2 ^ n → Proper n (Some c)
without_level n c none lt =
    for_some c (IsProper n) (
      lt,
      rw none
          (for_none (λ k. c.coalition < grand_coalition n)),
    )

-- a column of a coalition that isn't that of all
with_level : (n : ℕ) (c : Column) → c.coalition < grand_coalition n → Proper n (Some c)
with_level n c lt = for_some c (IsProper n) (let b = grand_coalition-within n in omega arith, λ k e. lt)

-- ---- lists of columns

all_pairs : {X Y : Type 0} (P : Y → Type 0) (f : X → Y) (Q : X → Type 0) (xs : List X) → ((x : X) → Q x → P (f x))
    → AllByRecursion Q xs → AllByRecursion P (map f xs)
all_pairs P f Q [] step h = tt
all_pairs P f Q (x ∷ xs) step h = (step x h.0, all_pairs P f Q xs step h.1)

listed_all : (P : Option Column → Type 0) (n : ℕ) (f : ℕ → Option Column) → ((i : ℕ) → i < n → P (f i))
    → AllByRecursion P (listed n f)
listed_all P zero f h = tt
listed_all P (suc n) f h =
    all_join P (listed n f) (f n ∷ []) (listed_all P n f (λ i lt. h i (omega (arith, lt)))) (h n (omega arith), tt)

-- what stands under each number
proper_at : (n : ℕ) (columns : List (Option Column)) → AllByRecursion (Proper n) columns → (id : ℕ)
    → Proper n (column_at columns id)
proper_at n [] h id = for_none (IsProper n)
proper_at n (o ∷ columns) h zero = h.0
proper_at n (o ∷ columns) h (suc id) = proper_at n columns h.1 id

-- ---- the columns in front

whole_proper : (g : Game) → AllByRecursion (Proper g.players) (whole_columns g (grand_coalition g.players))
whole_proper g = (
  without_level g.players (plain g (grand_coalition g.players) None) refl (grand_coalition-within g.players),
  (
    without_level g.players (minus g (grand_coalition g.players) None) refl (grand_coalition-within g.players),
    tt,
  ),
)

earlier_proper : (g : Game) (cs : List (ℕ × ℕ)) → AllByRecursion (λ c. c.0 < grand_coalition g.players) cs
    → AllByRecursion (Proper g.players) (earlier_columns g cs)
earlier_proper g [] h = tt
earlier_proper g (c ∷ cs) h = (
  with_level g.players (plain g c.0 (Some c.1)) h.0,
  (with_level g.players (minus g c.0 (Some c.1)) h.0, earlier_proper g cs h.1),
)

levels_proper : (n k : ℕ) (front levels : List Level) → LevelsForm n front levels
    → AllByRecursion (λ c. c.0 < grand_coalition n) (earlier_of k levels)
levels_proper n k front [] h = tt
levels_proper n k front (l ∷ levels) h =
    all_join (λ c. c.0 < grand_coalition n) (map (λ c. (c.0, k)) l.coalitions) (earlier_of (k + 1) levels)
    (all_pairs (λ c. c.0 < grand_coalition n) (λ c. (c.0, k)) (λ c. (0 < c.0) × (c.0 < grand_coalition n))
    l.coalitions (λ c p. p.1) h.0.proper) (levels_proper n (k + 1) (front ++ l ∷ []) levels h.1)

single_proper : (family : Family) (g : Game) (i : ℕ) → i < g.players → Proper g.players (single family g i)
single_proper family g i lt = by_family (is_imputations family) refl
  where
    by_family : (b : Bool) → is_imputations family ≡ b → Proper g.players (single family g i)
    by_family true e = rw e (without_level g.players (plain g (singleton i) None) refl (pow-lt lt))
    by_family false e = rw e (for_none (IsProper g.players))

bound_proper : (family : Family) (g : Game) (front : List Level) (i : ℕ) → i < g.players
    → Proper g.players (bound family g front i)
bound_proper family g front i lt = by_test (is_imputations family && has_bound front i) refl
  where
    by_test : (b : Bool) → (is_imputations family && has_bound front i) ≡ b
        → Proper g.players (bound family g front i)
    by_test true e = rw e (without_level g.players (minus g (singleton i) None) refl (pow-lt lt))
    by_test false e = rw e (for_none (IsProper g.players))

inner_proper : (family : Family) (g : Game) (levels : List Level) → LevelsForm g.players [] levels
    → AllByRecursion (Proper g.players) (inner_columns family g levels)
inner_proper family g levels form =
    let P : Option Column → Type 0 = Proper g.players in
    let settled : List (Option Column) =
    whole_columns g (grand_coalition g.players) ++ earlier_columns g (earlier_of 0 levels) in
    let singles : List (Option Column) = listed g.players (single family g) in
    let bounds : List (Option Column) = listed g.players (bound family g levels) in
    all_join P (settled ++ singles) bounds (all_join P settled singles
    (all_join P (whole_columns g (grand_coalition g.players)) (earlier_columns g (earlier_of 0 levels))
    (whole_proper g) (earlier_proper g (earlier_of 0 levels) (levels_proper g.players 0 [] levels form)))
    (listed_all P g.players (single family g) (λ i lt. single_proper family g i lt)))
    (listed_all P g.players (bound family g levels) (λ i lt. bound_proper family g levels i lt))

-- ---- with those of the coalitions

stage_short : (measure : Measure) (n : ℕ) (levels : List Level) (columns : List (Option Column))
    → (measure ≡ PerHead → n ≤ 8) → length levels + 2 ≤ n → (measure ≡ PerHead → AllByRecursion (Proper n) columns)
    → AreShort measure n (length levels + 1) columns
stage_short Plain n levels columns heads count proper = λ e. absurd (no_heads e)
stage_short PerHead n levels columns heads count proper = λ e. record {
  few = let few = heads e in omega arith;
  columns = λ id is. kept_short n (length levels + 1) (column_at columns id) (heads e)
      (proper_at n columns (proper e) id) is;
}

outer_proper : (g : Game) (levels : List Level) (outers : List (Option Column))
    → AreOuter g levels (2 ^ g.players) outers → AllByRecursion (Proper g.players) outers
outer_proper g levels outers are =
    all_at_places (Proper g.players) None outers
    (λ id lt. proper_if_outer id (column_at outers id) (are.outer id (let long = are.count in omega arith)))
  where
    proper_if_outer : (s : ℕ) (o : Option Column) → IsOuter g levels s o → Proper g.players o
    proper_if_outer s None h = for_none (IsProper g.players)
    proper_if_outer s (Some c) h = with_level g.players c (rw h.1 h.0.1)

-- the columns of a stage that are listed
pub listed_short : (family : Family) (measure : Measure) (g : Game) (levels : List Level)
    (outers : List (Option Column)) → (measure ≡ PerHead → g.players ≤ 8) → length levels + 2 ≤ g.players
    → LevelsForm g.players [] levels → AreOuter g levels (2 ^ g.players) outers
    → AreShort measure g.players (length levels + 1) (inner_columns family g levels ++ outers)
listed_short family measure g levels outers heads count form are =
    stage_short measure g.players levels (inner_columns family g levels ++ outers) heads count
    (λ e. all_join (Proper g.players) (inner_columns family g levels) outers (inner_proper family g levels form)
    (outer_proper g levels outers are))

-- the column of a coalition that is outside, or none
marked_proper : (g : Game) (levels : List Level) (words : List ℕ) (s : ℕ) → IsMarking g.players levels words
    → Proper g.players (marked_column g (Some (length levels)) (Some words) s)
marked_proper g levels words s marking = by_mark (is_marked words s) refl
  where
    by_mark : (b : Bool) → is_marked words s ≡ b
        → Proper g.players (marked_column g (Some (length levels)) (Some words) s)
    by_mark false e = rw e (for_none (IsProper g.players))
    by_mark true e = rw e (with_level g.players (plain g s (Some (length levels))) (((marking s).0 e).1))

-- the columns of a stage that are found
pub found_short : (measure : Measure) (g : Game) (f : Front) (words : List ℕ) → (measure ≡ PerHead → g.players ≤ 8)
    → length f.levels.now + 2 ≤ g.players → LevelsForm g.players [] f.levels.now
    → IsMarking g.players f.levels.now words
    → AreShort measure g.players (length f.levels.now + 1) (lazy_columns g (Some f) (Some words))
found_short measure g f words heads count form marking =
    let inner : List (Option Column) = inner_columns f.family g f.levels.now in
    let outers : List (Option Column) =
    listed (2 ^ g.players) (marked_column g (Some (length f.levels.now)) (Some words)) in
    stage_short measure g.players f.levels.now (lazy_columns g (Some f) (Some words)) heads count
    (λ e. all_join (Proper g.players) inner outers (inner_proper f.family g f.levels.now form)
    (listed_all (Proper g.players) (2 ^ g.players) (marked_column g (Some (length f.levels.now)) (Some words))
    (λ s lt. marked_proper g f.levels.now words s marking)))
