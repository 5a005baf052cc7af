-- The columns of a stage, each under its number, are its program.
--
-- The list is made push by push, and each of its parts is under its numbers (Slots.antt). The coalitions outside are
-- those marked once the span has taken its own out of all (`outside_of`). The definition has a cost for every number,
-- and a list ends. So nothing is said of a number that is no column (`IsSame`).
use Rattle.std.proofs.Common.{◌≡◌, ◌⊎◌, ℕ, zero, suc, ◌+◌, ◌-◌, ◌<◌, ◌≤◌, ◌^◌}
use Rattle.std.proofs.Common.{Bool, true, false, ◌&&◌, List, [], ◌∷◌, ◌++◌, length, length-append}
use Rattle.std.proofs.Common.{map, get_or, refl, ap, ◌∙◌, inl, inr, arith, nat_eq}
use Rattle.std.proofs.Common.{nat_lt, ℤ, pos, ◌-ℤ◌, Option, Some, None, unsigned_abs, ◌↔◌, IsTrue, if◌then◌else◌}
use Rattle.std.proofs.lemmas.Bool.Decides.{nat_tests}
use Rattle.std.proofs.lemmas.Int.{ints}
use Rattle.std.proofs.lemmas.List.{get_or-append_right, get_or_append_left}
use Rattle.std.proofs.Math.Pow.{pow-lt}
use Rattle.std.specs.List.{AllByRecursion}
use Rattle.std.specs.Option.{ForSome, is_some}
use Rattle.definitions.specs.Coalitions.{singleton, grand_coalition}
use Rattle.definitions.specs.Games.{Game, IsGame}
use Rattle.definitions.specs.Certificates.{Level, LevelsForm, has_bound, IsOutside}
use Rattle.definitions.specs.Programs.{Program}
use Rattle.definitions.specs.declared.Family.{Family}
use Rattle.definitions.specs.declared.Measure.{Measure}
use Rattle.definitions.specs.declared.Mode.TheVariants.{Span}
use Rattle.separation.specs.Stage.{SignedVector, signed, entry_of, earlier_of, doubled, settled_columns}
use Rattle.separation.specs.Stage.{further_column, no_column, is_imputations, is_further, stage_program}
use Rattle.separation.specs.Kept.{column_entry, column_at, right_at, kept_program, AreSmall}
use Rattle.separation.specs.Same.{IsStage}
use Rattle.separation.specs.Making.{listed, plain, minus, earlier_columns, whole_columns, single}
use Rattle.separation.specs.Making.{bound, IsOuter, AreOuter, inner_columns, AreWithin}
use Rattle.separation.specs.declared.column.Column.{Column}
use Rattle.separation.proofs.Slots.{SameAt, same_program, small_columns, length-listed, listed_at}
use Rattle.separation.proofs.Slots.{past_at, row_of, row_entry, for_some, for_none}
use Rattle.separation.proofs.Outside.{has_column, decides}
use Rattle.definitions.proofs.Alls.{all_join, all_weaken}
use Rattle.definitions.proofs.Masks.{proper-within, grand_coalition-within}
use Rattle.definitions.proofs.Cases.{below_or_above}

-- ---- the levels' coalitions

all_pairs : {X Y : Type 0} (P : Y → Type 0) (f : X → Y) (Q : X → Type 0) (xs : List X) → ((x : X) → Q x → P (f x))
    → AllByRecursion Q xs → AllByRecursion P (map f xs)
all_pairs P f Q [] step h = tt
all_pairs P f Q (x ∷ xs) step h = (step x h.0, all_pairs P f Q xs step h.1)

-- a coalition of n players, in one of the first j levels
abbrev IsEarlier : ℕ → ℕ → ℕ × ℕ → Type 0
IsEarlier n j c = (c.0 < 2 ^ n) × (c.1 < j)

earlier_all : (n k : ℕ) (levels : List Level) → AllByRecursion (AreWithin n) levels
    → AllByRecursion (IsEarlier n (k + length levels)) (earlier_of k levels)
earlier_all n k [] h = tt
earlier_all n k (l ∷ levels) h =
    all_join (IsEarlier n (k + length (l ∷ levels))) (map (λ c. (c.0, k)) l.coalitions)
    (earlier_of (k + 1) levels)
    (all_pairs (IsEarlier n (k + length (l ∷ levels))) (λ c. (c.0, k)) (λ c. c.0 < 2 ^ n) l.coalitions
    (λ c lt. (lt, omega arith)) h.0.coalitions)
    (all_weaken (IsEarlier n ((k + 1) + length levels)) (IsEarlier n (k + length (l ∷ levels)))
    (earlier_of (k + 1) levels) (λ c e. (e.0, let lt = e.1 in omega arith))
    (earlier_all n (k + 1) levels h.1))

pub levels_within : (n : ℕ) (front levels : List Level) → LevelsForm n front levels
    → AllByRecursion (AreWithin n) levels
levels_within n front [] h = tt
levels_within n front (l ∷ levels) h = (
  record { coalitions = proper-within n l.coalitions h.0.proper },
  levels_within n (front ++ l ∷ []) levels h.1,
)

-- ---- columns, and those of the program

-- a column is that of the program's table, and small
record Like (measure : Measure) (g : Game) (k : ℕ) (c : Column) (sc : SignedVector) : Type 0 where
  entry : (r : ℕ) → r < g.players + (k + 1) → column_entry measure g.players c r ≡ entry_of measure g.players sc r
  cost : c.cost ≡ signed sc.minus (g.worth sc.mask)
  small : unsigned_abs c.cost < 2 ^ 46
  level : ForSome c.level (λ l. l < k + 1)

abbrev Found : Measure → Game → ℕ → Option Column → SignedVector → Type 0
Found measure g k None sc = ⊥
Found measure g k (Some c) sc = Like measure g k c sc

negated_small : (z : ℤ) → unsigned_abs z < 2 ^ 46 → unsigned_abs (pos 0 -ℤ z) < 2 ^ 46
negated_small z h = omega (arith, ints)

-- the column of a coalition, and the same negated
like : (measure : Measure) (g : Game) (k s : ℕ) (level : Option ℕ) (negated : Bool) → IsGame g → s < 2 ^ g.players
    → ForSome level (λ l. l < k + 1)
    → Like measure g k (if negated then minus g s level else plain g s level)
    (record { mask = s; row = row_of (k + 1) level; minus = negated })
like measure g k s level true game lt within = record {
  entry = λ r h. ap (signed true) (row_entry measure g.players s (k + 1) r level h);
  cost = refl;
  small = negated_small (g.worth s) (game.small s lt);
  level = within;
}
like measure g k s level false game lt within = record {
  entry = λ r h. row_entry measure g.players s (k + 1) r level h;
  cost = refl;
  small = game.small s lt;
  level = within;
}

in_level : (measure : Measure) (g : Game) (k s l : ℕ) (negated : Bool) → IsGame g → s < 2 ^ g.players → l < k + 1
    → Like measure g k (if negated then minus g s (Some l) else plain g s (Some l))
    (record { mask = s; row = l; minus = negated })
in_level measure g k s l negated game lt within =
    like measure g k s (Some l) negated game lt (for_some l (λ l. l < k + 1) within)

in_no_level : (measure : Measure) (g : Game) (k s : ℕ) (negated : Bool) → IsGame g → s < 2 ^ g.players
    → Like measure g k (if negated then minus g s None else plain g s None)
    (record { mask = s; row = k + 1; minus = negated })
in_no_level measure g k s negated game lt = like measure g k s None negated game lt (for_none (λ l. l < k + 1))

earlier_found : (measure : Measure) (g : Game) (k : ℕ) (cs : List (ℕ × ℕ)) (j : ℕ) → IsGame g
    → AllByRecursion (IsEarlier g.players k) cs → j < length (doubled cs)
    → Found measure g k (column_at (earlier_columns g cs) j) (get_or (doubled cs) j no_column)
earlier_found measure g k [] j game h lt = absurd (omega arith)
earlier_found measure g k (c ∷ cs) zero game h lt =
    in_level measure g k c.0 c.1 false game h.0.0 (let e = h.0.1 in omega (arith, e))
earlier_found measure g k (c ∷ cs) (suc zero) game h lt =
    in_level measure g k c.0 c.1 true game h.0.0 (let e = h.0.1 in omega (arith, e))
earlier_found measure g k (c ∷ cs) (suc (suc j)) game h lt = earlier_found measure g k cs j game h.1 (omega arith)

length-earlier : (g : Game) (cs : List (ℕ × ℕ)) → length (earlier_columns g cs) ≡ length (doubled cs)
length-earlier g [] = refl
length-earlier g (c ∷ cs) = ap (λ (t : ℕ). suc (suc t)) (length-earlier g cs)

-- the column of coalition s in the row of level k, or none
abbrev pub IsPlainOr : Game → ℕ → ℕ → Option Column → Type 0
IsPlainOr g k s None = Unit {0}
IsPlainOr g k s (Some c) = c ≡ plain g s (Some k)

-- for each of the first n coalitions its column or none
pub record ArePlain (g : Game) (k n : ℕ) (outers : List (Option Column)) : Type 0 where
  pub count : length outers ≡ n
  pub plain_or : (s : ℕ) → s < n → IsPlainOr g k s (column_at outers s)

module _ (family : Family) (measure : Measure) (g : Game) (front : List Level) (game : IsGame g)
    (within : AllByRecursion (AreWithin g.players) front) (outers : List (Option Column))
    (are : ArePlain g (length front) (2 ^ g.players) outers) where
  abbrev n : ℕ
  n = g.players

  abbrev k : ℕ
  k = length front

  abbrev b : ℕ
  b = length (settled_columns g.players front)

  abbrev q : Program
  q = stage_program family measure g front (has_column outers)

  abbrev settled : List (Option Column)
  settled = whole_columns g (grand_coalition g.players) ++ earlier_columns g (earlier_of 0 front)

  length-settled : length settled ≡ b
  length-settled = ap (λ (t : ℕ). suc (suc t)) (length-earlier g (earlier_of 0 front))

  settled_found : (id : ℕ) → id < b
      → Found measure g k (column_at settled id) (get_or (settled_columns g.players front) id no_column)
  settled_found zero lt =
      in_no_level measure g k (grand_coalition g.players) false game (grand_coalition-within g.players)
  settled_found (suc zero) lt =
      in_no_level measure g k (grand_coalition g.players) true game (grand_coalition-within g.players)
  settled_found (suc (suc j)) lt =
      let e : 0 + length front ≡ length front = omega arith in
      earlier_found measure g k (earlier_of 0 front) j game (rw e at
      (earlier_all g.players 0 front within)) (omega arith)

  from_settled : (id : ℕ) (o : Option Column) → id < b
      → Found measure g k o (get_or (settled_columns g.players front) id no_column)
      → SameAt measure n (k + 1) q id o
  from_settled id None lt h = absurd h
  from_settled id (Some c) lt h =
      let t : nat_lt id b ≡ true = grind (arith, nat_tests) in
      record { is_column = rw t refl; entry = rw t h.entry; cost = rw t h.cost; small = h.small; level = h.level }

  abbrev FurtherAt : ℕ → Option Column → Type 0
  FurtherAt i None = is_further family g.players front (has_column outers) i ≡ false
  FurtherAt i (Some c) =
      (is_further family g.players front (has_column outers) i ≡ true)
      × Like measure g k c (further_column g.players k i)

  from_further : (id : ℕ) (o : Option Column) → b ≤ id → FurtherAt (id - b) o → SameAt measure n (k + 1) q id o
  from_further id None le h = let t : nat_lt id b ≡ false = grind (arith, nat_tests) in rw t h
  from_further id (Some c) le h =
      let t : nat_lt id b ≡ false = grind (arith, nat_tests) in
      record
      { is_column = rw t h.0; entry = rw t h.1.entry; cost = rw t h.1.cost; small = h.1.small; level = h.1.level }

  single_at : (i : ℕ) → i < n → FurtherAt i (single family g i)
  single_at i lt = by_family (is_imputations family) refl
    where
      t : nat_lt i g.players ≡ true
      t = grind (arith, nat_tests)

      by_family : (x : Bool) → is_imputations family ≡ x → FurtherAt i (single family g i)
      by_family true e = rw e (rw t (e, in_no_level measure g k (singleton i) false game (pow-lt lt)))
      by_family false e = rw e (rw t e)

  bound_at : (i : ℕ) → n ≤ i → i < n + n → FurtherAt i (bound family g front (i - n))
  bound_at i le lt = by_test (is_imputations family && has_bound front (i - g.players)) refl
    where
      t : nat_lt i g.players ≡ false
      t = grind (arith, nat_tests)

      u : nat_lt i (g.players + g.players) ≡ true
      u = grind (arith, nat_tests)

      by_test : (x : Bool) → (is_imputations family && has_bound front (i - g.players)) ≡ x
          → FurtherAt i (bound family g front (i - n))
      by_test true e =
          rw e
          (rw t
          (rw u (e, in_no_level measure g k (singleton (i - g.players)) true game (pow-lt (omega arith)))))
      by_test false e = rw e (rw t (rw u e))

  outer_at : (i : ℕ) → n + n ≤ i → (o : Option Column) → column_at outers (i - (n + n)) ≡ o
      → (IsPlainOr g k (i - (n + n)) o × (i - (n + n) < 2 ^ n)) ⊎ (o ≡ None) → FurtherAt i o
  outer_at i le None is h =
      let t : nat_lt i g.players ≡ false = grind (arith, nat_tests) in
      let u : nat_lt i (g.players + g.players) ≡ false = grind (arith, nat_tests) in
      rw t (rw u (ap is_some is))
  outer_at i le (Some c) is (inl h) =
      let t : nat_lt i g.players ≡ false = grind (arith, nat_tests) in
      let u : nat_lt i (g.players + g.players) ≡ false = grind (arith, nat_tests) in
      rw t (rw u (
        ap is_some is,
        rw h.0 (in_level measure g k (i - (n + n)) k false game h.1 (omega arith)),
      ))
  outer_at i le (Some c) is (inr e) = absurd cc

  outer_or : (s : ℕ) → (IsPlainOr g k s (column_at outers s) × (s < 2 ^ n)) ⊎ (column_at outers s ≡ None)
  outer_or s = elim (below_or_above s (2 ^ n)) [
    | inl lt ↦ inl (are.plain_or s lt, lt)
    | inr le ↦ let long = are.count in inr (past_at outers s (omega arith))
  ]

  abbrev singles : List (Option Column)
  singles = listed g.players (single family g)

  abbrev bounds : List (Option Column)
  bounds = listed g.players (bound family g front)

  abbrev all : List (Option Column)
  all = ((settled ++ singles) ++ bounds) ++ outers

  length-two : length (settled ++ singles) ≡ b + n
  length-two =
      length-append settled singles
      ∙ (let x = length-settled in let y = length-listed g.players (single family g) in omega arith)

  length-three : length ((settled ++ singles) ++ bounds) ≡ b + n + n
  length-three =
      length-append (settled ++ singles) bounds
      ∙ (let x = length-two in let y = length-listed g.players (bound family g front) in omega arith)

  at_number : (id : ℕ) → SameAt measure n (k + 1) q id (column_at all id)
  at_number id = elim (by_place id b n) [
    | inl lt ↦
        let e : column_at all id ≡ column_at settled id =
        get_or_append_left ((settled ++ singles) ++ bounds) outers None id (let x = length-three in omega arith)
        ∙ get_or_append_left (settled ++ singles) bounds None id (let x = length-two in omega arith)
        ∙ get_or_append_left settled singles None id (let x = length-settled in omega arith) in
        rw e (from_settled id (column_at settled id) lt (settled_found id lt))
    | inr (inl h) ↦
        let e : column_at all id ≡ single family g (id - b) =
        get_or_append_left ((settled ++ singles) ++ bounds) outers None id (let x = length-three in omega arith)
        ∙ get_or_append_left (settled ++ singles) bounds None id (let x = length-two in omega arith)
        ∙ get_or-append_right settled singles b id None length-settled h.0
        ∙ listed_at g.players (id - b) (single family g) (omega arith) in
        rw e (from_further id (single family g (id - b)) h.0 (single_at (id - b) (omega arith)))
    | inr (inr (inl h)) ↦
        let d : id - (b + n) ≡ id - b - n = omega (arith, h.0) in
        let e : column_at all id ≡ bound family g front (id - b - n) =
        get_or_append_left ((settled ++ singles) ++ bounds) outers None id (let x = length-three in omega arith)
        ∙ get_or-append_right (settled ++ singles) bounds (b + n) id None length-two h.0
        ∙ ap (column_at bounds) d
        ∙ listed_at g.players (id - b - n) (bound family g front) (omega arith) in
        rw e (from_further id (bound family g front (id - b - n)) (omega (arith, h.0))
        (bound_at (id - b) (omega (arith, h.0)) (omega arith)))
    | inr (inr (inr le)) ↦
        let d : id - (b + n + n) ≡ id - b - (n + n) = omega (arith, le) in
        let e : column_at all id ≡ column_at outers (id - b - (n + n)) =
        get_or-append_right ((settled ++ singles) ++ bounds) outers (b + n + n) id None length-three le
        ∙ ap (column_at outers) d in
        rw e (from_further id (column_at outers (id - b - (n + n))) (omega (arith, le))
        (outer_at (id - b) (omega (arith, le)) (column_at outers (id - b - (n + n))) refl
        (outer_or (id - b - (n + n)))))
  ]
    where
      by_place : (id b n : ℕ)
          → (id < b) ⊎ (((b ≤ id) × (id < b + n)) ⊎ (((b + n ≤ id) × (id < b + n + n)) ⊎ (b + n + n ≤ id)))
      by_place id b n = elim (below_or_above id b) [
        | inl lt ↦ inl lt
        | inr le ↦ elim (below_or_above id (b + n)) [
          | inl lt ↦ inr (inl (le, lt))
          | inr le' ↦ elim (below_or_above id (b + n + n)) [
            | inl lt ↦ inr (inr (inl (le', lt)))
            | inr le'' ↦ inr (inr (inr le''))
          ]
        ]
      ]

  right_same : (r : ℕ) → right_at n (k + 1) r ≡ q.right r
  right_same r = rw not_zero_rows (rw same_row refl)
    where
      not_zero_rows : nat_eq (length front + 1) 0 ≡ false
      not_zero_rows = grind (arith, nat_tests)

      same_row : nat_eq (r + 1) (g.players + (length front + 1)) ≡ nat_eq r (g.players + length front)
      same_row = grind (arith, nat_tests)

  stage_with : ((s : ℕ) → IsTrue (has_column outers s) ↔ IsOutside Span g.players front s)
      → IsStage family measure g front
      (kept_program measure g.players (length front + 1) (inner_columns family g front ++ outers))
  stage_with decided = record {
    outside = has_column outers;
    decides = decided;
    same = same_program measure n (k + 1) all q refl (λ r lt. right_same r) at_number;
  }

  pub plain_small : AreSmall (length front + 1) (inner_columns family g front ++ outers)
  plain_small = small_columns measure n (k + 1) all q at_number

outer_plain : (g : Game) (front : List Level) (outers : List (Option Column))
    → AreOuter g front (2 ^ g.players) outers → ArePlain g (length front) (2 ^ g.players) outers
outer_plain g front outers are =
    record { count = are.count; plain_or = λ s lt. plain_or_none s (column_at outers s) (are.outer s lt) }
  where
    plain_or_none : (s : ℕ) (o : Option Column) → IsOuter g front s o → IsPlainOr g (length front) s o
    plain_or_none s None h = tt
    plain_or_none s (Some c) h = h.1

-- the columns in front, and those of the coalitions outside
pub stage_of : (family : Family) (measure : Measure) (g : Game) (front : List Level) → IsGame g
    → AllByRecursion (AreWithin g.players) front → (outers : List (Option Column))
    → AreOuter g front (2 ^ g.players) outers
    → IsStage family measure g front
    (kept_program measure g.players (length front + 1) (inner_columns family g front ++ outers))
stage_of family measure g front game within outers are =
    stage_with family measure g front game within outers (outer_plain g front outers are)
    (decides g front outers are)

pub stage_small : (family : Family) (measure : Measure) (g : Game) (front : List Level) → IsGame g
    → AllByRecursion (AreWithin g.players) front → (outers : List (Option Column))
    → AreOuter g front (2 ^ g.players) outers
    → AreSmall (length front + 1) (inner_columns family g front ++ outers)
stage_small family measure g front game within outers are =
    plain_small family measure g front game within outers (outer_plain g front outers are)
