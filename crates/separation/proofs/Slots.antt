-- What stands under a number of a list of columns, against a program.
use Rattle.std.proofs.Common.{◌≡◌, ℕ, zero, suc, ◌+◌, ◌-◌, ◌<◌, ◌≤◌, ◌^◌, Bool}
use Rattle.std.proofs.Common.{true, false, IsTrue, List, [], ◌∷◌, length, length-append, refl, sym}
use Rattle.std.proofs.Common.{ap, ◌∙◌, inl, inr, arith, nat_eq, nat_lt, if◌then◌else◌, pos}
use Rattle.std.proofs.Common.{Option, Some, None, unsigned_abs}
use Rattle.std.proofs.lemmas.Bool.{false≢true}
use Rattle.std.proofs.lemmas.Bool.Decides.{nat_tests}
use Rattle.std.proofs.lemmas.List.{get_or-append_right, get_or_append_left}
use Rattle.std.proofs.Math.ListN.{get_or-eq_default}
use Rattle.std.specs.Option.{ForSome, is_some}
use Rattle.definitions.specs.Coalitions.{has_player}
use Rattle.definitions.specs.declared.Measure.{Measure}
use Rattle.definitions.specs.Programs.{Program}
use Rattle.separation.specs.Stage.{plus_entry}
use Rattle.separation.specs.Kept.{plain_entry, column_entry, column_at, entry_at}
use Rattle.separation.specs.Kept.{cost_at, right_at, kept_program, AreSmall}
use Rattle.separation.specs.Same.{IsSame}
use Rattle.separation.specs.Making.{listed}
use Rattle.separation.specs.declared.column.Column.{Column}
use Rattle.definitions.proofs.Cases.{less_or_last}

-- a column is that of the program under the number, and small
pub record Fits (measure : Measure) (n levels : ℕ) (q : Program) (id : ℕ) (c : Column) : Type 0 where
  pub is_column : q.is_column id ≡ true
  pub entry : (r : ℕ) → r < q.rows → column_entry measure n c r ≡ q.entry id r
  pub cost : c.cost ≡ q.cost id
  pub small : unsigned_abs c.cost < 2 ^ 46
  pub level : ForSome c.level (λ l. l < levels)

-- what stands under a number is what the program has there
abbrev pub SameAt : Measure → ℕ → ℕ → Program → ℕ → Option Column → Type 0
SameAt measure n levels q id None = q.is_column id ≡ false
SameAt measure n levels q id (Some c) = Fits measure n levels q id c

column_same : (measure : Measure) (n levels : ℕ) (q : Program) (id : ℕ) (o : Option Column)
    → SameAt measure n levels q id o → is_some o ≡ q.is_column id
column_same measure n levels q id None h = sym h
column_same measure n levels q id (Some c) h = sym h.is_column

entry_same : (measure : Measure) (n levels : ℕ) (q : Program) (id r : ℕ) (o : Option Column)
    → SameAt measure n levels q id o → IsTrue (q.is_column id) → r < q.rows → entry_at measure n o r ≡ q.entry id r
entry_same measure n levels q id r None h is lt = absurd (false≢true (sym h ∙ is))
entry_same measure n levels q id r (Some c) h is lt = h.entry r lt

cost_same : (measure : Measure) (n levels : ℕ) (q : Program) (id : ℕ) (o : Option Column)
    → SameAt measure n levels q id o → IsTrue (q.is_column id) → cost_at o ≡ q.cost id
cost_same measure n levels q id None h is = absurd (false≢true (sym h ∙ is))
cost_same measure n levels q id (Some c) h is = h.cost

cost_small : (measure : Measure) (n levels : ℕ) (q : Program) (id : ℕ) (o : Option Column)
    → SameAt measure n levels q id o → ForSome o (λ c. unsigned_abs c.cost < 2 ^ 46)
cost_small measure n levels q id o h c e = let fits = rw e at h in fits.small

level_there : (measure : Measure) (n levels : ℕ) (q : Program) (id : ℕ) (o : Option Column)
    → SameAt measure n levels q id o → ForSome o (λ c. ForSome c.level (λ l. l < levels))
level_there measure n levels q id o h c e = let fits = rw e at h in fits.level

pub same_program : (measure : Measure) (n levels : ℕ) (columns : List (Option Column)) (q : Program)
    → n + levels ≡ q.rows → ((r : ℕ) → r < q.rows → right_at n levels r ≡ q.right r)
    → ((id : ℕ) → SameAt measure n levels q id (column_at columns id))
    → IsSame (kept_program measure n levels columns) q
same_program measure n levels columns q rows right at = record {
  rows = rows;
  right = right;
  columns = λ id. column_same measure n levels q id (column_at columns id) (at id);
  entry = λ id r is lt. entry_same measure n levels q id r (column_at columns id) (at id) is lt;
  cost = λ id is. cost_same measure n levels q id (column_at columns id) (at id) is;
}

pub small_columns : (measure : Measure) (n levels : ℕ) (columns : List (Option Column)) (q : Program)
    → ((id : ℕ) → SameAt measure n levels q id (column_at columns id)) → AreSmall levels columns
small_columns measure n levels columns q at = record {
  costs = λ id. cost_small measure n levels q id (column_at columns id) (at id);
  rows = λ id. level_there measure n levels q id (column_at columns id) (at id);
}

-- ---- lists

pub length-listed : (n : ℕ) (f : ℕ → Option Column) → length (listed n f) ≡ n
length-listed zero f = refl
length-listed (suc n) f = length-append (listed n f) (f n ∷ []) ∙ (let h = length-listed n f in omega (arith, h))

pub listed_at : (n i : ℕ) (f : ℕ → Option Column) → i < n → column_at (listed n f) i ≡ f i
listed_at zero i f lt = absurd (omega arith)
listed_at (suc n) i f lt = elim (less_or_last i n lt) [
  | inl less ↦
      let long = length-listed n f in
      get_or_append_left (listed n f) (f n ∷ []) None i (omega (arith, long)) ∙ listed_at n i f less
  | inr same ↦
      let e : i - n ≡ 0 = omega (arith, same) in
      get_or-append_right (listed n f) (f n ∷ []) n i None (length-listed n f) (omega (arith, same))
      ∙ ap (column_at (f n ∷ [])) e ∙ ap f (sym same)
]

pub past_at : (columns : List (Option Column)) (i : ℕ) → length columns ≤ i → column_at columns i ≡ None
past_at columns i le = get_or-eq_default columns None le

-- ---- entries

level_entry : (measure : Measure) (n s l r : ℕ)
    → plain_entry measure n s (Some l) r ≡ plus_entry measure n s l r
level_entry measure n s l r = by_row (nat_lt r n) refl
  where
    by_row : (b : Bool) → nat_lt r n ≡ b → plain_entry measure n s (Some l) r ≡ plus_entry measure n s l r
    by_row true e = rw e refl
    by_row false e = let t : nat_eq l (r - n) ≡ nat_eq r (n + l) = level_test n l r e in rw e (rw t refl)
      where
        level_test_past : (n l r : ℕ) → n ≤ r → (nat_eq l (r - n) ≡ nat_eq r (n + l))
        level_test_past n l r le = by_test (nat_eq r (n + l)) refl
          where
            by_test : (b : Bool) → nat_eq r (n + l) ≡ b → nat_eq l (r - n) ≡ nat_eq r (n + l)
            by_test true e = let t : nat_eq l (r - n) ≡ true = grind (arith, nat_tests) in t ∙ sym e
            by_test false e = let t : nat_eq l (r - n) ≡ false = grind (arith, nat_tests) in t ∙ sym e

        level_test : (n l r : ℕ) → nat_lt r n ≡ false → nat_eq l (r - n) ≡ nat_eq r (n + l)
        level_test n l r e = let le : n ≤ r = grind (arith, nat_tests) in level_test_past n l r le

no_level_entry : (measure : Measure) (n s row r : ℕ) → r < n + row
    → plain_entry measure n s None r ≡ plus_entry measure n s row r
no_level_entry measure n s row r lt = by_row (nat_lt r n) refl
  where
    by_row : (b : Bool) → nat_lt r n ≡ b → plain_entry measure n s None r ≡ plus_entry measure n s row r
    by_row true e = rw e refl
    by_row false e = let t : nat_eq r (n + row) ≡ false = grind (arith, nat_tests) in rw e (rw t refl)

-- the level row of a column, and a row past the last where it has none
abbrev pub row_of : ℕ → Option ℕ → ℕ
row_of past None = past
row_of past (Some l) = l

pub row_entry : (measure : Measure) (n s past r : ℕ) (level : Option ℕ) → r < n + past
    → plain_entry measure n s level r ≡ plus_entry measure n s (row_of past level) r
row_entry measure n s past r None lt = no_level_entry measure n s past r lt
row_entry measure n s past r (Some l) lt = level_entry measure n s l r

-- the entry of a player row
pub member_entry : (measure : Measure) (n s r : ℕ) → r < n
    → plain_entry measure n s None r ≡ (if has_player s r then pos 1 else pos 0)
member_entry measure n s r lt = let t : nat_lt r n ≡ true = grind (arith, nat_tests) in rw t refl

-- ---- a fact of what is there, if anything is

pub for_some : {X : Type 0} (x : X) (P : X → Type 0) → P x → ForSome (Some x) P
for_some {X = X} x P h y e = rw (some_injective x y e) at h
  where
    some_injective : (x y : X) → Some x ≡ Some y → x ≡ y
    some_injective x y e = cc

pub for_none : {X : Type 0} (P : X → Type 0) → ForSome None P
for_none {X = X} P y e = absurd (clash y e)
  where
    clash : (y : X) → None ≡ Some y → ⊥
    clash y e = cc
