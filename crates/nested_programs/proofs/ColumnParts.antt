-- The part of a column's number in the sums of a level at a player is the entry of the column in the player's row.
--
--   parts   the part of a number in the coalitions outside, in the earlier ones, all players first, and in the bounds
use Rattle.std.proofs.Common.{◌≡◌, ◌≢◌, ℕ, zero, suc, ◌+◌, ◌-◌, ◌*◌, ◌<◌, ◌≤◌}
use Rattle.std.proofs.Common.{Bool, true, false, cond, List, [], ◌∷◌, length, ℤ, pos}
use Rattle.std.proofs.Common.{◌+ℤ◌, ◌-ℤ◌, refl, sym, ap, ◌∙◌, inl, inr, arith, nat_eq}
use Rattle.std.proofs.Common.{nat_lt, nat_le, if◌then◌else◌, slice_index_or}
use Rattle.std.proofs.lemmas.Bool.Decides.{nat_tests}
use Rattle.definitions.proofs.Ring.{linear}
use Rattle.definitions.specs.Coalitions.{has_player, singleton, grand_coalition}
use Rattle.definitions.specs.declared.Measure.{Measure}
use Rattle.definitions.specs.Certificates.{Level}
use Rattle.separation.specs.Stage.{plus_entry, entry_of, earlier_of, doubled}
use Rattle.separation.specs.Stage.{settled_columns, no_column, further_column, column}
use Rattle.nested_programs.specs.Numbers.{first_single}
use Rattle.nested_programs.proofs.Advance.{column_further, column_single}
use Rattle.nested_programs.proofs.Form.{entry_outer, entry_single}
use Rattle.nested_programs.proofs.LevelSums.{is_at, outer_part, pair_part, earlier_part}
use Rattle.definitions.proofs.Cases.{true_or_false}

-- ---- the numbers of the columns

pub doubled_length : (cs : List (ℕ × ℕ)) → length (doubled cs) ≡ 2 * length cs
doubled_length [] = refl
doubled_length (c ∷ cs) = let ih = doubled_length cs in omega (arith, ih)

pub settled_length : (n : ℕ) (front : List Level) → length (settled_columns n front) ≡ first_single front
settled_length n front =
    let long = doubled_length ((grand_coalition n, length front + 1) ∷ earlier_of 0 front) in
    omega (arith, long)

pub bound_column : (n : ℕ) (front : List Level) (p : ℕ) → p < n
    → column n front (length (settled_columns n front) + (n + p))
    ≡ record { mask = singleton p; row = length front + 1; minus = true }
bound_column n front p h = column_further n front (n + p) ∙ further_is
  where
    further_is : further_column n (length front) (n + p)
        ≡ record { mask = singleton p; row = length front + 1; minus = true }
    further_is =
        let t : nat_lt (n + p) n ≡ false = grind (arith, nat_tests) in
        let u : nat_lt (n + p) (n + n) ≡ true = grind (arith, nat_tests) in
        let v : n + p - n ≡ p = omega arith in
        rw t (rw u (rw v refl))

-- a number is that of a settled column, of a player alone, of that negated, or of a coalition
data Kind (len n id : ℕ) : Type 0 where
  settled : id < len → Kind len n id
  alone : (p : ℕ) → p < n → id ≡ len + p → Kind len n id
  negated : (p : ℕ) → p < n → id ≡ len + (n + p) → Kind len n id
  outer : (s : ℕ) → id ≡ len + (n + n + s) → Kind len n id

kind_of : (len n id : ℕ) → Kind len n id
kind_of len n id = elim (true_or_false (nat_lt id len)) [
  | inl below ↦ settled (grind (arith, nat_tests))
  | inr past ↦
      let le : len ≤ id = grind (arith, nat_tests) in
      elim (true_or_false (nat_lt id (len + n))) [
        | inl below ↦ alone (id - len) (grind (arith, nat_tests)) (omega arith)
        | inr more ↦
            let le' : len + n ≤ id = grind (arith, nat_tests) in
            elim (true_or_false (nat_lt id (len + (n + n)))) [
              | inl below ↦ negated (id - (len + n)) (grind (arith, nat_tests)) (omega arith)
              | inr beyond ↦
                  let le'' : len + (n + n) ≤ id = grind (arith, nat_tests) in
                  outer (id - (len + (n + n))) (omega arith)
            ]
      ]
]

-- ---- parts at single numbers

is_at-same : (id k : ℕ) → k ≡ id → is_at id k ≡ pos 1
is_at-same id k h = let t : nat_eq k id ≡ true = grind (arith, nat_tests) in rw t refl

is_at-other : (id k : ℕ) → k ≢ id → is_at id k ≡ pos 0
is_at-other id k h = let t : nat_eq k id ≡ false = grind (arith, nat_tests) in rw t refl

same_shift : (a b c d : ℕ) (e : Bool) → nat_eq a b ≡ e → (a ≡ b → c ≡ d) → (c ≡ d → a ≡ b) → nat_eq c d ≡ e
same_shift a b c d true t up down =
    let ab : a ≡ b = grind (arith, nat_tests) in
    let cd : c ≡ d = up ab in
    grind (arith, nat_tests)
same_shift a b c d false t up down = elim (true_or_false (nat_eq c d)) [
  | inl eq ↦
      let cd : c ≡ d = grind (arith, nat_tests) in
      let ab : a ≡ b = down cd in
      absurd (grind (arith, nat_tests))
  | inr ne ↦ ne
]

is_at-shift : (first i p : ℕ) → is_at (first + i) (first + p) ≡ (if nat_eq p i then pos 1 else pos 0)
is_at-shift first i p =
    ap (λ (b : Bool). cond b (pos 1) (pos 0))
    (same_shift p i (first + p) (first + i) (nat_eq p i) refl (λ e. omega arith) (λ e. omega arith))

outer_part-before : (first i id : ℕ) → id < first → outer_part first i id ≡ pos 0
outer_part-before first i id h = let t : nat_le first id ≡ false = grind (arith, nat_tests) in rw t refl

outer_part-at : (first i s : ℕ) → outer_part first i (first + s) ≡ (if has_player s i then pos 1 else pos 0)
outer_part-at first i s =
    let t : nat_le first (first + s) ≡ true = grind (arith, nat_tests) in
    let e : first + s - first ≡ s = omega arith in
    rw t (rw e refl)

pair_part-other : (b : Bool) (id k : ℕ) → k ≢ id → k ≢ id + 1 → pair_part b id k ≡ pos 0
pair_part-other true id k h h' = omega (arith, linear, is_at-other id k h, is_at-other (id + 1) k h')
pair_part-other false id k h h' = refl

pair_part-plus : (b : Bool) (id k : ℕ) → k ≡ id → pair_part b id k ≡ (if b then pos 1 else pos 0)
pair_part-plus true id k h = omega (arith, linear, is_at-same id k h, is_at-other (id + 1) k (λ e. omega arith))
pair_part-plus false id k h = refl

pair_part-minus : (b : Bool) (id k : ℕ) → k ≡ id + 1 → pair_part b id k ≡ pos 0 -ℤ (if b then pos 1 else pos 0)
pair_part-minus true id k h = omega (arith, linear, is_at-other id k (λ e. omega arith), is_at-same (id + 1) k h)
pair_part-minus false id k h = refl

earlier_part-before : (i id : ℕ) (cs : List (ℕ × ℕ)) (k : ℕ) → k < id → earlier_part i id cs k ≡ pos 0
earlier_part-before i id [] k h = refl
earlier_part-before i id (c ∷ cs) k h =
    omega (
      arith,
      linear,
      pair_part-other (has_player c.0 i) id k (λ e. omega arith) (λ e. omega arith),
      earlier_part-before i (id + 2) cs k (omega arith),
    )

earlier_part-past : (i id : ℕ) (cs : List (ℕ × ℕ)) (k : ℕ) → id + 2 * length cs ≤ k → earlier_part i id cs k ≡ pos 0
earlier_part-past i id [] k h = refl
earlier_part-past i id (c ∷ cs) k h =
    omega (
      arith,
      linear,
      pair_part-other (has_player c.0 i) id k (λ e. omega arith) (λ e. omega arith),
      earlier_part-past i (id + 2) cs k (omega arith),
    )

-- ---- the settled columns

row_entry : (measure : Measure) (n mask row i : ℕ) → i < n
    → plus_entry measure n mask row i ≡ (if has_player mask i then pos 1 else pos 0)
row_entry measure n mask row i h = let t : nat_lt i n ≡ true = grind (arith, nat_tests) in rw t refl

earlier_entry : (measure : Measure) (n i : ℕ) → i < n → (id : ℕ) (cs : List (ℕ × ℕ)) (j : ℕ) → j < 2 * length cs
    → earlier_part i id cs (id + j) ≡ entry_of measure n (slice_index_or (doubled cs) j no_column) i
earlier_entry measure n i h id [] j lt = absurd (omega arith)
earlier_entry measure n i h id (c ∷ cs) zero lt =
    omega (
      arith,
      linear,
      pair_part-plus (has_player c.0 i) id (id + zero) (omega arith),
      earlier_part-before i (id + 2) cs (id + zero) (omega arith),
      row_entry measure n c.0 c.1 i h,
    )
earlier_entry measure n i h id (c ∷ cs) (suc zero) lt =
    omega (
      arith,
      linear,
      pair_part-minus (has_player c.0 i) id (id + suc zero) (omega arith),
      earlier_part-before i (id + 2) cs (id + suc zero) (omega arith),
      row_entry measure n c.0 c.1 i h,
    )
earlier_entry measure n i h id (c ∷ cs) (suc (suc j)) lt =
    let e : id + suc (suc j) ≡ id + 2 + j = omega arith in
    let none = pair_part-other (has_player c.0 i) id (id + suc (suc j)) (λ e. omega arith) (λ e. omega arith) in
    let ih = earlier_entry measure n i h (id + 2) cs j (omega arith) in
    omega (arith, linear, ap (λ (k : ℕ). earlier_part i (id + 2) cs k) e)

-- ---- the parts of a number

abbrev pub parts : ℕ → ℕ → List (ℕ × ℕ) → ℕ → ℕ → ℤ
parts n first cs i id =
    outer_part (first + (n + n)) i id +ℤ earlier_part i 0 cs id
    +ℤ (is_at (first + i) id -ℤ is_at (first + i + n) id)

parts-settled : (measure : Measure) (n first : ℕ) (cs : List (ℕ × ℕ)) (i id : ℕ) → first ≡ 2 * length cs → i < n
    → id < first → parts n first cs i id ≡ entry_of measure n (slice_index_or (doubled cs) id no_column) i
parts-settled measure n first cs i id long h lt =
    let e : 0 + id ≡ id = omega arith in
    let within = earlier_entry measure n i h 0 cs id (omega arith) in
    omega (
      arith,
      linear,
      outer_part-before (first + (n + n)) i id (omega arith),
      ap
          (λ (k : ℕ). earlier_part i 0 cs k) e,
      is_at-other (first + i) id (λ e. omega arith),
      is_at-other (first + i + n)
          id (λ e. omega arith),
    )

parts-alone : (n first : ℕ) (cs : List (ℕ × ℕ)) (i p : ℕ) → first ≡ 2 * length cs → p < n
    → parts n first cs i (first + p) ≡ (if nat_eq p i then pos 1 else pos 0)
parts-alone n first cs i p long h =
    omega (
      arith,
      linear,
      outer_part-before (first + (n + n)) i (first + p) (omega arith),
      earlier_part-past i 0 cs (first + p) (omega arith),
      is_at-shift first i p,
      is_at-other (first + i + n) (first + p) (λ e. omega arith),
    )

parts-negated : (n first : ℕ) (cs : List (ℕ × ℕ)) (i p : ℕ) → first ≡ 2 * length cs → i < n → p < n
    → parts n first cs i (first + (n + p)) ≡ pos 0 -ℤ (if nat_eq p i then pos 1 else pos 0)
parts-negated n first cs i p long h h' =
    let e : first + (n + p) ≡ first + n + p = omega arith in
    let e' : first + i + n ≡ first + n + i = omega arith in
    let moved = ap (λ (k : ℕ). is_at k (first + (n + p))) e' ∙ ap (λ (k : ℕ). is_at (first + n + i) k) e in
    omega (
      arith,
      linear,
      outer_part-before (first + (n + n)) i (first + (n + p)) (omega arith),
      earlier_part-past i 0
          cs (first + (n + p)) (omega arith),
      is_at-other (first + i) (first + (n + p)) (λ e. omega arith),
      is_at-shift
          (first + n) i p,
    )

parts-outer : (n first : ℕ) (cs : List (ℕ × ℕ)) (i s : ℕ) → first ≡ 2 * length cs → i < n
    → parts n first cs i (first + (n + n + s)) ≡ (if has_player s i then pos 1 else pos 0)
parts-outer n first cs i s long h =
    let e : first + (n + n + s) ≡ first + (n + n) + s = omega arith in
    omega (
      arith,
      linear,
      ap (λ (k : ℕ). outer_part (first + (n + n)) i k) e,
      outer_part-at (first + (n + n)) i s,
      earlier_part-past i 0 cs (first + (n + n + s)) (omega arith),
      is_at-other (first + i) (first + (n + n + s)) (λ e. omega arith),
      is_at-other (first + i + n) (first + (n + n + s)) (λ e. omega arith),
    )

-- ---- the entries

entry_settled : (measure : Measure) (n : ℕ) (front : List Level) (id i : ℕ) → id < length (settled_columns n front)
    → entry_of measure n (column n front id) i
    ≡ entry_of measure n (slice_index_or (settled_columns n front) id no_column) i
entry_settled measure n front id i h =
    let t : nat_lt id (length (settled_columns n front)) ≡ true = grind (arith, nat_tests) in rw t refl

entry_negated : (measure : Measure) (n : ℕ) (front : List Level) (p i : ℕ) → p < n → i < n
    → entry_of measure n (column n front (length (settled_columns n front) + (n + p))) i
    ≡ pos 0 -ℤ (if nat_eq p i then pos 1 else pos 0)
entry_negated measure n front p i k h =
    let plus =
    sym (ap (λ c. entry_of measure n c i) (column_single n front p k)) ∙ entry_single measure n front p i k h in
    cc (bound_column n front p k)

-- the coalition of all players, then those of the levels in front
abbrev pub settled_pairs : ℕ → List Level → List (ℕ × ℕ)
settled_pairs n front = (grand_coalition n, length front + 1) ∷ earlier_of 0 front

entry_parts : (measure : Measure) (n : ℕ) (front : List Level) (i id : ℕ) → i < n
    → Kind (length (settled_columns n front)) n id
    → parts n (length (settled_columns n front)) (settled_pairs n front) i id
    ≡ entry_of measure n (column n front id) i
entry_parts measure n front i id h kind = elim kind [
  | settled lt ↦ parts-settled measure n len cs i id long h lt ∙ sym (entry_settled measure n front id i lt)
  | alone p lt e ↦ ap part e ∙ parts-alone n len cs i p long lt
      ∙ sym (ap entry e ∙ entry_single measure n front p i lt h)
  | negated p lt e ↦ ap part e ∙ parts-negated n len cs i p long h lt
      ∙ sym (ap entry e ∙ entry_negated measure n front p i lt h)
  | outer s e ↦ ap part e ∙ parts-outer n len cs i s long h ∙ sym (ap entry e ∙ entry_outer measure n front s i h)
]
  where
    len : ℕ
    len = length (settled_columns n front)

    cs : List (ℕ × ℕ)
    cs = settled_pairs n front

    long : len ≡ 2 * length cs
    long = doubled_length cs

    part : ℕ → ℤ
    part k = parts n len cs i k

    entry : ℕ → ℤ
    entry k = entry_of measure n (column n front k) i

-- each number's part is the entry of its column
pub column_parts : (measure : Measure) (n : ℕ) (front : List Level) (i id : ℕ) → i < n
    → parts n (first_single front) (settled_pairs n front) i id ≡ entry_of measure n (column n front id) i
column_parts measure n front i id h =
    cc (settled_length n front, entry_parts measure n front i id h (kind_of (length (settled_columns n front)) n id))
