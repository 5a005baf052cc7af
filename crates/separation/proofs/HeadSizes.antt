-- The sizes of the entries of a column per head sum to at most 14 for 8 players.
--
-- So the programs per head are in band B: of at most 8 players there are at most 15 rows. A column with a level row is
-- of at most 7 members (ProperColumns.antt), so its sizes sum to at most 7 + 7, and those of the others to at most 8. 9
-- players would be too many for the band, and that is why the solver stops at 8.
use Rattle.std.specs.Prelude.{◌≡◌, ◌⊎◌, ℕ, zero, suc, ◌+◌, ◌-◌, ◌^◌, ◌<◌, ◌≤◌}
use Rattle.std.specs.Prelude.{Bool, true, false, IsTrue, cond}
use Rattle.std.specs.Prelude.{nat_eq, nat_lt, length, ℤ, pos, Option, Some, None, refl, unsigned_abs}
use Rattle.std.proofs.Common.{inl, inr, arith, sym, ap, ◌∙◌}
use Rattle.std.proofs.lemmas.Bool.{false≢true}
use Rattle.std.proofs.lemmas.Bool.Decides.{nat_tests}
use Rattle.std.proofs.lemmas.Int.{ints}
use Rattle.std.proofs.lemmas.Nat.Bits.{bit_at_above, same_from_bits}
use Rattle.std.specs.Int.{bit_at}
use Rattle.std.specs.Option.{ForSome, is_some}
use Rattle.definitions.proofs.Members.{has_player-grand_coalition, members-zero}
use Rattle.definitions.proofs.Cases.{below_or_above, less_or_last}
use Rattle.definitions.proofs.Masks.{grand_coalition-within}
use Rattle.definitions.proofs.Sizes.{length-more_yes, length-more_no, length-few, size-at}
use Rattle.definitions.specs.Coalitions.{has_player, grand_coalition, members, size}
use Rattle.definitions.specs.declared.Measure.TheVariants.{PerHead}
use Rattle.simplex.specs.Laws.{sizes}
use Rattle.separation.specs.Stage.{signed}
use Rattle.separation.specs.Kept.{is_level, column_entry, entry_at}
use Rattle.separation.specs.declared.column.Column.{Column}

-- ---- some player is no member of a coalition that isn't that of all

all_or_out : (n s : ℕ) → ((i : ℕ) → i < n → has_player s i ≡ true) ⊎ ((i : ℕ) × (i < n) × (has_player s i ≡ false))
all_or_out zero s = inl (λ i lt. absurd (omega arith))
all_or_out (suc n) s = elim (all_or_out n s) [
  | inl all ↦ by_last_player (has_player s n) refl all
  | inr (i, lt, out) ↦ inr (i, omega (arith, lt), out)
]
  where
    by_last_player : (b : Bool) → has_player s n ≡ b → ((i : ℕ) → i < n → has_player s i ≡ true)
        → ((i : ℕ) → i < suc n → has_player s i ≡ true) ⊎ ((i : ℕ) × (i < suc n) × (has_player s i ≡ false))
    by_last_player true e all =
        inl (λ i lt. elim (less_or_last i n lt) [ inl less ↦ all i less | inr same ↦ ap (has_player s) same ∙ e ])
    by_last_player false e all = inr (n, omega arith, e)

all_members : (n s : ℕ) → s < 2 ^ n → ((i : ℕ) → i < n → has_player s i ≡ true) → s ≡ grand_coalition n
all_members n s h all =
    same_from_bits s (grand_coalition n) (λ j. elim (below_or_above j n) [
      | inl lt ↦ bit_is_one (bit_at s j) (all j lt)
          ∙ sym (bit_is_one (bit_at (grand_coalition n) j) (has_player-grand_coalition n j lt))
      | inr le ↦ bit_at_above s n j h le ∙ sym (bit_at_above (grand_coalition n) n j (grand_coalition-within n) le)
    ])
  where
    bit_is_one : (b : ℕ) → nat_eq b 1 ≡ true → b ≡ 1
    bit_is_one b e = grind (arith, nat_tests)

some_out : (n s : ℕ) → s < grand_coalition n → (i : ℕ) × (i < n) × (has_player s i ≡ false)
some_out n s lt = elim (all_or_out n s) [
  | inl all ↦ absurd
      (let e = all_members n s (let b = grand_coalition-within n in omega arith) all in
      omega arith)
  | inr out ↦ out
]

-- ---- how many members

fewer_members : (n s i : ℕ) → i < n → has_player s i ≡ false → length (members n s) + 1 ≤ n
fewer_members zero s i lt out = absurd (omega arith)
fewer_members (suc n) s i lt out =
    let next : suc n ≡ n + 1 = omega arith in
    rw next (by_last_player (has_player s n) refl (less_or_last i n lt) (λ less. fewer_members n s i less out))
  where
    by_last_player : (b : Bool) → has_player s n ≡ b → (i < n) ⊎ (i ≡ n) → (i < n → length (members n s) + 1 ≤ n)
        → length (members (n + 1) s) + 1 ≤ n + 1
    by_last_player false h w fewer = omega (arith, length-more_no n s h, length-few n s)
    by_last_player true h (inl less) fewer = omega (arith, length-more_yes n s h, fewer less)
    by_last_player true h (inr same) fewer = absurd (false≢true (sym out ∙ ap (has_player s) same ∙ h))

-- a coalition that isn't that of all has fewer members than there are players
size_proper : (n s : ℕ) → n ≤ 64 → s < grand_coalition n → size s + 1 ≤ n
size_proper n s few lt =
    let out = some_out n s lt in
    let here = size-at n s few (let b = grand_coalition-within n in omega arith) in
    omega (arith, here, fewer_members n s out.0 out.1 out.2)

-- ---- the entries

-- a column of a coalition of n players, and not of all of them where it has a level row
abbrev pub IsProper : ℕ → Column → Type 0
IsProper n c = (c.coalition < 2 ^ n) × ForSome c.level (λ l. c.coalition < grand_coalition n)

sizes_split : (n j : ℕ) (a : ℕ → ℤ) → sizes (n + j) a ≡ sizes n a + sizes j (λ k. a (n + k))
sizes_split n zero a = let e : n + 0 ≡ n = omega arith in rw e (omega arith)
sizes_split n (suc j) a =
    let e : n + suc j ≡ suc (n + j) = omega arith in
    rw e (omega (arith, sizes_split n j a))

sizes_same : (n : ℕ) (a b : ℕ → ℤ) → ((i : ℕ) → i < n → unsigned_abs (a i) ≡ unsigned_abs (b i))
    → sizes n a ≡ sizes n b
sizes_same zero a b h = refl
sizes_same (suc n) a b h =
    let ih = sizes_same n a b (λ i lt. h i (omega (arith, lt))) in
    let here = h n (omega arith) in
    omega arith

size_signed : (negated : Bool) (z : ℤ) → unsigned_abs (signed negated z) ≡ unsigned_abs z
size_signed true z = omega (arith, ints)
size_signed false z = refl

member_sizes : (n s : ℕ) → sizes n (λ i. cond (has_player s i) (pos 1) (pos 0)) ≡ length (members n s)
member_sizes zero s = rw (members-zero s) refl
member_sizes (suc n) s =
    let next : suc n ≡ n + 1 = omega arith in
    sym (cc (by_last_player (has_player s n) refl (member_sizes n s)))
  where
    by_last_player : (b : Bool) → has_player s n ≡ b
        → sizes n (λ i. cond (has_player s i) (pos 1) (pos 0)) ≡ length (members n s)
        → sizes n (λ i. cond (has_player s i) (pos 1) (pos 0))
        + unsigned_abs (cond (has_player s n) (pos 1) (pos 0)) ≡ length (members (n + 1) s)
    by_last_player true h same =
        ap (λ (b : Bool). sizes n (λ i. cond (has_player s i) (pos 1) (pos 0))
        + unsigned_abs (cond b (pos 1) (pos 0))) h ∙ omega (arith, length-more_yes n s h, same)
    by_last_player false h same =
        ap (λ (b : Bool). sizes n (λ i. cond (has_player s i) (pos 1) (pos 0))
        + unsigned_abs (cond b (pos 1) (pos 0))) h ∙ omega (arith, length-more_no n s h, same)

-- at most one level row has an entry
level_sizes : (j l d : ℕ)
    → (sizes j (λ k. cond (nat_eq l k) (pos d) (pos 0)) ≤ d)
    × (j ≤ l → sizes j (λ k. cond (nat_eq l k) (pos d) (pos 0)) ≡ 0)
level_sizes zero l d = (omega arith, λ le. refl)
level_sizes (suc j) l d = by_last_row (nat_eq l j) refl (level_sizes j l d)
  where
    by_last_row : (b : Bool) → nat_eq l j ≡ b
        → (sizes j (λ k. cond (nat_eq l k) (pos d) (pos 0)) ≤ d)
        × (j ≤ l → sizes j (λ k. cond (nat_eq l k) (pos d) (pos 0)) ≡ 0)
        → (sizes (suc j) (λ k. cond (nat_eq l k) (pos d) (pos 0)) ≤ d)
        × (suc j ≤ l → sizes (suc j) (λ k. cond (nat_eq l k) (pos d) (pos 0)) ≡ 0)
    by_last_row true e (low, none) =
        let same : l ≡ j = grind (arith, nat_tests) in
        (rw e (omega (arith, none (omega (arith, same)))), λ le. absurd (omega arith))
    by_last_row false e (low, none) =
        (rw e (omega (arith, low)), λ le. rw e (omega (arith, none (omega (arith, le)))))

no_sizes : (j : ℕ) → sizes j (λ k. pos 0) ≡ 0
no_sizes zero = refl
no_sizes (suc j) = omega (arith, no_sizes j)

-- the entries in the rows of the players
player_part : (n : ℕ) (c : Column) → sizes n (column_entry PerHead n c) ≡ length (members n c.coalition)
player_part n c =
    sizes_same n (column_entry PerHead n c) (λ i. cond (has_player c.coalition i) (pos 1) (pos 0)) (λ i lt.
    let t : nat_lt i n ≡ true = grind (arith, nat_tests) in
    rw t (size_signed c.negated (cond (has_player c.coalition i) (pos 1) (pos 0))))
    ∙ member_sizes n c.coalition

-- those in the rows of the levels
level_part : (n j : ℕ) (c : Column)
    → sizes j (λ k. column_entry PerHead n c (n + k))
    ≡ sizes j (λ k. cond (is_level c.level k) (pos (size c.coalition)) (pos 0))
level_part n j c =
    sizes_same j (λ k. column_entry PerHead n c (n + k))
    (λ k. cond (is_level c.level k) (pos (size c.coalition)) (pos 0)) (λ k lt.
    let t : nat_lt (n + k) n ≡ false = grind (arith, nat_tests) in
    let e : n + k - n ≡ k = omega arith in
    rw t (rw e (size_signed c.negated (cond (is_level c.level k) (pos (size c.coalition)) (pos 0)))))

level_few : (n j s : ℕ) (level : Option ℕ) → n ≤ 8 → ForSome level (λ l. s < grand_coalition n)
    → length (members n s) + sizes j (λ k. cond (is_level level k) (pos (size s)) (pos 0)) ≤ 14
level_few n j s None few proper = omega (arith, few, no_sizes j, length-few n s)
level_few n j s (Some l) few proper =
    let lt = proper l refl in
    let out = some_out n s lt in
    omega (
      arith,
      (level_sizes j l (size s)).0,
      size_proper n s (omega (arith, few)) lt,
      fewer_members n s out.0 out.1
          out.2,
    )

column_short : (n j : ℕ) (c : Column) → n ≤ 8 → IsProper n c → sizes (n + j) (column_entry PerHead n c) ≤ 14
column_short n j c few proper =
    omega (
      arith,
      sizes_split n j (column_entry PerHead n c),
      player_part n c,
      level_part n j c,
      level_few n j c.coalition c.level few proper.1,
    )

pub kept_short : (n j : ℕ) (o : Option Column) → n ≤ 8 → ForSome o (IsProper n) → IsTrue (is_some o)
    → sizes (n + j) (entry_at PerHead n o) ≤ 14
kept_short n j None few proper is = absurd (false≢true is)
kept_short n j (Some c) few proper is = column_short n j c few (proper c refl)
