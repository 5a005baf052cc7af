-- A program of kept columns lies within the laws of the simplex: the proof that the ghost items of `Listed` and `Lazy`
-- give. It stands here, without tactics, since such an item may cite only the definitions of its own crate.
--
--   kept_lawful   such a program is lawful; all others are steps of it
use Rattle.std.specs.Prelude.{◌≡◌, ◌⊎◌, ℕ, ◌+◌, ◌-◌, ◌≤◌, ◌<◌, Bool, true, false}
use Rattle.std.specs.Prelude.{IsTrue, nat_eq, nat_lt, cond}
use Rattle.std.specs.Prelude.{List, ℤ, pos, negsuc, Option, Some, None, refl, ◌^◌, unsigned_abs}
use Rattle.std.proofs.Common.{inl, inr, sym, ap, subst, ◌∙◌}
use Rattle.std.proofs.lemmas.Bool.{false≢true}
use Rattle.std.proofs.Math.Nat.{le_refl, le_trans, le_of_lt, le-add_right, add-le-add, sub-lt_left_of_lt-add}
use lib.Dec.{lit<}
use Rattle.definitions.proofs.Cases.{same_or_other, nat_eq-other, nat_eq-less, nat_eq-some}
use Rattle.definitions.proofs.Cases.{nat_lt-past, next_below, gap_below}
use Rattle.definitions.specs.Coalitions.{has_player}
use Rattle.std.specs.Option.{ForSome, is_some}
use Rattle.definitions.specs.declared.Measure.{Measure}
use Rattle.definitions.specs.declared.Measure.TheVariants.{Plain, PerHead}
use Rattle.simplex.specs.Laws.{IsSparse, IsInBandA, IsInBandB, IsLawful}
use Rattle.separation.specs.Stage.{signed}
use Rattle.separation.specs.Kept.{is_level, column_entry, column_at, entry_at, cost_at}
use Rattle.separation.specs.Kept.{right_at, kept_program, AreSmall, AreShort}
use Rattle.separation.specs.declared.column.Column.{Column}

abbrev sign_of : Bool → ℤ
sign_of true = negsuc 0
sign_of false = pos 1

sign_is : (b : Bool) → (sign_of b ≡ pos 1) ⊎ (sign_of b ≡ negsuc 0)
sign_is true = inr refl
sign_is false = inl refl

either : (negated b : Bool)
    → (signed negated (cond b (pos 1) (pos 0)) ≡ pos 0)
    ⊎ (signed negated (cond b (pos 1) (pos 0)) ≡ sign_of negated)
either true true = inr refl
either true false = inl refl
either false true = inr refl
either false false = inl refl

nothing : (negated : Bool) → signed negated (pos 0) ≡ pos 0
nothing true = refl
nothing false = refl

in_level : (l : Option ℕ) (i j : ℕ) → i < j → (is_level l i ≡ false) ⊎ (is_level l j ≡ false)
in_level None i j h = inl refl
in_level (Some l) i j h = elim (same_or_other l i) [
  | inl e ↦ inr (nat_eq-less l j (subst (λ (t : ℕ). t < j) (sym e) h))
  | inr ne ↦ inl (nat_eq-other l i ne)
]

entry_either : (n s : ℕ) (level : Option ℕ) (negated : Bool) (r : ℕ)
    → (signed negated
    (cond (nat_lt r n) (cond (has_player s r) (pos 1) (pos 0))
    (cond (is_level level (r - n)) (pos 1) (pos 0))) ≡ pos 0)
    ⊎ (signed negated
    (cond (nat_lt r n) (cond (has_player s r) (pos 1) (pos 0))
    (cond (is_level level (r - n)) (pos 1) (pos 0))) ≡ sign_of negated)
entry_either n s level negated r = by_row (nat_lt r n)
  where
    by_row : (b : Bool)
        → (signed negated
        (cond b (cond (has_player s r) (pos 1) (pos 0)) (cond (is_level level (r - n)) (pos 1) (pos 0)))
        ≡ pos 0)
        ⊎ (signed negated
        (cond b (cond (has_player s r) (pos 1) (pos 0)) (cond (is_level level (r - n)) (pos 1) (pos 0)))
        ≡ sign_of negated)
    by_row true = either negated (has_player s r)
    by_row false = either negated (is_level level (r - n))

column_sparse : (n rows : ℕ) (c : Column) → IsSparse n rows (column_entry Plain n c)
column_sparse n rows c = record {
  sign = sign_of c.negated;
  is_sign = sign_is c.negated;
  entry = λ i lt. entry_either n c.coalition c.level c.negated i;
  one = λ i j le ij lt. elim (in_level c.level (i - n) (j - n) (gap_below n i j le ij)) [
    | inl e ↦ inl (gone i le e)
    | inr e ↦ inr (gone j (le_trans le (le_of_lt ij)) e)
  ];
}
  where
    gone : (i : ℕ) → n ≤ i → is_level c.level (i - n) ≡ false → column_entry Plain n c i ≡ pos 0
    gone i le e =
        ap
        (λ (b : Bool). signed c.negated
        (cond b (cond (has_player c.coalition i) (pos 1) (pos 0))
        (cond (is_level c.level (i - n)) (pos 1) (pos 0)))) (nat_lt-past i n le)
        ∙ ap (λ (b : Bool). signed c.negated (cond b (pos 1) (pos 0))) e
        ∙ nothing c.negated

kept_sparse : (n rows : ℕ) (o : Option Column) → IsTrue (is_some o) → IsSparse n rows (entry_at Plain n o)
kept_sparse n rows None h = absurd (false≢true h)
kept_sparse n rows (Some c) h = column_sparse n rows c

right_either : (n levels r : ℕ) → (right_at n levels r ≡ pos 0) ⊎ (right_at n levels r ≡ pos 1)
right_either n levels r = by_tests (nat_eq levels 0) (nat_eq (r + 1) (n + levels))
  where
    by_tests : (a b : Bool)
        → (cond a (pos 1) (cond b (pos 1) (pos 0)) ≡ pos 0) ⊎ (cond a (pos 1) (cond b (pos 1) (pos 0)) ≡ pos 1)
    by_tests true b = inr refl
    by_tests false true = inr refl
    by_tests false false = inl refl

right_sparse : (n levels : ℕ) → IsSparse n (n + levels) (right_at n levels)
right_sparse n levels = record {
  sign = pos 1;
  is_sign = inl refl;
  entry = λ i lt. right_either n levels i;
  one = λ i j le ij lt. inl
      (ap (λ (b : Bool). cond b (pos 1) (cond (nat_eq (i + 1) (n + levels)) (pos 1) (pos 0)))
      (nat_eq-some (j - n) levels (sub-lt_left_of_lt-add (le_trans le (le_of_lt ij)) lt))
      ∙ ap (λ (b : Bool). cond b (pos 1) (pos 0))
      (nat_eq-less (i + 1) (n + levels) (next_below i j (n + levels) ij lt)));
}

cost_small : (o : Option Column) → ForSome o (λ c. unsigned_abs c.cost < 2 ^ 46) → unsigned_abs (cost_at o) < 2 ^ 46
cost_small None h = lit< tt
cost_small (Some c) h = h c refl

band_of : (measure : Measure) (players levels : ℕ) (columns : List (Option Column)) → levels ≤ 15
    → AreShort measure players levels columns
    → IsInBandA players (kept_program measure players levels columns)
    ⊎ IsInBandB (kept_program measure players levels columns)
band_of Plain players levels columns few_levels short = inl (record {
  levels = add-le-add (le_refl players) few_levels;
  columns = λ id is. kept_sparse players (players + levels) (column_at columns id) is;
  right = right_sparse players levels;
})
band_of PerHead players levels columns few_levels short = inr (short refl)

pub kept_lawful : (measure : Measure) (players levels : ℕ) (columns : List (Option Column)) → players ≤ 16
    → levels ≤ 15 → AreSmall levels columns → AreShort measure players levels columns
    → IsLawful players (kept_program measure players levels columns)
kept_lawful measure players levels columns few few_levels small short = record {
  players_few = few;
  players_within = le-add_right players levels;
  rows_few = add-le-add few few_levels;
  band = band_of measure players levels columns few_levels short;
  rights = λ i lt. right_either players levels i;
  costs = λ id is. cost_small (column_at columns id) (small.costs id);
}
