-- The nucleolus of a small game, from a test of its certificate that computes: its form, and all its conditions in mode
-- players.
use Rattle.std.proofs.Common.{◌≡◌, ℕ, ◌^◌, Bool, true, false, ◌&&◌, ◌||◌, not, nat_eq, List, [], ◌∷◌, ◌++◌, length, ℤ}
use Rattle.std.proofs.Common.{pos}
use Rattle.std.proofs.Common.{◌+ℤ◌, ◌*ℤ◌, ◌≤ℤ◌, int_le, refl, inl, arith}
use Rattle.std.specs.List.{AllByRecursion, list_all}
use Rattle.std.specs.Ordering.{int_eq}
use Rattle.std.proofs.lemmas.Bool.{and_parts, false≢true}
use Rattle.std.proofs.lemmas.Int.{ints}
use Rattle.definitions.specs.Coalitions.{singleton, grand_coalition, weight_at, splits}
use Rattle.definitions.specs.Measures.{measured_den, IsMeasurable}
use Rattle.definitions.specs.Games.{Game, Allocation, share, amount, measured_excess, InFamily, IsNucleolus}
use Rattle.definitions.specs.Games.{IsAllocation, IsEfficient, IsIndividuallyRational}
use Rattle.definitions.specs.Certificates.{Level, is_free, number_at, LevelHolds, LevelsHold, IsAllFixed}
use Rattle.definitions.specs.declared.Family.{Family}
use Rattle.definitions.specs.declared.Family.TheVariants.{Imputations, Preimputations}
use Rattle.definitions.specs.declared.Measure.{Measure}
use Rattle.definitions.specs.declared.Mode.TheVariants.{Players}
use Rattle.definitions.proofs.Cases.{from_nat_eq}
use Rattle.definitions.proofs.Splits.{passes_below, passes_below-at}
use Rattle.theorems.proofs.Forms.{all_from, has_form, HasForm-from_test}
use Rattle.theorems.proofs.Soundness.{IsNucleolus-from_certificate}

pub from_int_eq : (a b : ℤ) → int_eq a b ≡ true → a ≡ b
from_int_eq a b e = grind (arith, ints)

pub from_int_le : (a b : ℤ) → int_le a b ≡ true → a ≤ℤ b
from_int_le a b e = grind (arith, ints)

pub to_int_le : (a b : ℤ) → a ≤ℤ b → int_le a b ≡ true
to_int_le a b le = grind (arith, ints)

-- where b holds, so does c
implied : (b c : Bool) → (not b || c) ≡ true → b ≡ true → c ≡ true
implied true c h e = h
implied false c h e = absurd (false≢true e)

-- ---- the family

abbrev pub is_rational : Game → Allocation → ℕ → Bool
is_rational g x i = int_le (x.den *ℤ g.worth (singleton i)) (share x i)

-- an imputation, and so a preimputation
abbrev pub is_imputation : Game → Allocation → Bool
is_imputation g x =
    nat_eq (length x.shares) g.players && (int_le (pos 1) x.den
    && (int_eq (amount x (grand_coalition g.players)) (x.den *ℤ g.worth (grand_coalition g.players))
    && passes_below g.players (is_rational g x)))

in_family : (family : Family) (g : Game) (x : Allocation) → is_imputation g x ≡ true → InFamily family g x
in_family family g x h =
    let a = and_parts (nat_eq (length x.shares) g.players) _ h in
    let b = and_parts (int_le (pos 1) x.den) _ a.1 in
    let c =
    and_parts (int_eq (amount x (grand_coalition g.players)) (x.den *ℤ g.worth (grand_coalition g.players)))
    (passes_below g.players (is_rational g x)) b.1 in
    member family
    ((from_nat_eq _ _ a.0, from_int_le _ _ b.0))
    (from_int_eq _ _ c.0)
    (λ i lt. from_int_le _ _ (passes_below-at g.players (is_rational g x) c.1 i lt))
  where
    member : (family : Family) → IsAllocation g x → IsEfficient g x → IsIndividuallyRational g x → InFamily family g x
    member Imputations allocation efficient rational = (allocation, efficient, rational)
    member Preimputations allocation efficient rational = (allocation, efficient)

-- ---- a level, whose bounds are none

-- the weights of the level add to its total at player i
abbrev pub balances : Level → ℕ → Bool
balances l i = int_eq (weight_at l.coalitions i +ℤ weight_at l.earlier i +ℤ number_at l.bounds i) l.total

module _ (family : Family) (measure : Measure) (g : Game) (x : Allocation) where
  abbrev pub has_excess : Level → ℕ × ℤ → Bool
  has_excess l c =
      int_eq (measured_excess measure g x c.0 *ℤ l.excess_den) (l.excess_num *ℤ measured_den measure x.den)

  abbrev pub is_low : List Level → Level → ℕ → Bool
  is_low front l s =
      not (splits g.players (is_free g.players front) s)
      || int_le (measured_excess measure g x s *ℤ l.excess_den) (l.excess_num *ℤ measured_den measure x.den)

  abbrev pub level_holds : List Level → Level → Bool
  level_holds front l =
      list_all (has_excess l) l.coalitions && (list_all (λ c. int_le (pos 1) c.1) l.coalitions
      && (nat_eq (length l.bounds) 0 && (passes_below g.players (balances l)
      && passes_below (2 ^ g.players) (is_low front l))))

  holds_from : (front : List Level) (l : Level) → level_holds front l ≡ true
      → LevelHolds Players family measure g x front l
  holds_from front l h =
      let a = and_parts (list_all (has_excess l) l.coalitions) _ h in
      let b = and_parts (list_all (λ c. int_le (pos 1) c.1) l.coalitions) _ a.1 in
      let c = and_parts (nat_eq (length l.bounds) 0) _ b.1 in
      let d =
      and_parts (passes_below g.players (balances l)) (passes_below (2 ^ g.players) (is_low front l)) c.1 in
      record {
        excesses = all_from _ _ (λ c e. from_int_eq _ _ e) l.coalitions a.0;
        weights = all_from _ _ (λ c e. from_int_le _ _ e) l.coalitions b.0;
        bound_weights = none _ l.bounds (from_nat_eq _ _ c.0);
        balanced = λ i lt. from_int_eq _ _ (passes_below-at g.players (balances l) d.0 i lt);
        tight = none _ l.bounds (from_nat_eq _ _ c.0);
        outside = λ s lt out. from_int_le _ _
            (implied _ _ (passes_below-at (2 ^ g.players) (is_low front l) d.1 s lt) out);
      }
    where
      none : {X : Type 0} (P : X → Type 0) (xs : List X) → length xs ≡ 0 → AllByRecursion P xs
      none P [] e = tt
      none P (x ∷ xs) e = absurd (omega (arith, e))

  -- ---- all levels, and at their end one player at most is free

  abbrev pub are_one : List Level → ℕ → ℕ → Bool
  are_one levels i j = not (is_free g.players levels i) || (not (is_free g.players levels j) || nat_eq i j)

  abbrev pub is_all_fixed : List Level → Bool
  is_all_fixed levels = passes_below g.players (λ i. passes_below g.players (are_one levels i))

  fixed_from : (levels : List Level) → is_all_fixed levels ≡ true → IsAllFixed Players g.players levels
  fixed_from levels h i j hi hj fi fj =
      let each = passes_below-at g.players (λ i. passes_below g.players (are_one levels i)) h i hi in
      let both = passes_below-at g.players (are_one levels i) each j hj in
      from_nat_eq i j (implied _ _ (implied _ _ both fi) fj)

  abbrev pub levels_hold : List Level → List Level → Bool
  levels_hold front [] = is_all_fixed front
  levels_hold front (l ∷ levels) = level_holds front l && levels_hold (front ++ l ∷ []) levels

  hold_from : (front levels : List Level) → levels_hold front levels ≡ true
      → LevelsHold Players family measure g x front levels
  hold_from front [] h = fixed_from front h
  hold_from front (l ∷ levels) h =
      let parts = and_parts (level_holds front l) (levels_hold (front ++ l ∷ []) levels) h in
      (holds_from front l parts.0, hold_from (front ++ l ∷ []) levels parts.1)

  -- the levels have their form and meet all conditions, for both families alike
  abbrev pub is_certified : List Level → Bool
  is_certified levels = has_form g.players levels && (is_imputation g x && levels_hold [] levels)

  pub IsNucleolus-from_test : (levels : List Level) → IsMeasurable measure g.players → is_certified levels ≡ true
      → IsNucleolus family measure g x
  IsNucleolus-from_test levels m h =
      let a = and_parts (has_form g.players levels) (is_imputation g x && levels_hold [] levels) h in
      let b = and_parts (is_imputation g x) (levels_hold [] levels) a.1 in
      IsNucleolus-from_certificate Players family measure g x levels m
      (HasForm-from_test Players g.players levels (inl refl) a.0)
      (in_family family g x b.0, hold_from [] levels b.1)
