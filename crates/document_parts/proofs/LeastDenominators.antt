-- The least common denominator of fractions in lowest terms is the least common multiple of their denominators.
--
-- A share that leaves 128 bits when it is multiplied by the scale breaks the limit of 2^110 (`not_kept`). The scale of
-- the numbers found one by one is this least denominator (`least_denominator_is`).
use Rattle.std.proofs.Common.{◌≡◌, ℕ, zero, suc, ◌+◌, ◌*◌, ◌/◌, ◌*ℤ◌, int_div, ◌≤ℤ◌}
use Rattle.std.proofs.Common.{ℤ, FitsSigned, slice_index_or}
use Rattle.std.proofs.Common.{◌<◌, ◌≤◌, ◌^◌, List, [], ◌∷◌, length, map, get_or, Bool}
use Rattle.std.proofs.Common.{true, false, nat_le}
use Rattle.std.proofs.Common.{if◌then◌else◌, pos, unsigned_abs, All, Some, None, codes, refl, sym, ap}
use Rattle.std.proofs.Common.{◌∙◌, subst}
use Rattle.std.proofs.Common.{arith}
use Rattle.std.specs.List.{list_all}
use Prim.Native.Nat.{◌∣◌}
use native.Mathlib.Nat.{one-dvd, dvd-mul_right_of_dvd}
use Rattle.std.proofs.lemmas.Bool.{false≢true, and_parts, and_from, ltb-true, leb-true, le-leb, lt-ltb}
use Rattle.std.proofs.lemmas.Int.{ints, unsigned_abs-mul, fits_signed_from_abs}
use Rattle.std.proofs.lemmas.List.{length-map, get_or-map}
use Rattle.std.proofs.lemmas.List.Elements.{All-map, All-cons, All-nil}
use Rattle.std.proofs.lemmas.List.Sums.{AllPass-from_list_all, list_all-from_AllPass}
use Rattle.definitions.specs.Games.{Allocation, IsShares}
use Rattle.fractions.specs.Fraction.{Fraction, IsReduced}
use Rattle.worth_core.specs.LeastDenominators.{IsWholeTimes, IsLeastDenominator, AreTooFine, numerator_over, over}
use Rattle.worth_core.specs.Multiples.{IsLeastMultiple}
use Rattle.worth_core.proofs.LeastMultiples.{least_multiple, denominator_divides, one_denominator, all_multiple}
use Rattle.document_parts.specs.CommonMultiples.{lcm, least_denominator}
use Rattle.document_parts.specs.Denominators.{over_least, keep_limits}
use Rattle.document_parts.specs.Shares.{written_shares, scaled_fractions, scaled_share, scaled_shares}
use Rattle.document_parts.specs.Shares.{has_small_numerator, IsDenominatorOf}
use Rattle.serde_json.specs.Data.{Data}
use Rattle.json_trees.specs.Trees.{parts_at}
use Rattle.json_trees.specs.Fractions.{fraction_or_zero}
use Rattle.json_trees.specs.LowestTerms.{times_scale}
use Rattle.json_trees.proofs.Fractions.{written_reduced}
use Rattle.json_trees.proofs.LowestTerms.{times_ratio}
use Rattle.definitions.proofs.Cancel.{quot_exact}
use Rattle.fractions.proofs.Divisors.{times_quotient}
use Rattle.fractions.proofs.Ratios.{apart}
use mir.Syntax.{w128}

-- ---- the least common denominator

record IsLeast (fs : List Fraction) (d : ℕ) : Type 0 where
  positive : 0 < d
  common : All (IsWholeTimes d) fs
  least : (m : ℕ) → All (IsWholeTimes m) fs → d ∣ m

head : {X : Type 0} (P : X → Type 0) (x : X) (xs : List X) → All P (x ∷ xs) → P x
head P x xs h = h 0 x (omega arith)

tail : {X : Type 0} (P : X → Type 0) (x : X) (xs : List X) → All P (x ∷ xs) → All P xs
tail P x xs h = λ k d l. h (suc k) d (omega arith)

some_denominator : (f : Fraction) → IsReduced f → 0 < unsigned_abs f.den
some_denominator f r = let p = r.positive in omega (arith, ints)

least_is : (fs : List Fraction) → All IsReduced fs → IsLeast fs (least_denominator fs)
least_is [] r = record { positive = omega arith; common = All-nil (IsWholeTimes 1); least = λ m w. one-dvd m }
least_is (f ∷ fs) r =
    let first = head IsReduced f fs r in
    let ih = least_is fs (tail IsReduced f fs r) in
    let multiple : IsLeastMultiple (unsigned_abs f.den) (least_denominator fs)
    (lcm (unsigned_abs f.den) (least_denominator fs)) =
    least_multiple (unsigned_abs f.den) (least_denominator fs) (some_denominator f first) ih.positive in
    record {
      positive = multiple.positive;
      common = All-cons (IsWholeTimes (lcm (unsigned_abs f.den) (least_denominator fs))) f fs
          (dvd-mul_right_of_dvd (unsigned_abs f.den) multiple.left (unsigned_abs f.num))
          (all_multiple fs (least_denominator fs) (lcm (unsigned_abs f.den) (least_denominator fs)) multiple.right
          ih.common);
      least = λ m w. multiple.least m (denominator_divides f m first (head (IsWholeTimes m) f fs w))
          (ih.least m (tail (IsWholeTimes m) f fs w));
    }

pub least_denominator_is : (fs : List Fraction) → All IsReduced fs
    → IsLeastDenominator fs (pos (least_denominator fs))
least_denominator_is fs r =
    let h = least_is fs r in
    let p = h.positive in record { positive = omega (arith, ints); common = h.common; least = h.least }

pub scaled_reduced : (k : ℕ) (fs : List Fraction) → All IsReduced fs → All IsReduced (scaled_fractions k fs)
scaled_reduced k fs r =
    All-map IsReduced (times_scale k) fs (λ i d l. (times_ratio k (slice_index_or fs i d) (r i d l).positive).reduced)

scaled_each : (k : ℕ) (ds : List Data) → scaled_fractions k (map fraction_or_zero ds) ≡ map (scaled_share k) ds
scaled_each k [] = refl
scaled_each k (d ∷ ds) = ap (λ (fs : List Fraction). scaled_share k d ∷ fs) (scaled_each k ds)

-- the fractions that are written, times the scale
pub scaled_written : (k : ℕ) (tree : Data) → scaled_fractions k (written_shares tree) ≡ scaled_shares k tree
scaled_written k tree = scaled_each k (parts_at (codes "shares") tree)

shares_reduced : (k : ℕ) (tree : Data) → All IsReduced (scaled_shares k tree)
shares_reduced k tree =
    subst (All IsReduced) (scaled_written k tree)
    (scaled_reduced k (written_shares tree) (written_reduced (parts_at (codes "shares") tree)))

pub denominator_of : (k : ℕ) (tree : Data) → IsDenominatorOf k tree (least_denominator (scaled_shares k tree))
denominator_of k tree =
    least_denominator_is (scaled_shares k tree) (shares_reduced k tree)

pub one_denominator_of : (k : ℕ) (tree : Data) (d : ℕ) → IsDenominatorOf k tree d
    → d ≡ least_denominator (scaled_shares k tree)
one_denominator_of k tree d h =
    ap unsigned_abs
    (one_denominator (scaled_shares k tree) (pos d) (pos (least_denominator (scaled_shares k tree))) h
    (denominator_of k tree))

-- ---- shares over it, or too fine

from_shares : (fs : List Fraction) → IsShares (over_least fs) → keep_limits fs ≡ true
from_shares fs s =
    let common = s.common in
    let below : least_denominator fs ≤ 2 ^ 63 = omega (arith, ints) in
    let zs = map (numerator_over (pos (least_denominator fs))) fs in
    let long = length-map fs (numerator_over (pos (least_denominator fs))) in
    and_from _ _ (le-leb (least_denominator fs) (2 ^ 63) below)
    (list_all-from_AllPass (has_small_numerator (least_denominator fs)) fs (λ k f l.
    let place : k < length zs = omega (arith, l, long) in
    let same = get_or-map (numerator_over (pos (least_denominator fs))) fs k f (pos 0) l in
    lt-ltb _ _ (subst (λ z. unsigned_abs z < 2 ^ 110) same (s.small k place))))

to_shares : (fs : List Fraction) → 1 ≤ length fs → length fs ≤ 64 → 0 < least_denominator fs → keep_limits fs ≡ true
    → IsShares (over_least fs)
to_shares fs some few positive h =
    let both =
    and_parts (nat_le (least_denominator fs) (2 ^ 63))
    (list_all (has_small_numerator (least_denominator fs)) fs) h in
    let below = leb-true (least_denominator fs) (2 ^ 63) both.0 in
    let long = length-map fs (numerator_over (pos (least_denominator fs))) in
    let small = AllPass-from_list_all (has_small_numerator (least_denominator fs)) fs both.1 in
    record {
      some = omega (arith, some, long);
      few = omega (arith, few, long);
      positive = omega (arith, ints, positive);
      common = omega (arith, ints, below);
      small = λ i l.
          let place : i < length fs = omega (arith, l, long) in
          let f = get_or fs i (record { num = pos 0; den = pos 1 }) in
          let same =
          get_or-map (numerator_over (pos (least_denominator fs))) fs i (record { num = pos 0; den = pos 1 })
          (pos 0) place in
          subst (λ z. unsigned_abs z < 2 ^ 110) (sym same)
          (ltb-true _ _ (small i (record { num = pos 0; den = pos 1 }) place));
    }

pub if_true : {A : Type 0} (b : Bool) (x y : A) → b ≡ true → x ≡ (if b then x else y)
if_true true x y h = refl
if_true false x y h = absurd (false≢true h)

if_false : {A : Type 0} (b : Bool) (x y : A) → (b ≡ true → ⊥) → y ≡ (if b then x else y)
if_false true x y h = absurd (h refl)
if_false false x y h = refl

pub shares_over : (fs : List Fraction) (x : Allocation) → All IsReduced fs → IsLeastDenominator fs x.den
    → x ≡ over x.den fs → IsShares x → Some x ≡ (if keep_limits fs then Some (over_least fs) else None)
shares_over fs x r d e s =
    let same : x ≡ over_least fs =
    e
    ∙ ap (λ k. over k fs)
    (one_denominator fs x.den (pos (least_denominator fs)) d (least_denominator_is fs r)) in
    ap (λ y. Some y) same
    ∙ if_true (keep_limits fs) (Some (over_least fs)) None (from_shares fs (subst IsShares same s))

pub too_fine : (fs : List Fraction) → All IsReduced fs → 1 ≤ length fs → length fs ≤ 64 → AreTooFine fs
    → None ≡ (if keep_limits fs then Some (over_least fs) else None)
too_fine fs r some few h =
    if_false (keep_limits fs) (Some (over_least fs)) None
    (λ e. h (pos (least_denominator fs)) (least_denominator_is fs r)
    (to_shares fs some few (least_is fs r).positive e))

-- ---- numbers that are too large for 128 bits break the limits

small_factor : (a c n : ℕ) → 0 < c → a * c < n → a < n
small_factor a zero n p h = absurd (omega (arith, p))
small_factor a (suc c) n p h = let e = more a c in omega (arith, h, e)
  where
    more : (a c : ℕ) → a * suc c ≡ a * c + a
    more a c = omega arith

-- over the least common denominator a numerator is no smaller
small_numerator : (fs : List Fraction) (f : Fraction) (c : ℕ) → pos 1 ≤ℤ f.den → 0 < c
    → pos (least_denominator fs) ≡ f.den *ℤ pos c → has_small_numerator (least_denominator fs) f ≡ true
    → unsigned_abs f.num < 2 ^ 110
small_numerator fs f c p q e h =
    let whole : int_div (pos (least_denominator fs)) f.den ≡ pos c =
    quot_exact (pos (least_denominator fs)) f.den (pos c) e (apart f.den p) in
    let small : unsigned_abs (f.num *ℤ pos c) < 2 ^ 110 =
    subst (λ (z : ℤ). unsigned_abs (f.num *ℤ z) < 2 ^ 110) whole (ltb-true _ _ h) in
    small_factor (unsigned_abs f.num) c (2 ^ 110) q
    (subst (λ (n : ℕ). n < 2 ^ 110) (unsigned_abs-mul f.num (pos c)) small)

not_true : (b : Bool) → (b ≡ true → ⊥) → b ≡ false
not_true true h = absurd (h refl)
not_true false h = refl

pub kept_fit : (fs : List Fraction) (i : ℕ) (f : Fraction) → All IsReduced fs → i < length fs → f ≡ get_or fs i f
    → keep_limits fs ≡ true → FitsSigned w128 f.num
kept_fit fs i f r lt at h =
    let least = least_is fs r in
    let reduced : IsReduced f = subst IsReduced (sym at) (r i f lt) in
    let divides : unsigned_abs f.den ∣ least_denominator fs =
    denominator_divides f (least_denominator fs) reduced
    (subst (IsWholeTimes (least_denominator fs)) (sym at) (least.common i f lt)) in
    let small =
    (and_parts (nat_le (least_denominator fs) (2 ^ 63))
    (list_all (has_small_numerator (least_denominator fs)) fs) h).1 in
    let here : has_small_numerator (least_denominator fs) f ≡ true =
    subst (λ (g : Fraction). has_small_numerator (least_denominator fs) g ≡ true) (sym at)
    (AllPass-from_list_all (has_small_numerator (least_denominator fs)) fs small i f lt) in
    let by = factor_of (unsigned_abs f.den) (least_denominator fs) divides least.positive in
    let size : f.den ≡ pos (unsigned_abs f.den) = let p = reduced.positive in omega (arith, ints) in
    let whole : pos (least_denominator fs) ≡ f.den *ℤ pos by.0 =
    ap pos by.2 ∙ ap (λ (z : ℤ). z *ℤ pos by.0) (sym size) in
    fits_signed_from_abs w128 f.num (omega (arith, small_numerator fs f by.0 reduced.positive by.1 whole here))
  where
    above : (a c n : ℕ) → a * c ≡ n → 0 < n → 0 < c
    above a zero n e p = absurd (omega (arith, e, p))
    above a (suc c) n e p = omega arith

    factor_of : (a n : ℕ) → a ∣ n → 0 < n → (c : ℕ) × (0 < c) × (n ≡ a * c)
    factor_of a n d p = let e = times_quotient n a d in (n / a, above a (n / a) n e p, sym e)

pub not_kept : (fs : List Fraction) (i : ℕ) (f : Fraction) → All IsReduced fs → i < length fs → f ≡ get_or fs i f
    → ¬ FitsSigned w128 f.num → keep_limits fs ≡ false
not_kept fs i f r lt at h = not_true (keep_limits fs) (λ e. h (kept_fit fs i f r lt at e))
