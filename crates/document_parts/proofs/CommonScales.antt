-- The least common denominator of numbers.
--
-- The scale of a game is found number by number: the least common multiple of the scale so far and the next
-- denominator, and nothing as soon as it is above 65,536, since a multiple only grows. A number that is 2^40 or more in
-- size, times the scale, is refused before it is cut to 64 bits.
use Rattle.std.proofs.Common.{◌≡◌, ℕ, ◌*◌, ◌/◌, ◌%◌, ◌<◌, ◌≤◌, ℤ, pos}
use Rattle.std.proofs.Common.{unsigned_abs}
use Rattle.std.proofs.Common.{List, [], ◌∷◌, ◌++◌, map, Bool, true, false}
use Rattle.std.proofs.Common.{nat_le, if◌then◌else◌}
use Rattle.std.proofs.Common.{Option, Some, None, option_and_then, option_map, refl, sym, ap, ◌∙◌, subst, arith}
use Rattle.std.proofs.Common.{int_div, ◌*ℤ◌}
use Rattle.std.specs.Prelude.{unwrap_or}
use native.Mathlib.Nat.{one-dvd}
use Rattle.std.proofs.lemmas.Bool.{leb-true, le-leb}
use Rattle.std.proofs.lemmas.Int.{ints}
use Rattle.std.proofs.lemmas.Nat.Gcd.{dvd_refl, dvd_trans, dvd_antisymm, dvd_of_mod-eq-zero, le_of_dvd}
use Rattle.serde_json.specs.Data.{Data}
use Rattle.serde_json.specs.Find.{as_str}
use Rattle.fractions.specs.Divisors.{gcd}
use Rattle.fractions.specs.Fraction.{Fraction, IsReduced}
use Rattle.worth_core.specs.Multiples.{IsLeastMultiple}
use Rattle.worth_core.proofs.LeastMultiples.{least_multiple}
use Rattle.json_trees.specs.Fractions.{whole_fraction, written_fraction, fraction_or_zero}
use Rattle.json_trees.specs.Trees.{integer}
use Rattle.json_trees.proofs.Fractions.{written_or_zero}
use Rattle.document_parts.specs.CommonMultiples.{lcm, least_denominator}
use Rattle.document_parts.specs.Scales.{if_scale}
use Rattle.document_parts.specs.ScaledNumbers.{if_small}
use Rattle.document_parts.specs.Numbers.{with_fraction}
use Rattle.definitions.proofs.Cancel.{quot_exact}
use Rattle.fractions.proofs.Ratios.{apart}

-- ---- least common multiples

abbrev pub den : Data → ℕ
den d = unsigned_abs (fraction_or_zero d).den

abbrev pub least : List Data → ℕ
least ds = least_denominator (map fraction_or_zero ds)

positive_of : (f : Fraction) → IsReduced f → 0 < unsigned_abs f.den
positive_of f r = let p = r.positive in omega (arith, ints)

pub den_positive : (d : Data) → 0 < den d
den_positive d = positive_of (fraction_or_zero d) (written_or_zero d (as_str d))

pub lcm_is : (a b : ℕ) → 0 < a → 0 < b → IsLeastMultiple a b (lcm a b)
lcm_is a b p q = least_multiple a b p q

pub least_positive : (ds : List Data) → 0 < least ds
least_positive [] = omega arith
least_positive (d ∷ ds) = (lcm_is (den d) (least ds) (den_positive d) (least_positive ds)).positive

pub with_one : (k : ℕ) → 0 < k → lcm k 1 ≡ k
with_one k p = let m = lcm_is k 1 p (omega arith) in dvd_antisymm (m.least k (dvd_refl k) (one-dvd k)) m.left

pub one_with : (k : ℕ) → 0 < k → lcm 1 k ≡ k
one_with k p = let m = lcm_is 1 k (omega arith) p in dvd_antisymm (m.least k (one-dvd k) (dvd_refl k)) m.right

pub lcm_assoc : (a b c : ℕ) → 0 < a → 0 < b → 0 < c → lcm (lcm a b) c ≡ lcm a (lcm b c)
lcm_assoc a b c p q r =
    let one = lcm_is a b p q in
    let two = lcm_is b c q r in
    let left = lcm_is (lcm a b) c one.positive r in
    let right = lcm_is a (lcm b c) p two.positive in
    dvd_antisymm
    (left.least (lcm a (lcm b c)) (one.least (lcm a (lcm b c)) right.left (dvd_trans b two.left right.right))
    (dvd_trans c two.right right.right))
    (right.least (lcm (lcm a b) c) (dvd_trans a one.left left.left)
    (two.least (lcm (lcm a b) c) (dvd_trans b one.right left.left) left.right))

-- ---- what is too large stays too large

pub none_above : (k : ℕ) → 65536 < k → None ≡ if_scale k
none_above k h = choose (nat_le k 65536) (λ e. let le = leb-true k 65536 e in omega (arith, le, h))
  where
    choose : (b : Bool) → (b ≡ true → ⊥) → None ≡ (if b then Some k else None)
    choose true f = absurd (f refl)
    choose false f = refl

pub some_below : (k : ℕ) → k ≤ 65536 → Some k ≡ if_scale k
some_below k h = ap (λ (b : Bool). if b then Some k else None) (sym (le-leb k 65536 h))

-- a denominator that is too large
pub large_denominator : (k d : ℕ) → 0 < k → 65536 < d → None ≡ if_scale (lcm k d)
large_denominator k d p h =
    let m = lcm_is k d p (omega (arith, h)) in
    let le = le_of_dvd m.positive m.right in
    none_above (lcm k d) (omega (arith, h, le))

pub lcm_positive : (k d g m : ℕ) → 0 < k → 0 < d → g ≡ gcd k d → m ≡ k * (d / g) → 0 < m
lcm_positive k d g m p q e f =
    subst (λ (n : ℕ). 0 < n) (sym (f ∙ ap (λ (n : ℕ). k * (d / n)) e)) (lcm_is k d p q).positive

-- a denominator that divides the scale is in it already
pub keeps_scale : (k d : ℕ) → 0 < k → k ≤ 65536 → 0 < d → k % d ≡ 0 → Some k ≡ if_scale (lcm k d)
keeps_scale k d p h q e =
    let m = lcm_is k d p q in
    let same : lcm k d ≡ k = dvd_antisymm (m.least k (dvd_refl k) (dvd_of_mod-eq-zero d e)) m.left in
    some_below k h ∙ ap if_scale (sym same)

whole_den : (o : Option ℤ)
    → unsigned_abs (unwrap_or (whole_fraction o) (record { num = pos 0; den = pos 1 })).den ≡ 1
whole_den None = refl
whole_den (Some z) = refl

-- what is no text has the denominator 1
pub no_text_den : (d : Data) → as_str d ≡ None → den d ≡ 1
no_text_den d e =
    subst
    (λ (o : Option (List ℕ)). unsigned_abs
    (unwrap_or (written_fraction d o) (record { num = pos 0; den = pos 1 })).den ≡ 1) (sym e)
    (whole_den (integer d))

-- ---- one list after another

pub least_append : (ds es : List Data) → least (ds ++ es) ≡ lcm (least ds) (least es)
least_append [] es = sym (one_with (least es) (least_positive es))
least_append (d ∷ ds) es =
    ap (lcm (den d)) (least_append ds es)
    ∙ sym (lcm_assoc (den d) (least ds) (least es) (den_positive d) (least_positive ds) (least_positive es))

pub least_more : (ds : List Data) (d : Data) → least (ds ++ d ∷ []) ≡ lcm (least ds) (den d)
least_more ds d = least_append ds (d ∷ []) ∙ ap (lcm (least ds)) (with_one (den d) (den_positive d))

-- ---- a fraction beside a scale

pub whole_with : (k : ℕ) (z : ℤ) → 0 < k → k ≤ 65536
    → with_fraction k (record { num = z; den = pos 1 }) ≡ option_map (λ y. (k, y)) (if_small (Some (z *ℤ pos k)))
whole_with k z p h =
    ap (option_and_then (λ m. option_map (λ y. (m, y)) (if_small (Some (z *ℤ int_div (pos m) (pos 1))))))
    (ap if_scale (with_one k p) ∙ sym (some_below k h))
    ∙ ap (λ y. option_map (λ w. (k, w)) (if_small (Some (z *ℤ y))))
    (quot_exact (pos k) (pos 1) (pos k) (ap pos (once k)) (apart (pos 1) (omega (arith, ints))))
  where
    once : (k : ℕ) → k ≡ 1 * k
    once k = omega arith

pub whole_step : (k : ℕ) (o : Option ℤ) → 0 < k → k ≤ 65536
    → option_map (λ y. (k, y)) (option_and_then (λ z. if_small (Some (z *ℤ pos k))) o)
    ≡ option_and_then (with_fraction k) (whole_fraction o)
whole_step k None p h = refl
whole_step k (Some z) p h = sym (whole_with k z p h)
