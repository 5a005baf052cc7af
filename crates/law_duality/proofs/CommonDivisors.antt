-- Weights over their greatest common divisor.
use Rattle.std.proofs.Common.{◌≡◌, ℕ, zero, suc, ◌*◌, ◌/◌, ◌%◌, ◌^◌, ◌<◌, ◌≤◌, Bool, cond, List, [], ◌∷◌, ℤ, pos, ◌*ℤ◌}
use Rattle.std.proofs.Common.{◌<ℤ◌, ◌≤ℤ◌, unsigned_abs, sym, ap, subst, ◌∙◌, inl, inr, arith, mod-lt, eq-zero-or-pos}
use Prim.Native.Nat.{◌∣◌}
use Rattle.std.specs.Int.{IsGcd}
use Rattle.std.specs.List.{AllByRecursion}
use Rattle.std.proofs.lemmas.Int.{ints, unsigned_abs-mul}
use Rattle.std.proofs.lemmas.Nat.Gcd.{dvd_refl, dvd_trans, IsGcd-from_zero, IsGcd-from_mod}
use Rattle.std.proofs.Math.Nat.{dvd-mul_right, le_refl}
use native.Mathlib.Nat.{le_of_dvd, mul-div_cancel', mul-dvd-mul_left, pos_of_dvd_of_pos}
use Rattle.definitions.proofs.Ring.{mul_assocℤ, mul-zeroℤ, mul-cancelℤ, mul-lt_cancelℤ}
use Rattle.definitions.proofs.Alls.{all_weaken}
use Rattle.definitions.specs.Sums.{weighted_sum}
use Rattle.definitions.specs.Coalitions.{has_player, grand_coalition, weight_at}
use Rattle.definitions.specs.Games.{Game}
use Rattle.definitions.specs.Balanced.{AscendsFrom, Divides, IsBalancedOfExcessWorth}
use Rattle.theorems.proofs.Products.{products}

-- ---- the greatest common divisor

gcd_within : (n a b : ℕ) → b ≤ n → (g : ℕ) × IsGcd a b g
gcd_within zero a b le = (a, IsGcd-from_zero a b (omega arith))
gcd_within (suc n) a b le = elim (eq-zero-or-pos b) [
  | inl e ↦ (a, IsGcd-from_zero a b e)
  | inr p ↦
      (let r = gcd_within n b (a % b) (let h = mod-lt a p in omega arith) in (r.0, IsGcd-from_mod a b r.0 r.1))
]

-- the greatest number that divides a and each weight
record IsGreatestDivisor (a : ℕ) (ps : List (ℕ × ℤ)) (g : ℕ) : Type 0 where
  pub first : g ∣ a
  pub each : AllByRecursion (λ (p : ℕ × ℤ). g ∣ unsigned_abs p.1) ps
  pub greatest : (d : ℕ) → d ∣ a → AllByRecursion (λ (p : ℕ × ℤ). d ∣ unsigned_abs p.1) ps → d ∣ g

greatest_divisor : (a : ℕ) (ps : List (ℕ × ℤ)) → (g : ℕ) × IsGreatestDivisor a ps g
greatest_divisor a [] = (a, record { first = dvd_refl a; each = tt; greatest = λ d h k. h })
greatest_divisor a (p ∷ ps) =
    let r = greatest_divisor a ps in
    let s = gcd_within (unsigned_abs p.1) r.0 (unsigned_abs p.1) (le_refl (unsigned_abs p.1)) in (
      s.0,
      record {
        first = dvd_trans s.0 s.1.0 r.1.first;
        each = (
          s.1.1,
          all_weaken (λ (q : ℕ × ℤ). r.0 ∣ unsigned_abs q.1) (λ (q : ℕ × ℤ). s.0 ∣ unsigned_abs q.1) ps
              (λ q h. dvd_trans s.0 s.1.0 h) r.1.each,
        );
        greatest = λ d h k. s.1.2 d (r.1.greatest d h k.1) k.0;
      },
    )

-- ---- weights over it

abbrev over : ℕ → ℤ → ℤ
over g z = pos (unsigned_abs z / g)

abbrev all_over : ℕ → List (ℕ × ℤ) → List (ℕ × ℤ)
all_over g [] = []
all_over g (p ∷ ps) = (p.0, over g p.1) ∷ all_over g ps

product_of : (a b c : ℕ) → a * b ≡ c → pos a *ℤ pos b ≡ pos c
product_of a b c e = omega (arith, ints, e)

times_over : (g : ℕ) (z : ℤ) → pos 1 ≤ℤ z → g ∣ unsigned_abs z → pos g *ℤ over g z ≡ z
times_over g z h k =
    let natural : pos (unsigned_abs z) ≡ z = omega (arith, ints, h) in
    product_of g (unsigned_abs z / g) (unsigned_abs z) (mul-div_cancel' g k) ∙ natural

over_positive : (g : ℕ) (z : ℤ) → pos 1 ≤ℤ z → g ∣ unsigned_abs z → pos 1 ≤ℤ over g z
over_positive g z h k = quotient_positive (unsigned_abs z / g) (times_over g z h k)
  where
    quotient_positive : (c : ℕ) → pos g *ℤ pos c ≡ z → pos 1 ≤ℤ pos c
    quotient_positive c e = grind (arith, ints, mul-zeroℤ)

abbrev Positive : ℕ × ℤ → Type 0
Positive p = pos 1 ≤ℤ p.1

abbrev Whole : ℕ → ℕ × ℤ → Type 0
Whole g p = g ∣ unsigned_abs p.1

weighted_over : (g : ℕ) (f : ℕ → ℤ) (ps : List (ℕ × ℤ)) → AllByRecursion Positive ps → AllByRecursion (Whole g) ps
    → pos g *ℤ weighted_sum f (all_over g ps) ≡ weighted_sum f ps
weighted_over g f [] h k = mul-zeroℤ (pos g)
weighted_over g f (p ∷ ps) h k =
    let here =
    sym (mul_assocℤ (pos g) (over g p.1) (f p.0)) ∙ ap (λ (z : ℤ). z *ℤ f p.0) (times_over g p.1 h.0 k.0) in
    omega (products, weighted_over g f ps h.1 k.1, here)

weight_over : (g : ℕ) (i : ℕ) (ps : List (ℕ × ℤ)) → AllByRecursion Positive ps → AllByRecursion (Whole g) ps
    → pos g *ℤ weight_at (all_over g ps) i ≡ weight_at ps i
weight_over g i [] h k = mul-zeroℤ (pos g)
weight_over g i (p ∷ ps) h k = omega (products, weight_over g i ps h.1 k.1, times_either (has_player p.0 i))
  where
    times_either : (b : Bool) → pos g *ℤ cond b (over g p.1) (pos 0) ≡ cond b p.1 (pos 0)
    times_either b = grind (arith, mul-zeroℤ, times_over)

ascends_over : (g low : ℕ) (ps : List (ℕ × ℤ)) → AscendsFrom low ps → AscendsFrom low (all_over g ps)
ascends_over g low [] h = tt
ascends_over g low (p ∷ ps) h = (h.0, ascends_over g p.0 ps h.1)

within_over : (g n : ℕ) (ps : List (ℕ × ℤ)) → AllByRecursion (λ (p : ℕ × ℤ). p.0 < n) ps
    → AllByRecursion (λ (p : ℕ × ℤ). p.0 < n) (all_over g ps)
within_over g n [] h = tt
within_over g n (p ∷ ps) h = (h.0, within_over g n ps h.1)

positive_over : (g : ℕ) (ps : List (ℕ × ℤ)) → AllByRecursion Positive ps → AllByRecursion (Whole g) ps
    → AllByRecursion Positive (all_over g ps)
positive_over g [] h k = tt
positive_over g (p ∷ ps) h k = (over_positive g p.1 h.0 k.0, positive_over g ps h.1 k.1)

-- ---- no common divisor is left

divides_size : (d : ℕ) (z : ℤ) → Divides d z → d ∣ unsigned_abs z
divides_size d z (c, e) =
    subst (λ (t : ℕ). d ∣ t) (sym (ap unsigned_abs e ∙ unsigned_abs-mul (pos d) c))
    (dvd-mul_right d (unsigned_abs c))

times_divides : (g d : ℕ) (z : ℤ) → g ∣ unsigned_abs z → Divides d (over g z) → (g * d) ∣ unsigned_abs z
times_divides g d z h k =
    subst (λ (t : ℕ). (g * d) ∣ t) (mul-div_cancel' g h) (mul-dvd-mul_left d g (divides_size d (over g z) k))

times_divide : (g d : ℕ) (ps : List (ℕ × ℤ)) → AllByRecursion (Whole g) ps
    → AllByRecursion (λ (p : ℕ × ℤ). Divides d p.1) (all_over g ps)
    → AllByRecursion (λ (p : ℕ × ℤ). (g * d) ∣ unsigned_abs p.1) ps
times_divide g d [] h k = tt
times_divide g d (p ∷ ps) h k = (times_divides g d p.1 h.0 k.0, times_divide g d ps h.1 k.1)

at_most_one : (g d : ℕ) → 0 < g → g * d ≤ g → d ≤ 1
at_most_one g d h k = grind arith

-- ---- the collection in lowest terms

-- a balanced collection of excess worth, but for the lowest terms
pub record IsUnreduced (g : Game) (ps : List (ℕ × ℤ)) (k : ℤ) : Type 0 where
  pub positive : pos 1 ≤ℤ k
  pub ascends : AscendsFrom 0 ps
  pub within : AllByRecursion (λ (p : ℕ × ℤ). p.0 < 2 ^ g.players) ps
  pub weights : AllByRecursion (λ (p : ℕ × ℤ). pos 1 ≤ℤ p.1) ps
  pub balanced : (i : ℕ) → i < g.players → weight_at ps i ≡ k
  pub excess_worth : (k *ℤ g.worth (grand_coalition g.players)) <ℤ weighted_sum g.worth ps

pub reduced : (g : Game) (ps : List (ℕ × ℤ)) (k : ℤ) → IsUnreduced g ps k
    → (qs : List (ℕ × ℤ)) × (m : ℤ) × IsBalancedOfExcessWorth g qs m
reduced g ps k h =
    let r = greatest_divisor (unsigned_abs k) ps in
    let c = r.0 in
    let positive = h.positive in
    let size : 0 < unsigned_abs k = omega (arith, ints, positive) in
    let some : 0 < c = pos_of_dvd_of_pos r.1.first size in
    let above : pos 0 <ℤ pos c = omega (arith, ints, some) in
    let whole = times_over c k h.positive r.1.first in (
      all_over c ps,
      over c k,
      record {
        positive = over_positive c k h.positive r.1.first;
        ascends = ascends_over c 0 ps h.ascends;
        within = within_over c (2 ^ g.players) ps h.within;
        weights = positive_over c ps h.weights r.1.each;
        balanced = λ i lt. mul-cancelℤ (pos c) (weight_at (all_over c ps) i) (over c k) above
            (weight_over c i ps h.weights r.1.each ∙ h.balanced i lt ∙ sym whole);
        excess_worth =
            mul-lt_cancelℤ (pos c) (over c k *ℤ g.worth (grand_coalition g.players))
            (weighted_sum g.worth (all_over c ps))
            above
            (omega (
              products,
              h.excess_worth,
              weighted_over c g.worth ps h.weights r.1.each,
              sym (mul_assocℤ (pos c) (over c k) (g.worth (grand_coalition g.players)))
                  ∙ ap (λ (z : ℤ). z *ℤ g.worth (grand_coalition g.players)) whole,
            ));
        lowest_terms = λ d first each. at_most_one c d some
            (le_of_dvd some
            (r.1.greatest (c * d) (times_divides c d k r.1.first first) (times_divide c d ps r.1.each each)));
      },
    )
