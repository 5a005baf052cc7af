-- The shares that are read are those that were printed.
use Rattle.std.proofs.Common.{◌≡◌, ℕ, ◌<◌, ◌≤◌, ◌^◌, List, length, map, get_or, Bool}
use Rattle.std.proofs.Common.{true, arith, sym, ap}
use Rattle.std.proofs.Common.{subst, ◌∙◌, ℤ, pos, ◌*ℤ◌, ◌≤ℤ◌, unsigned_abs, codes, nat_le, eq-eqb}
use Rattle.std.specs.List.{list_all}
use Rattle.std.proofs.lemmas.Bool.{and_from, le-leb, lt-ltb}
use Rattle.std.proofs.lemmas.Int.{ints}
use Rattle.std.proofs.lemmas.List.{get_or-map, length-map}
use Rattle.std.proofs.lemmas.List.Elements.{All-from_get_or, All-map}
use Rattle.std.proofs.lemmas.List.Sums.{list_all-from_AllPass}
use Rattle.serde_json.specs.Data.{Data}
use Rattle.definitions.specs.Games.{Allocation, share, IsShares}
use Rattle.fractions.specs.Fraction.{Fraction}
use Rattle.worth_core.specs.LeastDenominators.{numerator_over}
use Rattle.document_parts.specs.CommonMultiples.{least_denominator}
use Rattle.document_parts.specs.Denominators.{over_least, keep_limits}
use Rattle.document_parts.specs.Shares.{has_small_numerator, scaled_share, scaled_shares, as_worth}
use Rattle.json_trees.specs.Fractions.{is_fraction}
use Rattle.json_trees.specs.Trees.{parts_at}
use Rattle.document_parts.proofs.LeastDenominators.{least_denominator_is}
use Rattle.reading_back.specs.ReadBack.{kept_share, IsAgain, AreReadBack}
use Rattle.report.specs.Limits.{IsScale}
use Rattle.report.specs.ShareLists.{as_printed, share_data}
use Rattle.reading_back.proofs.OverLeast.{same_value, no_larger, all_reduced, least_below, divides_least}
use Rattle.reading_back.proofs.ShareTexts.{kept_ratio, shares_read, all_shares}
use Rattle.reading_back.proofs.Signs.{printed_twice, printed_times, worth_share, worth_length, worth_denominator}
use Rattle.report.proofs.Readers.{size_as_printed}

-- ---- the fractions that were printed, over their least common denominator

abbrev printed : Bool → Allocation → List Fraction
printed b x = map (kept_share b x.den) x.shares

-- over the least common denominator, a share is again z over the denominator of x
again_value : (b : Bool) (d : ℤ) (zs : List ℤ) (i : ℕ) → pos 1 ≤ℤ d → i < length zs
    → numerator_over (pos (least_denominator (map (kept_share b d) zs))) (kept_share b d (get_or zs i (pos 0))) *ℤ d
    ≡ as_printed b (get_or zs i (pos 0)) *ℤ pos (least_denominator (map (kept_share b d) zs))
again_value b d zs i p l =
    let z = get_or zs i (pos 0) in
    same_value (kept_share b d z) (as_printed b z) d (least_denominator (map (kept_share b d) zs))
    (kept_ratio b d z p)
    (divides_least (kept_share b d) (as_printed b) d (λ w. kept_ratio b d w p) zs i l)

-- and its numerator is no greater in size than z
again_size : (b : Bool) (d : ℤ) (zs : List ℤ) (i : ℕ) → pos 1 ≤ℤ d → i < length zs
    → unsigned_abs
    (numerator_over (pos (least_denominator (map (kept_share b d) zs))) (kept_share b d (get_or zs i (pos 0))))
    ≤ unsigned_abs (get_or zs i (pos 0))
again_size b d zs i p l =
    let z = get_or zs i (pos 0) in
    subst
    (λ (k : ℕ). unsigned_abs
    (numerator_over (pos (least_denominator (map (kept_share b d) zs))) (kept_share b d z)) ≤ k)
    (size_as_printed b z)
    (no_larger (kept_share b d z) (as_printed b z) d (least_denominator (map (kept_share b d) zs))
    (kept_ratio b d z p) p
    (least_below (kept_share b d) (as_printed b) d (λ w. kept_ratio b d w p) p zs)
    (divides_least (kept_share b d) (as_printed b) d (λ w. kept_ratio b d w p) zs i l))

again_share : (b : Bool) (x : Allocation) (i : ℕ) → i < length x.shares
    → share (over_least (printed b x)) i
    ≡ numerator_over (pos (least_denominator (printed b x))) (kept_share b x.den (share x i))
again_share b x i l =
    let f = kept_share b x.den (share x i) in
    let long = length-map x.shares (kept_share b x.den) in
    get_or-map (numerator_over (pos (least_denominator (printed b x)))) (printed b x) i f (pos 0)
    (omega (arith, l, long))
    ∙ ap (numerator_over (pos (least_denominator (printed b x))))
    (get_or-map (kept_share b x.den) x.shares i (pos 0) f l)

again_length : (b : Bool) (x : Allocation) → length (over_least (printed b x)).shares ≡ length x.shares
again_length b x =
    length-map (printed b x) (numerator_over (pos (least_denominator (printed b x))))
    ∙ length-map x.shares (kept_share b x.den)

-- ---- as worth

sign_across : (b : Bool) (y d z m : ℤ) → y *ℤ d ≡ as_printed b z *ℤ m → z *ℤ m ≡ as_printed b y *ℤ d
sign_across b y d z m e =
    sym (printed_times b y d ∙ ap (as_printed b) (e ∙ printed_times b z m) ∙ printed_twice b (z *ℤ m))

read : Bool → Allocation → Allocation
read b x = as_worth b (over_least (printed b x))

worth_value : (b : Bool) (x : Allocation) (i : ℕ) → pos 1 ≤ℤ x.den → i < length x.shares
    → share x i *ℤ (read b x).den ≡ share (read b x) i *ℤ x.den
unfolding read
worth_value b x i p l =
    let y = over_least (printed b x) in
    let here = worth_share b y i (omega (arith, l, again_length b x)) ∙ ap (as_printed b) (again_share b x i l) in
    ap (λ (z : ℤ). share x i *ℤ z) (worth_denominator b y)
    ∙ sign_across b (numerator_over (pos (least_denominator (printed b x))) (kept_share b x.den (share x i))) x.den
    (share x i) (pos (least_denominator (printed b x))) (again_value b x.den x.shares i p l)
    ∙ ap (λ (z : ℤ). z *ℤ x.den) (sym here)

worth_size : (b : Bool) (x : Allocation) (i : ℕ) → pos 1 ≤ℤ x.den → i < length x.shares
    → unsigned_abs (share (read b x) i) ≤ unsigned_abs (share x i)
unfolding read
worth_size b x i p l =
    let y = over_least (printed b x) in
    let here = worth_share b y i (omega (arith, l, again_length b x)) ∙ ap (as_printed b) (again_share b x i l) in
    subst (λ (k : ℕ). k ≤ unsigned_abs (share x i))
    (sym
    (ap unsigned_abs here
    ∙ size_as_printed b
    (numerator_over (pos (least_denominator (printed b x))) (kept_share b x.den (share x i)))))
    (again_size b x.den x.shares i p l)

read_length : (b : Bool) (x : Allocation) → length (read b x).shares ≡ length x.shares
unfolding read
read_length b x = worth_length b (over_least (printed b x)) ∙ again_length b x

read_positive : (b : Bool) (x : Allocation) → pos 1 ≤ℤ x.den → pos 1 ≤ℤ (read b x).den
unfolding read
read_positive b x p =
    let is =
    least_denominator_is (printed b x)
    (all_reduced (kept_share b x.den) (as_printed b) x.den (λ w. kept_ratio b x.den w p) x.shares) in
    subst (λ (z : ℤ). pos 1 ≤ℤ z) (sym (worth_denominator b (over_least (printed b x)))) is.positive

read_common : (b : Bool) (x : Allocation) → pos 1 ≤ℤ x.den → (read b x).den ≤ℤ x.den
unfolding read
read_common b x p =
    let below = least_below (kept_share b x.den) (as_printed b) x.den (λ w. kept_ratio b x.den w p) p x.shares in
    subst (λ (z : ℤ). z ≤ℤ x.den) (sym (worth_denominator b (over_least (printed b x))))
    (omega (arith, ints, below))

read_again : (b : Bool) (x : Allocation) → IsShares x → IsAgain x (read b x)
read_again b x h = record {
  within = record {
    some = omega (arith, h.some, read_length b x);
    few = omega (arith, h.few, read_length b x);
    positive = read_positive b x h.positive;
    common = omega (arith, ints, h.common, read_common b x h.positive);
    small = λ i l.
        let place : i < length x.shares = omega (arith, l, read_length b x) in
        omega (arith, worth_size b x i h.positive place, h.small i place);
  };
  many = read_length b x;
  allocation = λ g a. (read_length b x ∙ a.0, read_positive b x h.positive);
  same = λ g a i l. worth_value b x i h.positive (omega (arith, l, a.0));
}

-- ---- no share is too fine

coarse : (b : Bool) (x : Allocation) → IsShares x → keep_limits (printed b x) ≡ true
coarse b x h =
    let fs = printed b x in
    let long = length-map x.shares (kept_share b x.den) in
    let below =
    least_below (kept_share b x.den) (as_printed b) x.den (λ w. kept_ratio b x.den w h.positive) h.positive
    x.shares in
    let most : least_denominator fs ≤ 2 ^ 63 = omega (arith, ints, below, h.common, h.positive) in
    and_from (nat_le (least_denominator fs) (2 ^ 63)) (list_all (has_small_numerator (least_denominator fs)) fs)
    (le-leb (least_denominator fs) (2 ^ 63) most)
    (list_all-from_AllPass (has_small_numerator (least_denominator fs)) fs
    (All-map (λ f. has_small_numerator (least_denominator fs) f ≡ true) (kept_share b x.den) x.shares
    (All-from_get_or (λ z. has_small_numerator (least_denominator fs) (kept_share b x.den z) ≡ true) x.shares
    (pos 0) (λ i l.
    let size = again_size b x.den x.shares i h.positive l in
    lt-ltb (unsigned_abs (numerator_over (pos (least_denominator fs)) (kept_share b x.den (share x i)))) (2 ^ 110)
    (omega (arith, size, h.small i l))))))

-- ---- the tree

pub are_read_back : (k : ℕ) (b : Bool) (x : Allocation) (tree : Data) → IsScale (pos k) → IsShares x
    → parts_at (codes "shares") tree ≡ map (share_data k b x.den) x.shares → AreReadBack k b x tree
unfolding read
are_read_back k b x tree s h e =
    let small = All-from_get_or (λ z. unsigned_abs z < 2 ^ 110) x.shares (pos 0) h.small in
    let written : scaled_shares k tree ≡ printed b x =
    ap (map (scaled_share k)) e ∙ shares_read k b x.den s h.positive h.common x.shares small in
    record {
      numbers = ap (list_all is_fraction) e ∙ all_shares k b x.den s h.positive h.common x.shares small;
      enough =
          eq-eqb (length (parts_at (codes "shares") tree)) (length x.shares)
          (ap length e ∙ length-map x.shares (share_data k b x.den));
      written = written;
      coarse = ap keep_limits written ∙ coarse b x h;
      again =
          subst (λ (fs : List Fraction). IsAgain x (as_worth b (over_least fs))) (sym written) (read_again b x h);
    }
