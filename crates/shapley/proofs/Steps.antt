-- The steps of the costs, and the common denominator.
--
-- Over 144403552893600, which each of 1 to 32 divides, all shares are whole numbers.
use Rattle.std.proofs.Common.{◌≡◌, ℕ, zero, suc, ◌+◌, ◌-◌, ◌*◌, ◌/◌, ◌<◌, ◌≤◌}
use Rattle.std.proofs.Common.{Bool, true}
use Rattle.std.proofs.Common.{List, length, ℤ, pos, ◌+ℤ◌, ◌*ℤ◌, neg_ℤ, refl, sym, ap}
use Rattle.std.proofs.Common.{◌∙◌, inl, inr, arith}
use Rattle.std.proofs.Common.{nat_eq, nat_lt, slice_index, mul-le-mul, div-le_self, [], ◌∷◌, ◌++◌, get_or}
use Rattle.std.proofs.Common.{◌^◌, unsigned_abs, to_z, of_z, length-append}
use Rattle.std.proofs.lemmas.Bool.Decides.{nat_tests}
use Rattle.std.proofs.lemmas.List.{get_or_append_left, get_or_push}
use Rattle.std.proofs.Math.Nat.{le_refl}
use mir.Syntax.{w128}
use Rattle.definitions.proofs.Cases.{less_or_last, from_nat_eq, nat_lt-less}
use Rattle.definitions.proofs.Casts.{cast_kept}
use Rattle.definitions.proofs.Ring.{linear, zero-mulℤ, suc-mulℤ}
use Rattle.definitions.proofs.Members.{sum_below-same, sum_below-split}
use Rattle.definitions.proofs.Splits.{passes_below-at}
use Rattle.definitions.specs.Sums.{sum_below}
use Rattle.definitions.specs.Shapley.{factorial, shapley_total}
use Rattle.shapley.specs.Layers.{common, above, count, unit_share, units_below}
use Rattle.shapley.proofs.Airport.{game_of_costs, airport-shares}

count-some : (m : ℕ → Bool) (n i : ℕ) → i < n → m i ≡ true → 1 ≤ count m n
count-some m zero i lt e = absurd (omega arith)
count-some m (suc n) i lt e = elim (less_or_last i n lt) [
  | inl less ↦ grind (arith, count-some m n i less e)
  | inr same ↦ rw (ap m (sym same) ∙ e) (omega arith)
]

pub count-few : (m : ℕ → Bool) (n : ℕ) → count m n ≤ n
count-few m zero = omega arith
count-few m (suc n) = grind (arith, count-few m n)

count-same : (m k : ℕ → Bool) (n : ℕ) → ((j : ℕ) → j < n → m j ≡ k j) → count m n ≡ count k n
count-same m k zero h = refl
count-same m k (suc n) h =
    let ih = count-same m k n (λ j lt. h j (omega arith)) in
    let here = h n (omega arith) in
    rw (here, ih) refl

pub some_above : (costs : List ℕ) (i u : ℕ) → i < length costs → u < slice_index costs i
    → 1 ≤ count (above (slice_index costs) u) (length costs)
some_above costs i u lt h =
    count-some (above (slice_index costs) u) (length costs) i lt (nat_lt-less u (slice_index costs i) h)

pub sum_below-constant : (n : ℕ) (c : ℤ) → sum_below n (λ u. c) ≡ pos n *ℤ c
sum_below-constant zero c = sym (zero-mulℤ c)
sum_below-constant (suc n) c = omega (arith, linear, sum_below-constant n c, suc-mulℤ n c)

-- between a cost and the next one the same players are above
pub units_more : (costs : List ℕ) (l from next : ℕ) → from ≤ next
    → ((j : ℕ) → j < length costs → from < slice_index costs j → next ≤ slice_index costs j)
    → units_below costs l next
    ≡ units_below costs l from
    +ℤ pos ((next - from) * (l / count (above (slice_index costs) from) (length costs)))
units_more costs l from next le upto =
    ap (λ (k : ℕ). sum_below k (unit_share costs l)) whole
    ∙ sum_below-split from (next - from) (unit_share costs l)
    ∙ ap (λ z. units_below costs l from +ℤ z)
    (sum_below-same (next - from) (λ u. unit_share costs l (from + u)) (λ u. unit_share costs l from) same_share
    ∙ sum_below-constant (next - from) (unit_share costs l from))
  where
    whole : next ≡ from + (next - from)
    whole = omega arith

    test : (u c : ℕ) → u < next - from → (from < c → next ≤ c) → nat_lt (from + u) c ≡ nat_lt from c
    test u c h k = grind (arith, nat_tests)

    same_share : (u : ℕ) → u < next - from → unit_share costs l (from + u) ≡ unit_share costs l from
    same_share u h =
        ap (λ (k : ℕ). pos (l / k))
        (count-same (above (slice_index costs) (from + u)) (above (slice_index costs) from) (length costs)
        (λ j lt. test u (slice_index costs j) h (upto j lt)))

pub step_small : (sum from next l q r : ℕ) → from ≤ next → sum ≤ from * l → r ≡ (next - from) * q → q ≤ l
    → sum + r ≤ next * l
step_small sum from next l q r le h e k =
    let whole : next ≡ from + (next - from) = omega arith in
    sum_within (next - from) whole e
  where
    sum_within : (d : ℕ) → next ≡ from + d → r ≡ d * q → sum + r ≤ next * l
    sum_within d w e =
        let m : d * q ≤ d * l = mul-le-mul (le_refl d) k in
        let f : next * l ≡ from * l + d * l = ap (λ (z : ℕ). z * l) w ∙ omega arith in
        omega arith

-- ---- the common denominator

abbrev divides_common : ℕ → Bool
divides_common k = nat_eq (suc k * (common / suc k)) common

common-divided : (k : ℕ) → 1 ≤ k → k ≤ 32 → k * (common / k) ≡ common
common-divided zero some few = absurd (omega arith)
common-divided (suc k) some few = from_nat_eq _ _ (passes_below-at 32 divides_common refl k (omega arith))

pub common_shares : (costs : List ℕ) (i : ℕ) → length costs ≤ 32 → i < length costs
    → neg_ℤ (units_below costs common (slice_index costs i)) *ℤ pos (factorial (length costs))
    ≡ pos common *ℤ shapley_total (game_of_costs costs) i
common_shares costs i few lt =
    airport-shares costs i common lt
    (λ u h. common-divided (count (above (slice_index costs) u) (length costs)) (some_above costs i u lt h)
    (at_most_32 (count (above (slice_index costs) u) (length costs))
    (count-few (above (slice_index costs) u) (length costs))))
  where
    at_most_32 : (k : ℕ) → k ≤ length costs → k ≤ 32
    at_most_32 k h = omega arith

pub share_small : (k : ℕ) → common / k ≤ common
share_small k = div-le_self common k

pub paid_more : (costs : List ℕ) (from next sum r k : ℕ) → from ≤ next
    → ((j : ℕ) → j < length costs → from < slice_index costs j → next ≤ slice_index costs j)
    → pos sum ≡ units_below costs common from → k ≡ count (above (slice_index costs) from) (length costs)
    → r ≡ (next - from) * (common / k) → pos (sum + r) ≡ units_below costs common next
paid_more costs from next sum r k le upto before same e =
    let more = units_more costs common from next le upto in
    let here : pos r ≡ pos ((next - from) * (common / count (above (slice_index costs) from) (length costs))) =
    ap pos (e ∙ ap (λ (q : ℕ). (next - from) * (common / q)) same) in
    sums before here ∙ sym more
  where
    sums : {a b : ℤ} → pos sum ≡ a → pos r ≡ b → pos (sum + r) ≡ a +ℤ b
    sums e f = omega (arith, linear)

-- ---- a list of results that grows

pub pushed : (f : ℕ → ℤ) (xs ys : List ℤ) (r : ℤ) (n : ℕ) → ys ≡ xs ++ to_z w128 (of_z w128 r) ∷ [] → length xs ≡ n
    → ((k : ℕ) → k < n → (get_or xs k (pos 0) ≡ f k) × (unsigned_abs (get_or xs k (pos 0)) < 2 ^ 110)) → r ≡ f n
    → unsigned_abs r < 2 ^ 110
    → (length ys ≡ n + 1)
    × ((k : ℕ) → k < n + 1 → (get_or ys k (pos 0) ≡ f k) × (unsigned_abs (get_or ys k (pos 0)) < 2 ^ 110))
pushed f xs ys r n e len before here small =
    let kept : to_z w128 (of_z w128 r) ≡ r = cast_kept w128 r (omega arith) in
    let all : ys ≡ xs ++ r ∷ [] = e ∙ ap (λ (z : ℤ). xs ++ z ∷ []) kept in (
      ap length all ∙ longer xs r len,
      λ k lt. elim (less_or_last k n (omega arith)) [
        | inl less ↦
            let at : get_or ys k (pos 0) ≡ get_or xs k (pos 0) =
            ap (λ (l : List ℤ). get_or l k (pos 0)) all
            ∙ get_or_append_left xs (r ∷ []) (pos 0) k (omega arith) in
            (at ∙ (before k less).0, rw at (before k less).1)
        | inr same ↦
            let at : get_or ys k (pos 0) ≡ r =
            ap (λ (l : List ℤ). get_or l k (pos 0)) all ∙ get_or_push xs r (pos 0) k (omega arith) in
            (at ∙ here ∙ ap f (sym same), rw at small)
      ],
    )
  where
    longer : (xs : List ℤ) (r : ℤ) → length xs ≡ n → length (xs ++ r ∷ []) ≡ n + 1
    longer xs r len = omega (arith, length-append xs (r ∷ []))
