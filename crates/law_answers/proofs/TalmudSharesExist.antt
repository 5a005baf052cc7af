-- Each estate of at most the claims has shares of the rule. A bound from 0 on gives all together from nothing to all
-- claims, and rises by as many units as there are claims above it: so a fraction between two whole bounds gives what is
-- asked for.
use Rattle.std.proofs.Common.{◌≡◌, ◌⊎◌, ℕ, zero, suc, ◌<◌, ◌≤◌, Bool, true, false, cond, nat_le, List, length, get_or}
use Rattle.std.proofs.Common.{map, min, ℤ, pos, ◌+ℤ◌, ◌-ℤ◌, ◌*ℤ◌, ◌≤ℤ◌, ◌<ℤ◌, int_le, refl, sym, ap, ◌∙◌, inl, inr}
use Rattle.std.proofs.Common.{arith}
use Rattle.std.specs.Int.{int_min}
use Rattle.std.specs.List.{range_with_len}
use Rattle.std.proofs.lemmas.Bool.Decides.{nat_tests}
use Rattle.std.proofs.lemmas.Int.{ints, clamps, by_lt_z}
use Rattle.std.proofs.lemmas.List.FromFn.{get_or-map-range_with_len, length-map-range_with_len}
use Rattle.definitions.proofs.Members.{sum_below-same, sum_below-add, sum_below-times, sum_below-zero}
use Rattle.definitions.proofs.Members.{sum_over-grand_coalition}
use Rattle.definitions.proofs.Ring.{linear, add-mulℤ, mul-leℤ, one-mulℤ}
use Rattle.definitions.proofs.Cases.{int_min-left, int_min-right}
use Rattle.definitions.specs.Coalitions.{grand_coalition, sum_over}
use Rattle.definitions.specs.Sums.{sum_below}
use Rattle.definitions.specs.Games.{Allocation, share}
use Rattle.orders.proofs.ListSums.{number_of}
use Rattle.talmud.specs.Rule.{cut, cut_sum, is_little, IsTalmud}
use Rattle.talmud.proofs.Worths.{cut_claim, cut-low, cut-covers}
use Rattle.theorems.proofs.Products.{products, sorted_products}

-- ---- a bound for all

-- 1 for a claim above the bound
abbrev above : ℕ → ℕ → ℤ
above l c = cond (nat_le c l) (pos 0) (pos 1)

step_one : (l c : ℕ) → pos (min c (suc l)) ≡ pos (min c l) +ℤ above l c
step_one l c = one_either (nat_le c l) refl
  where
    one_either : (b : Bool) → nat_le c l ≡ b → pos (min c (suc l)) ≡ pos (min c l) +ℤ cond b (pos 0) (pos 1)
    one_either b e = grind (arith, ints, nat_tests)

-- what a claim gets of a bound between two whole ones, times how many are above
between : (k r : ℤ) (l c : ℕ) → pos 0 ≤ℤ r → r <ℤ k
    → int_min (k *ℤ pos c) (k *ℤ pos l +ℤ r) ≡ k *ℤ pos (min c l) +ℤ r *ℤ above l c
between k r l c low lt = between_either (nat_le c l) refl
  where
    between_either : (b : Bool) → nat_le c l ≡ b
        → int_min (k *ℤ pos c) (k *ℤ pos l +ℤ r) ≡ k *ℤ pos (min c l) +ℤ r *ℤ cond b (pos 0) (pos 1)
    between_either true e =
        let le : c ≤ l = grind (arith, nat_tests, e) in
        let up = mul-leℤ k (pos c) (pos l) (omega (arith, linear, low, lt)) (omega (arith, ints, le)) in
        let all : min c l ≡ c = omega (arith, le) in
        int_min-left (k *ℤ pos c) (k *ℤ pos l +ℤ r) (omega (arith, linear, up, low))
        ∙ sym (omega (products, ap (λ (z : ℕ). k *ℤ pos z) all))
    between_either false e =
        let more : suc l ≤ c = grind (arith, nat_tests, e) in
        let up = mul-leℤ k (pos l +ℤ pos 1) (pos c) (omega (arith, linear, low, lt)) (omega (arith, ints, more)) in
        let all : min c l ≡ l = omega (arith, more) in
        int_min-right (k *ℤ pos c) (k *ℤ pos l +ℤ r)
        (omega (products, up, lt))
        ∙ sym (omega (products, ap (λ (z : ℕ). k *ℤ pos z) all))

-- a bound over a denominator by which all together get an amount
record Fills (n : ℕ) (c : ℕ → ℕ) (amount : ℤ) : Type 0 where
  pub den : ℤ
  pub bound : ℤ
  pub positive : pos 1 ≤ℤ den
  pub low : pos 0 ≤ℤ bound
  pub sums : sum_below n (λ i. int_min (den *ℤ pos (c i)) bound) ≡ den *ℤ amount

module _ (n : ℕ) (c : ℕ → ℕ) (amount : ℤ) where
  abbrev given : ℕ → ℤ
  given l = sum_below n (λ i. pos (min (c i) l))

  abbrev many : ℕ → ℤ
  many l = sum_below n (λ i. above l (c i))

  given-more : (l : ℕ) → given (suc l) ≡ given l +ℤ many l
  given-more l =
      sum_below-same n (λ i. pos (min (c i) (suc l))) (λ i. pos (min (c i) l) +ℤ above l (c i))
      (λ i lt. step_one l (c i))
      ∙ sum_below-add n (λ i. pos (min (c i) l)) (λ i. above l (c i))

  fills_between : (l : ℕ) → given l ≤ℤ amount → amount <ℤ given (suc l) → Fills n c amount
  fills_between l low high =
      let k = many l in
      let r = amount -ℤ given l in
      let few : r <ℤ k = omega (arith, linear, high, given-more l) in
      let rest : pos 0 ≤ℤ r = omega (arith, linear, low) in
      let some : pos 1 ≤ℤ k = omega (arith, linear, few, rest) in
      record {
        den = k;
        bound = k *ℤ pos l +ℤ r;
        positive = some;
        low = omega (products, mul-leℤ k (pos 0) (pos l) (omega (arith, linear, some)) (omega (arith, ints)), rest);
        sums =
            let each = sum_below-same n (λ i. int_min (k *ℤ pos (c i)) (k *ℤ pos l +ℤ r))
            (λ i. k *ℤ pos (min (c i) l) +ℤ r *ℤ above l (c i)) (λ i lt. between k r l (c i) rest few) in
            let split = sum_below-add n (λ i. k *ℤ pos (min (c i) l)) (λ i. r *ℤ above l (c i)) in
            let first = sum_below-times n (λ i. pos (min (c i) l)) k in
            omega (sorted_products, each, split, first, sum_below-times n (λ i. above l (c i)) r);
      }

  search : (l : ℕ) → pos 0 ≤ℤ amount → (given l ≤ℤ amount) ⊎ Fills n c amount
  search zero low =
      inl
      (omega (arith, linear, sum_below-zero n (λ i. pos (min (c i) 0)) (λ i lt. nothing (c i)), low))
    where
      nothing : (d : ℕ) → pos (min d 0) ≡ pos 0
      nothing d = omega (arith, ints)
  search (suc l) low = elim (search l low) [
    | inl le ↦ by_lt_z amount (given (suc l)) (λ lt. inr (fills_between l le lt)) (λ more. inl more)
    | inr found ↦ inr found
  ]

  -- claims of at most top, which add to at least the amount
  fills : (top : ℕ) → ((i : ℕ) → i < n → c i ≤ top) → pos 0 ≤ℤ amount → amount ≤ℤ sum_below n (λ i. pos (c i))
      → Fills n c amount
  fills top below low enough = elim (search top low) [
    | inr found ↦ found
    | inl le ↦
        let all = sum_below-same n (λ i. pos (min (c i) top)) (λ i. pos (c i)) (λ i lt. whole (c i) (below i lt)) in
        record {
          den = pos 1;
          bound = pos top;
          positive = omega (arith, linear);
          low = omega (arith, ints);
          sums =
              let each = sum_below-same n (λ i. int_min (pos 1 *ℤ pos (c i)) (pos top)) (λ i. pos (c i))
              (λ i lt. once (c i) (below i lt)) in
              omega (products, each, le, enough, all);
        }
  ]
    where
      whole : (d : ℕ) → d ≤ top → pos (min d top) ≡ pos d
      whole d le = omega (arith, ints, le)

      once : (d : ℕ) → d ≤ top → int_min (pos 1 *ℤ pos d) (pos top) ≡ pos d
      once d le =
          ap (λ (z : ℤ). int_min z (pos top)) (one-mulℤ (pos d))
          ∙ int_min-left (pos d) (pos top) (omega (arith, ints, le))

-- ---- the shares

-- twice what the parts add to: the estate, where it is little, and otherwise what is missing
abbrev divided : ℕ → List ℕ → ℤ
divided estate claims = cond (is_little estate claims) (pos estate) (cut_sum estate claims -ℤ pos estate)

module _ (estate : ℕ) (claims : List ℕ)
    (f : Fills (length claims) (cut estate claims) (divided estate claims +ℤ divided estate claims)) where
  abbrev n : ℕ
  n = length claims

  abbrev den : ℤ
  den = f.den +ℤ f.den

  abbrev half : ℕ → ℤ
  half i = int_min (f.den *ℤ pos (cut estate claims i)) f.bound

  abbrev gets : ℕ → ℤ
  gets i = cond (is_little estate claims) (half i) (den *ℤ pos (cut estate claims i) -ℤ half i)

  abbrev rule_shares : Allocation
  rule_shares = record { shares = map gets (range_with_len 0 n); den = den }

  share-at : (i : ℕ) → i < n → share rule_shares i ≡ gets i
  share-at i lt = get_or-map-range_with_len gets 0 n i i (pos 0) lt (omega arith)

  total : (b : Bool) → is_little estate claims ≡ b
      → sum_below n (λ i. cond b (half i) (den *ℤ pos (cut estate claims i) -ℤ half i)) ≡ den *ℤ pos estate
  total true e =
      let here = ap (λ (b : Bool). cond b (pos estate) (cut_sum estate claims -ℤ pos estate)) e in
      omega (products, f.sums, ap (λ (z : ℤ). f.den *ℤ (z +ℤ z)) here)
  total false e =
      let s = cut_sum estate claims in
      let here = ap (λ (b : Bool). cond b (pos estate) (s -ℤ pos estate)) e in
      let amount = ap (λ (z : ℤ). f.den *ℤ (z +ℤ z)) here in
      let each = sum_below-same n (λ i. den *ℤ pos (cut estate claims i))
      (λ i. (den *ℤ pos (cut estate claims i) -ℤ half i) +ℤ half i) (λ i lt. omega (arith, linear)) in
      let split = sum_below-add n (λ i. den *ℤ pos (cut estate claims i) -ℤ half i) half in
      omega (products, f.sums, amount, each, split, sum_below-times n (cut_claim estate claims) den)

  -- the part of each
  each_part : (b : Bool) (i : ℕ) (y : ℤ) → y ≡ cond b (half i) (den *ℤ pos (cut estate claims i) -ℤ half i)
      → cond b y (den *ℤ pos (cut estate claims i) -ℤ y) ≡ half i
  each_part true i y e = e
  each_part false i y e = omega (arith, linear, e)

  twice : (a t : ℤ) → int_min a t +ℤ int_min a t ≡ int_min (a +ℤ a) (t +ℤ t)
  twice a t = omega (arith, ints, clamps)

  made : IsTalmud estate claims rule_shares
  made = record {
    players = length-map-range_with_len gets 0 n;
    positive = omega (arith, linear, f.positive);
    all = sum_below-same n (share rule_shares) gets share-at ∙ total (is_little estate claims) refl;
    parts = (
      f.bound,
      f.low,
      λ i lt.
          let p = each_part (is_little estate claims) i (share rule_shares i) (share-at i lt) in
          let d = f.den *ℤ pos (cut estate claims i) in
          ap (λ (z : ℤ). z +ℤ z) p ∙ twice d f.bound
          ∙ ap (λ (z : ℤ). int_min z (f.bound +ℤ f.bound))
          (sym (add-mulℤ f.den f.den (pos (cut estate claims i)))),
    );
  }

-- the amount is from nothing to the cut claims
amount_low : (estate : ℕ) (s : ℤ) (b : Bool) → pos estate ≤ℤ s
    → pos 0 ≤ℤ (cond b (pos estate) (s -ℤ pos estate) +ℤ cond b (pos estate) (s -ℤ pos estate))
amount_low estate s b h = grind (arith, ints)

amount_high : (estate : ℕ) (s : ℤ) (b : Bool) → int_le (pos estate +ℤ pos estate) s ≡ b
    → (cond b (pos estate) (s -ℤ pos estate) +ℤ cond b (pos estate) (s -ℤ pos estate)) ≤ℤ s
amount_high estate s b e = grind (arith, linear)

pub talmud_exists : (estate : ℕ) (claims : List ℕ)
    → pos estate ≤ℤ sum_below (length claims) (λ i. pos (get_or claims i 0))
    → (x : Allocation) × IsTalmud estate claims x
talmud_exists estate claims enough =
    let n = length claims in
    let s = cut_sum estate claims in
    let covers = covered (cut-covers estate claims n (grand_coalition n)).2 in
    let f = fills n (cut estate claims) (divided estate claims +ℤ divided estate claims) estate
    (λ i lt. (let low = cut-low estate claims i in omega (arith, ints, low)))
    (amount_low estate s (is_little estate claims) covers)
    (amount_high estate s (is_little estate claims) refl) in
    (rule_shares estate claims f, made estate claims f)
  where
    all : ℕ
    all = grand_coalition (length claims)

    covered : (sum_over (length claims) (cut_claim estate claims) all
        ≡ sum_over (length claims) (number_of claims) all)
        ⊎ (pos estate ≤ℤ sum_over (length claims) (cut_claim estate claims) all)
        → pos estate ≤ℤ cut_sum estate claims
    covered h = grind (arith, linear, cut_claim, number_of, sum_over-grand_coalition)
