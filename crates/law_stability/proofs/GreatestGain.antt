-- Of a convex game, at an allocation that some coalition blocks: the coalition p of the greatest excess, the last of
-- several, and what its members can get more. That is a core point z of the game of the greatest excesses of parts; it
-- gives the others nothing (Maschler, Peleg and Shapley 1972).
--
--   Gain g x   such a coalition and such shares, a member that gains, and a player outside
use Rattle.std.proofs.Common.{◌≡◌, ℕ, ◌+◌, ◌^◌, ◌<◌, ◌≤◌, Bool, true, false, ◌&&◌, cond, ℤ, pos, ◌*ℤ◌, ◌<ℤ◌, ◌≤ℤ◌}
use Rattle.std.proofs.Common.{int_lt, refl, sym, ap, ◌∙◌, inl, inr, arith}
use Rattle.std.specs.Ordering.{int_eq}
use Rattle.std.proofs.lemmas.Bool.{false≢true}
use Rattle.std.proofs.lemmas.Int.{by_lt_z, ints}
use Rattle.std.proofs.Math.Pow.{pow_pos}
use Rattle.definitions.proofs.Cases.{true_or_false, not_true, and_parts}
use Rattle.definitions.proofs.Masks.{singleton-within}
use Rattle.definitions.proofs.Members.{has_player-empty, has_player-grand_coalition, sum_below-zero, sum_over-singleton}
use Rattle.definitions.proofs.Members.{sum_over-grand_coalition}
use Rattle.definitions.proofs.Parts.{part, sum_below-le, sum_over-more}
use Rattle.definitions.proofs.Ring.{linear, mul-leℤ, mul-positiveℤ}
use Rattle.definitions.proofs.SomeMembers.{some_outsider}
use Rattle.definitions.proofs.Splits.{some_below-true, some_below-false}
use Rattle.definitions.proofs.SumsOver.{amount-at, amount-empty}
use Rattle.definitions.specs.Sums.{sum_below, IsGreatest}
use Rattle.definitions.specs.Coalitions.{has_player, singleton, grand_coalition, sum_over, some_below}
use Rattle.definitions.specs.Convexity.{IsConvex}
use Rattle.definitions.specs.Games.{Game, Allocation, share, amount, excess, IsAllocation, IsEfficient, Blocks, InCore}
use Rattle.theorems.proofs.Examples.{from_int_eq}
use Rattle.theorems.proofs.Transfers.{some_greatest}
use Rattle.convexity.proofs.ShapleyCore.{shapley_in_core}
use Rattle.law_answers.proofs.RenumberedCoalitions.{same_below}
use Rattle.law_answers.proofs.ShapleyValuesExist.{shapley_exists}
use Rattle.law_answers.proofs.Numbers.{to_int_eq}
use Rattle.law_stability.proofs.Covers.{lies_in, lies_from, lies_to, greatest_in, cover, cover_game, cover-convex}
use Rattle.law_stability.proofs.Supermodular.{excess-both}
use Rattle.theorems.proofs.Products.{products}

at_most_all : (n s : ℕ) (f : ℕ → ℤ) → ((i : ℕ) → i < n → pos 0 ≤ℤ f i) → sum_over n f s ≤ℤ sum_below n f
at_most_all n s f low = sum_below-le n (part f s) f (λ i lt. by_test (has_player s i) (f i) (low i lt))
  where
    by_test : (c : Bool) (z : ℤ) → pos 0 ≤ℤ z → cond c z (pos 0) ≤ℤ z
    by_test c z h = grind (arith, linear)

pub record Gain (g : Game) (x : Allocation) : Type 0 where
  pub z : Allocation
  pub top : ℤ
  pub p : ℕ
  pub k : ℕ
  pub l : ℕ
  pub z_positive : pos 0 <ℤ z.den
  pub nonnegative : (i : ℕ) → i < g.players → pos 0 ≤ℤ share z i
  pub reach : (q : ℕ) → q < 2 ^ g.players → (z.den *ℤ excess g x q) ≤ℤ sum_over g.players (share z) q
  pub low : (r : ℕ) → r < 2 ^ g.players → excess g x r ≤ℤ top
  pub p_within : p < 2 ^ g.players
  pub p_top : excess g x p ≡ top
  pub p_last : (r : ℕ) → r < 2 ^ g.players → excess g x r ≡ top → r ≤ p
  pub p_gets : sum_over g.players (share z) p ≡ z.den *ℤ top
  pub others_get_nothing : (i : ℕ) → i < g.players → has_player p i ≡ false → share z i ≡ pos 0
  pub hk : k < g.players
  pub k_in : has_player p k ≡ true
  pub k_gains : pos 0 <ℤ share z k
  pub hl : l < g.players
  pub l_out : has_player p l ≡ false

pub empty_nothing : (g : Game) (x : Allocation) → g.worth 0 ≡ pos 0 → excess g x 0 ≡ pos 0
empty_nothing g x nobody = omega (products, amount-empty x, ap (◌*ℤ◌ x.den) nobody)

-- ---- the coalition of the greatest excess, and what its members can get more

module _ (g : Game) (convex : IsConvex g) (nobody : g.worth 0 ≡ pos 0) (x : Allocation) (hx : IsAllocation g x)
    (efficient : IsEfficient g x) (s : ℕ) (hs : s < 2 ^ g.players) (blocks : Blocks g x s) where
  abbrev n : ℕ
  n = g.players

  abbrev e : ℕ → ℤ
  e r = excess g x r

  abbrev z : Allocation
  z = (shapley_exists (cover_game g.players (excess g x))).0

  w_nobody : cover n e 0 ≡ pos 0
  w_nobody =
      let most = (greatest_in n e 0).1 in
      let r = most.0.0 in
      let none : r ≡ 0 = same_below n r 0 most.0.1.0 (pow_pos n)
      (λ i lt. not_true (has_player r i)
      (λ inside. false≢true (sym (has_player-empty i) ∙ lies_to n r 0 i most.0.1.1 lt inside))
      ∙ sym (has_player-empty i)) in
      most.0.2 ∙ ap e none ∙ empty_nothing g x nobody

  z_core : InCore (cover_game n e) z
  z_core =
      shapley_in_core (cover_game n e) z w_nobody (shapley_exists (cover_game n e)).1
      (cover-convex n e (λ a b ha hb. excess-both g x a b convex hx ha hb))

  z_positive : pos 0 <ℤ z.den
  z_positive = omega (arith, linear, z_core.0.1)

  -- a coalition gets in z at least the excess of each part
  reach : (q r : ℕ) → q < 2 ^ n → r < 2 ^ n → lies_in n r q ≡ true → (z.den *ℤ e r) ≤ℤ sum_over n (share z) q
  reach q r hq hr lies =
      let le =
      mul-leℤ z.den (e r) (cover n e q) (omega (arith, linear, z_positive)) ((greatest_in n e q).1.1 r (hr, lies)) in
      by_lt_z (amount z q) (z.den *ℤ cover n e q)
      (λ less. absurd (z_core.2 q hq less))
      (λ more. omega (arith, linear, le, more, amount-at (cover_game n e) z q z_core.0))

  nonnegative : (i : ℕ) → i < n → pos 0 ≤ℤ share z i
  nonnegative i lt =
      let some = reach (singleton i) 0 (singleton-within n i lt) (pow_pos n)
      (lies_from n 0 (singleton i) (λ j hj inside. absurd (false≢true (sym (has_player-empty j) ∙ inside)))) in
      omega (products, some, sum_over-singleton n i (share z) lt, ap (◌*ℤ◌ z.den) (empty_nothing g x nobody))

  -- the greatest excess
  top : ℤ
  top = cover n e (grand_coalition n)

  low : (r : ℕ) → r < 2 ^ n → e r ≤ℤ top
  unfolding top
  low r hr =
      (greatest_in n e (grand_coalition n)).1.1 r
      (hr, lies_from n r (grand_coalition n) (λ i lt inside. has_player-grand_coalition n i lt))

  total : sum_below n (share z) ≡ z.den *ℤ top
  unfolding top
  total =
      sym (sum_over-grand_coalition n (share z))
      ∙ sym (amount-at (cover_game n e) z (grand_coalition n) z_core.0)
      ∙ z_core.1

  top_positive : pos 0 <ℤ top
  top_positive = omega (arith, linear, blocks, low s hs)

  last : (m : ℤ) × IsGreatest (λ r. (r < 2 ^ n) × (int_eq (e r) top ≡ true)) (λ r. pos r) m
  unfolding top
  last = elim (some_greatest (λ r. int_eq (e r) top) (λ r. pos r) (2 ^ n)) [
    | inl none ↦ absurd
        (let most = (greatest_in n e (grand_coalition n)).1 in
        false≢true (sym (none most.0.0 most.0.1.0) ∙ to_int_eq (e most.0.0) top (sym most.0.2)))
    | inr found ↦ found
  ]

  p : ℕ
  p = last.1.0.0

  p_within : p < 2 ^ n
  unfolding p
  p_within = last.1.0.1.0

  p_top : e p ≡ top
  unfolding p
  p_top = from_int_eq (e p) top last.1.0.1.1

  p_last : (r : ℕ) → r < 2 ^ n → e r ≡ top → r ≤ p
  unfolding p
  p_last r hr same = omega (arith, ints, last.1.1 r (hr, to_int_eq (e r) top same), last.1.0.2)

  p_gets : sum_over n (share z) p ≡ z.den *ℤ top
  p_gets =
      let some = reach p p p_within p_within (lies_from n p p (λ i lt inside. inside)) in
      omega (arith, linear, some, at_most_all n p (share z) nonnegative, total, ap (◌*ℤ◌ z.den) p_top)

  others_get_nothing : (i : ℕ) → i < n → has_player p i ≡ false → share z i ≡ pos 0
  others_get_nothing i lt out =
      let more = sum_over-more n p i (share z) lt out in
      omega (arith, linear, more, at_most_all n (p + 2 ^ i) (share z) nonnegative, p_gets, total, nonnegative i lt)

  some_gain : pos 0 <ℤ (z.den *ℤ top)
  some_gain = mul-positiveℤ z.den top z_positive top_positive

  -- a member of p that gets something, and somebody outside
  winner : (i : ℕ) × (i < n) × (has_player p i ≡ true) × (pos 0 <ℤ share z i)
  winner = elim (true_or_false (some_below n (λ i. has_player p i && int_lt (pos 0) (share z i)))) [
    | inl some ↦
        let found = some_below-true n (λ i. has_player p i && int_lt (pos 0) (share z i)) some in
        let both = and_parts (has_player p found.0) (int_lt (pos 0) (share z found.0)) found.2 in
        (found.0, found.1, both.0, omega (arith, ints, both.1))
    | inr none ↦ absurd
        (let le = sum_below-le n (part (share z) p) (λ i. pos 0)
        (λ i lt. by_test (has_player p i) (share z i)
        (some_below-false n (λ i. has_player p i && int_lt (pos 0) (share z i)) none i lt)) in
        omega (arith, linear, le, sum_below-zero n (λ i. pos 0) (λ i lt. refl), p_gets, some_gain))
  ]
    where
      by_test : (c : Bool) (u : ℤ) → (c && int_lt (pos 0) u) ≡ false → cond c u (pos 0) ≤ℤ pos 0
      by_test c u h = grind (arith, ints)

  outsider : (j : ℕ) × (j < n) × (has_player p j ≡ false)
  outsider =
      some_outsider n p p_within
      (λ all. omega (arith, linear, ap e all, efficient, p_top, top_positive))

  pub gain : Gain g x
  gain = record {
    z = z;
    top = top;
    p = p;
    k = winner.0;
    l = outsider.0;
    z_positive = z_positive;
    nonnegative = nonnegative;
    reach = λ q hq. reach q q hq hq (lies_from n q q (λ i lt inside. inside));
    low = low;
    p_within = p_within;
    p_top = p_top;
    p_last = p_last;
    p_gets = p_gets;
    others_get_nothing = others_get_nothing;
    hk = winner.1;
    k_in = winner.2;
    k_gains = winner.3;
    hl = outsider.1;
    l_out = outsider.2;
  }
