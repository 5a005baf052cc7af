-- If i takes t from j, the excess of each coalition with j and without i rises by t, that of each with i and without j
-- falls by t, and no other changes. So at a core point i can take from j just what the surplus of j against i lacks to
-- 0 (Maschler, Peleg and Shapley 1979).
use Rattle.std.proofs.Common.{◌≡◌, ◌≢◌, ℕ, zero, suc, ◌^◌, ◌<◌, Bool, true, false, ◌||◌, not, cond, length, ℤ, pos}
use Rattle.std.proofs.Common.{◌+ℤ◌, ◌-ℤ◌, ◌*ℤ◌, ◌≤ℤ◌, neg_ℤ, int_le, refl, sym, ap, subst, ◌∙◌, arith, rules}
use Rattle.std.proofs.lemmas.Int.{ints}
use Rattle.std.proofs.lemmas.List.FromFn.{get_or-map-range_with_len, length-map-range_with_len}
use Rattle.definitions.proofs.Members.{has_player-grand_coalition, sum_over-combined}
use Rattle.definitions.proofs.Ring.{linear, mul_assocℤ, mul-positiveℤ}
use Rattle.definitions.proofs.Splits.{passes_below-at}
use Rattle.definitions.proofs.SumsOver.{sum_over-same, sum_over-add, sum_over-times, amount-at}
use Rattle.definitions.specs.Coalitions.{has_player, grand_coalition, sum_over}
use Rattle.definitions.specs.Games.{Game, Allocation, share, amount, excess, IsAllocation, IsEfficient, InCore}
use Rattle.definitions.specs.Prekernel.{holds_without, IsSurplus, InPrekernel}
use Rattle.law_answers.proofs.AtPlayer.{sum_over-at_player}
use Rattle.law_answers.proofs.NucleolusIsInCore.{core_low}
use Rattle.law_stability.specs.CoreTransfers.{only, taken, IsMostTaken, InTheMiddle, PrekernelIsInTheMiddle}
use Rattle.law_stability.specs.CoreTransfers.{TakenHalves}
use Rattle.law_stability.specs.CoreTransfers.{all_first}
use Rattle.law_stability.specs.Kernel.{Outweighs}
use Rattle.law_stability.specs.TwoVoters.{both_agree, halves}
use Rattle.law_stability.proofs.Kernel.{none_outweighs}
use Rattle.theorems.proofs.Examples.{from_either}
use Rattle.theorems.proofs.Moves.{parted, joined}
use Rattle.theorems.proofs.Products.{products}
use Rattle.theorems.proofs.Transfers.{surplus_of}

module _ (g : Game) (x : Allocation) (hx : IsAllocation g x) (i j : ℕ) (hi : i < g.players) (hj : j < g.players) where
  abbrev n : ℕ
  n = g.players

  module _ (k t : ℤ) where
    abbrev given : ℕ → ℤ
    given l = k *ℤ share x l +ℤ (only i t l -ℤ only j t l)

    abbrev z : Allocation
    z = taken k t x i j

    z_length : length z.shares ≡ n
    z_length = length-map-range_with_len given 0 (length x.shares) ∙ hx.0

    share-z : (l : ℕ) → l < n → share z l ≡ given l
    share-z l lt =
        let few = hx.0 in
        get_or-map-range_with_len given 0 (length x.shares) l l (pos 0) (omega (arith, few, lt)) (omega arith)

    amount-z : (s : ℕ)
        → amount z s ≡ k *ℤ amount x s +ℤ (cond (has_player s i) t (pos 0) -ℤ cond (has_player s j) t (pos 0))
    amount-z s =
        let a = ap (λ (m : ℕ). sum_over m (share z) s) z_length in
        let b = sum_over-same n (share z) given s share-z in
        let c = sum_over-add n (λ l. k *ℤ share x l) (λ l. only i t l -ℤ only j t l) s in
        let d = sum_over-times n (share x) k s in
        let e = ap (◌*ℤ◌ k) (amount-at g x s hx) in
        let f = sum_over-same n (λ l. only i t l -ℤ only j t l)
        (λ l. pos 1 *ℤ only i t l -ℤ pos 1 *ℤ only j t l) s
        (λ l lt. omega products) in
        let h = sum_over-combined n (only i t) (only j t) (pos 1) (pos 1) s in
        omega (products, a, b, c, d, e, f, h, sum_over-at_player n s i t hi, sum_over-at_player n s j t hj)

    excess-z : (s : ℕ)
        → excess g z s
        ≡ k *ℤ excess g x s +ℤ (cond (has_player s j) t (pos 0) -ℤ cond (has_player s i) t (pos 0))
    excess-z s = omega (products, amount-z s, mul_assocℤ k x.den (g.worth s))

    core_from : IsEfficient g x → pos 1 ≤ℤ k → ((s : ℕ) → s < 2 ^ n → excess g z s ≤ℤ pos 0) → InCore g z
    core_from e some low = (
      (
        z_length,
        (let positive = mul-positiveℤ k x.den (omega (arith, linear, some)) (omega (arith, linear, hx.1)) in
            omega (arith, linear, positive)),
      ),
      (let all = grand_coalition n in
          let zero_excess : excess g x all ≡ pos 0 = omega (arith, linear, e) in
          let same = excess-z all in
          let with_i = ap (λ (b : Bool). cond b t (pos 0)) (has_player-grand_coalition n i hi) in
          let with_j = ap (λ (b : Bool). cond b t (pos 0)) (has_player-grand_coalition n j hj) in
          omega (products, same, with_i, with_j, ap (◌*ℤ◌ k) zero_excess)),
      λ s lt blocks. (let le = low s lt in omega (arith, linear, le, blocks)),
    )

-- ---- what the surplus lacks to 0

module _ (g : Game) (x : Allocation) (core : InCore g x) where
  most_from_surplus : (i j : ℕ) → i < g.players → j < g.players → (m : ℤ) → IsSurplus g x j i m
      → IsMostTaken g x i j (neg_ℤ m)
  most_from_surplus i j hi hj m most = (
    core_from g x core.0 i j hi hj (pos 1) (neg_ℤ m) core.1 (omega (arith, linear))
        (λ s lt.
        let low = by_tests (has_player s j) (has_player s i) (excess g x s) (core_low g x core s lt) (λ a b.
        most.1 s (lt, joined (has_player s j) (has_player s i) a (ap not b))) in
        omega (products, low, excess-z g x core.0 i j hi hj (pos 1) (neg_ℤ m) s)),
    λ k t some left.
        let s = most.0.0 in
        let both = parted (has_player s j) (has_player s i) most.0.1.1 in
        let low = core_low g (taken k t x i j) left s most.0.1.0 in
        let with_j = ap (λ (b : Bool). cond b t (pos 0)) both.0 in
        let without_i = none_of t (has_player s i) both.1 in
        let same = ap (◌*ℤ◌ k) most.0.2 in
        omega (products, low, excess-z g x core.0 i j hi hj k t s, with_j, without_i, same),
  )
    where
      none_of : (t : ℤ) (b : Bool) → not b ≡ true → cond b t (pos 0) ≡ pos 0
      none_of t b e = grind arith

      surplus_low : m ≤ℤ pos 0
      surplus_low =
          let low = core_low g x core most.0.0 most.0.1.0 in
          let same = most.0.2 in
          omega (arith, linear, low, same)

      by_tests : (a b : Bool) (e : ℤ) → e ≤ℤ pos 0 → (a ≡ true → b ≡ false → e ≤ℤ m)
          → (e +ℤ (cond a (neg_ℤ m) (pos 0) -ℤ cond b (neg_ℤ m) (pos 0))) ≤ℤ pos 0
      by_tests true true e low h = omega (arith, linear, low)
      by_tests true false e low h = (let le = h refl refl in omega (arith, linear, le))
      by_tests false true e low h = (let le = surplus_low in omega (arith, linear, le, low))
      by_tests false false e low h = omega (arith, linear, low)

  -- there is one most
  same_most : (i j : ℕ) (m w : ℤ) → IsMostTaken g x i j m → IsMostTaken g x i j w → m ≡ w
  same_most i j m w h k =
      let a = k.1 (pos 1) m (omega (arith, linear)) h.0 in
      let b = h.1 (pos 1) w (omega (arith, linear)) k.0 in
      omega (products, a, b)

  surplus_from_most : (i j : ℕ) → i < g.players → j < g.players → i ≢ j → (m : ℤ) → IsMostTaken g x i j m
      → IsSurplus g x j i (neg_ℤ m)
  surplus_from_most i j hi hj ne m most =
      let found = surplus_of g x j i hj (λ e. ne (sym e)) in
      let same = same_most i j m (neg_ℤ found.0) most (most_from_surplus i j hi hj found.0 found.1) in
      subst (IsSurplus g x j i) (omega (arith, linear, same)) found.1

  to_middle : InPrekernel g x → InTheMiddle g x
  to_middle h i j hi hj ne =
      let same = h.2 i j hi hj ne in
      (neg_ℤ same.0, most_from_surplus i j hi hj same.0 same.2, most_from_surplus j i hj hi same.0 same.1)

  from_middle : InTheMiddle g x → InPrekernel g x
  from_middle h = (
    core.0,
    core.1,
    λ i j hi hj ne.
        let both = h i j hi hj ne in (
          neg_ℤ both.0,
          surplus_from_most j i hj hi (λ e. ne (sym e)) both.0 both.2,
          surplus_from_most i j hi hj ne both.0 both.1,
        ),
  )

pub prekernel_is_in_the_middle : PrekernelIsInTheMiddle
prekernel_is_in_the_middle g x core = (to_middle g x core, from_middle g x core)

-- ---- halves

halves_in_core : InCore both_agree halves
halves_in_core = (
  (refl, search rules),
  refl,
  λ s lt blocks.
      (let le = passes_below-at 4 (λ s. int_le (pos 2 *ℤ both_agree.worth s) (amount halves s)) refl s lt in
      omega (arith, ints, le, blocks)),
)

surplus_of_second : IsSurplus both_agree halves 1 0 (neg_ℤ (pos 1))
surplus_of_second = (
  (2, (omega arith, refl), refl),
  λ s h. from_either _ _ _
      (passes_below-at 4 (λ s. not (holds_without 1 0 s) || int_le (excess both_agree halves s) (neg_ℤ (pos 1))) refl s
      h.0) h.1,
)

surplus_of_first : IsSurplus both_agree halves 0 1 (neg_ℤ (pos 1))
surplus_of_first = (
  (1, (omega arith, refl), refl),
  λ s h. from_either _ _ _
      (passes_below-at 4 (λ s. not (holds_without 0 1 s) || int_le (excess both_agree halves s) (neg_ℤ (pos 1))) refl s
      h.0) h.1,
)

first_takes_half : IsMostTaken both_agree halves 0 1 (pos 1)
first_takes_half =
    most_from_surplus both_agree halves halves_in_core 0 1 (omega arith) (omega arith) (neg_ℤ (pos 1))
    surplus_of_second

second_takes_half : IsMostTaken both_agree halves 1 0 (pos 1)
second_takes_half =
    most_from_surplus both_agree halves halves_in_core 1 0 (omega arith) (omega arith) (neg_ℤ (pos 1))
    surplus_of_first

middle : InTheMiddle both_agree halves
middle zero zero hi hj ne = absurd (ne refl)
middle zero (suc zero) hi hj ne = (pos 1, first_takes_half, second_takes_half)
middle (suc zero) zero hi hj ne = (pos 1, second_takes_half, first_takes_half)
middle (suc zero) (suc zero) hi hj ne = absurd (ne refl)
middle zero (suc (suc j)) hi hj ne = absurd (omega (arith, hj))
middle (suc zero) (suc (suc j)) hi hj ne = absurd (omega (arith, hj))
middle (suc (suc i)) j hi hj ne = absurd (omega (arith, hi))

-- ---- all for the first

all_first_in_core : InCore both_agree all_first
all_first_in_core = (
  (refl, search rules),
  refl,
  λ s lt blocks.
      (let le = passes_below-at 4 (λ s. int_le (pos 1 *ℤ both_agree.worth s) (amount all_first s)) refl s lt in
      omega (arith, ints, le, blocks)),
)

second_outweighs : Outweighs both_agree all_first 1 0
second_outweighs = (
  pos 0,
  neg_ℤ (pos 1),
  (
    (2, (omega arith, refl), refl),
    λ s h. from_either _ _ _
        (passes_below-at 4 (λ s. not (holds_without 1 0 s) || int_le (excess both_agree all_first s) (pos 0)) refl s
        h.0) h.1,
  ),
  (
    (1, (omega arith, refl), refl),
    λ s h. from_either _ _ _
        (passes_below-at 4 (λ s. not (holds_without 0 1 s) || int_le (excess both_agree all_first s) (neg_ℤ (pos 1)))
        refl s h.0) h.1,
  ),
  search rules,
)

not_in_middle : ¬ InTheMiddle both_agree all_first
not_in_middle h =
    none_outweighs both_agree all_first 1 0
    ((from_middle both_agree all_first all_first_in_core h).2 1 0 (omega arith) (omega arith) (λ e. omega (arith, e)))
    second_outweighs

pub taken_halves : TakenHalves
taken_halves = (
  (
    first_takes_half,
    λ h.
        (let same = same_most both_agree halves halves_in_core 0 1 (pos 0) (pos 1) h first_takes_half in
        omega (arith, ints, same)),
  ),
  middle,
  (all_first_in_core, not_in_middle),
)
