-- Who got more than it ever adds would have a smaller excess in each coalition than that has without it. So the
-- coalition of the greatest excess lacks it and has a member, which outweighs it. Who got less than it ever adds would
-- outweigh somebody outside of that coalition, likewise (Milnor 1952; Peleg and Sudhölter).
use Rattle.std.proofs.Common.{◌≡◌, ◌≢◌, ℕ, ◌+◌, ◌^◌, ◌<◌, true, false, ◌||◌, not, ℤ, pos}
use Rattle.std.proofs.Common.{◌-ℤ◌, ◌+ℤ◌, ◌*ℤ◌, ◌<ℤ◌, int_le, refl, sym, ap, ◌∙◌, inl, inr, arith}
use Rattle.std.proofs.lemmas.Bool.{false≢true}
use Rattle.std.proofs.lemmas.Int.{by_lt_z, ints}
use Rattle.std.proofs.Math.Pow.{pow_pos}
use Rattle.definitions.proofs.Cases.{true_or_false, from_not}
use Rattle.definitions.proofs.Members.{has_player-empty, has_player-grand_coalition}
use Rattle.definitions.proofs.Parts.{more-lt, sum_over-more}
use Rattle.definitions.proofs.Ring.{linear, mul-leℤ}
use Rattle.definitions.proofs.SomeMembers.{some_member, some_outsider}
use Rattle.definitions.proofs.Splits.{passes_below-at}
use Rattle.definitions.proofs.SumsOver.{amount-at}
use Rattle.definitions.specs.Sums.{IsGreatest}
use Rattle.definitions.specs.Coalitions.{has_player, singleton, grand_coalition}
use Rattle.definitions.specs.Games.{Game, Allocation, share, excess, IsAllocation, IsEfficient}
use Rattle.definitions.specs.Prekernel.{InPrekernel}
use Rattle.definitions.specs.declared.Family.TheVariants.{Imputations, Preimputations}
use Rattle.definitions.specs.declared.Measure.TheVariants.{Plain}
use Rattle.law_answers.proofs.SmallNucleoli.{majority_gets_thirds}
use Rattle.law_answers.proofs.Withouts.{without}
use Rattle.law_answers.specs.Reasonable.{AddsAtMost, AddsAtLeast, IsReasonable}
use Rattle.law_answers.specs.SmallNucleoli.{thirds}
use Rattle.law_stability.specs.Kernel.{Outweighs, InKernel}
use Rattle.law_stability.specs.Majority.{majority}
use Rattle.law_stability.specs.Reasonable.{BalancedIsReasonable, NucleolusIsReasonable, ReasonableShares}
use Rattle.law_stability.proofs.GreatestGain.{empty_nothing}
use Rattle.law_stability.proofs.Kernel.{none_outweighs, nucleolus_in_kernel}
use Rattle.theorems.proofs.Examples.{from_either}
use Rattle.theorems.proofs.Moves.{parted, joined}
use Rattle.theorems.proofs.Products.{products}
use Rattle.theorems.proofs.Transfers.{some_greatest, surplus_of, prenucleolus_in_prekernel}

module _ (g : Game) (x : Allocation) (nobody : g.worth 0 ≡ pos 0) (hx : IsAllocation g x) (e : IsEfficient g x)
    (i : ℕ) (hi : i < g.players) where
  abbrev n : ℕ
  n = g.players

  -- what the excess rises by when player i joins
  joins : (s : ℕ) → has_player s i ≡ false
      → excess g x (s + 2 ^ i)
      ≡ excess g x s +ℤ (x.den *ℤ (g.worth (s + 2 ^ i) -ℤ g.worth s) -ℤ share x i)
  joins s out =
      omega (
        products,
        amount-at g x s hx,
        amount-at g x (s + 2 ^ i) hx,
        sum_over-more n s i (share x) hi out,
      )

  -- the greatest excess
  top : (m : ℤ) × IsGreatest (λ s. (s < 2 ^ n) × (true ≡ true)) (excess g x) m
  top = elim (some_greatest (λ s. true) (excess g x) (2 ^ n)) [
    | inl none ↦ absurd (false≢true (sym (none 0 (pow_pos n))))
    | inr found ↦ found
  ]

  all_nothing : excess g x (grand_coalition n) ≡ pos 0
  all_nothing = omega (arith, linear, e)

  empty_zero : excess g x 0 ≡ pos 0
  empty_zero = empty_nothing g x nobody

  -- ---- who would get more than it ever adds

  module _ (m : ℤ) (adds : AddsAtMost g i m) (more : (x.den *ℤ m) <ℤ share x i) where
    falls : (s : ℕ) → s < 2 ^ n → has_player s i ≡ false → excess g x (s + 2 ^ i) <ℤ excess g x s
    falls s within out =
        let le = mul-leℤ x.den (g.worth (s + 2 ^ i) -ℤ g.worth s) m (omega (arith, linear, hx.1)) (adds s within out) in
        omega (arith, linear, le, more, joins s out)

    -- so each coalition with it has less than another
    below_top : (s : ℕ) → s < 2 ^ n → has_player s i ≡ true → excess g x s <ℤ top.0
    below_top s within has =
        let r = without n s i within hi has in
        let fall = falls r.0 r.1 r.2 in
        let low = top.1.1 r.0 (r.1, refl) in
        let same = ap (excess g x) r.3 in
        omega (arith, linear, fall, low, same)

    somebody_outweighs : (j : ℕ) × (j < n) × (j ≢ i) × Outweighs g x j i
    somebody_outweighs =
        let t = top.1.0.0 in
        let t_within : t < 2 ^ n = top.1.0.1.0 in
        let t_top = top.1.0.2 in
        let lacks : has_player t i ≡ false = elim (true_or_false (has_player t i)) [
          | inl has ↦ absurd (let less = below_top t t_within has in omega (arith, linear, less, t_top))
          | inr out ↦ out
        ] in
        let all_less = below_top (grand_coalition n) (let lt = pow_pos n in omega (arith, lt))
        (has_player-grand_coalition n i hi) in
        let some : t ≢ 0 = λ none.
        (let same = ap (excess g x) none in
        omega (arith, linear, same, t_top, all_less, all_nothing, empty_zero)) in
        let found = some_member n t (omega (arith, some)) t_within in
        let j = found.0 in
        let ne : j ≢ i = λ same. false≢true (sym lacks ∙ sym (ap (has_player t) same) ∙ found.2) in
        let first = surplus_of g x j i found.1 ne in
        let second = surplus_of g x i j hi (λ same. ne (sym same)) in
        let high = first.1.1 t (t_within, joined (has_player t j) (has_player t i) found.2 (ap not lacks)) in
        let both = parted (has_player second.1.0.0 i) (has_player second.1.0.0 j) second.1.0.1.1 in
        let low = below_top second.1.0.0 second.1.0.1.0 both.0 in
        let less : second.0 <ℤ first.0 = omega (arith, linear, high, low, t_top, second.1.0.2) in
        (j, found.1, ne, (first.0, second.0, first.1, second.1, less))

  -- ---- who would get less than it ever adds

  module _ (m : ℤ) (adds : AddsAtLeast g i m) (less : share x i <ℤ (x.den *ℤ m)) where
    rises : (s : ℕ) → s < 2 ^ n → has_player s i ≡ false → excess g x s <ℤ excess g x (s + 2 ^ i)
    rises s within out =
        let le = mul-leℤ x.den m (g.worth (s + 2 ^ i) -ℤ g.worth s) (omega (arith, linear, hx.1)) (adds s within out) in
        omega (arith, linear, le, less, joins s out)

    under_top : (s : ℕ) → s < 2 ^ n → has_player s i ≡ false → excess g x s <ℤ top.0
    under_top s within out =
        let rise = rises s within out in
        let low = top.1.1 (s + 2 ^ i) (more-lt n s i within hi out, refl) in
        omega (arith, linear, rise, low)

    it_outweighs : (j : ℕ) × (j < n) × (i ≢ j) × Outweighs g x i j
    it_outweighs =
        let t = top.1.0.0 in
        let t_within : t < 2 ^ n = top.1.0.1.0 in
        let t_top = top.1.0.2 in
        let has : has_player t i ≡ true = elim (true_or_false (has_player t i)) [
          | inl has ↦ has
          | inr out ↦ absurd (let under = under_top t t_within out in omega (arith, linear, under, t_top))
        ] in
        let none_less = under_top 0 (pow_pos n) (has_player-empty i) in
        let some : t ≢ grand_coalition n = λ all.
        (let same = ap (excess g x) all in
        omega (arith, linear, same, t_top, none_less, all_nothing, empty_zero)) in
        let found = some_outsider n t t_within some in
        let j = found.0 in
        let ne : i ≢ j = λ same. false≢true (sym found.2 ∙ ap (has_player t) (sym same) ∙ has) in
        let first = surplus_of g x i j hi ne in
        let second = surplus_of g x j i found.1 (λ same. ne (sym same)) in
        let high = first.1.1 t (t_within, joined (has_player t i) (has_player t j) has (ap not found.2)) in
        let both = parted (has_player second.1.0.0 j) (has_player second.1.0.0 i) second.1.0.1.1 in
        let low = under_top second.1.0.0 second.1.0.1.0 (from_not (has_player second.1.0.0 i) both.1) in
        let lower : second.0 <ℤ first.0 = omega (arith, linear, high, low, t_top, second.1.0.2) in
        (j, found.1, ne, (first.0, second.0, first.1, second.1, lower))

-- ---- the prekernel

in_prekernel : (g : Game) (x : Allocation) → g.worth 0 ≡ pos 0 → InPrekernel g x → IsReasonable g x
in_prekernel g x nobody h = record {
  at_most = λ i m hi adds. by_lt_z (x.den *ℤ m) (share x i)
      (λ more. absurd
      (let (j, hj, ne, outweighs) = somebody_outweighs g x nobody h.0 h.1 i hi m adds more in
      none_outweighs g x j i (h.2 j i hj hi ne) outweighs))
      (λ le. le);
  at_least = λ i m hi adds. by_lt_z (share x i) (x.den *ℤ m)
      (λ less. absurd
      (let (j, hj, ne, outweighs) = it_outweighs g x nobody h.0 h.1 i hi m adds less in
      none_outweighs g x i j (h.2 i j hi hj ne) outweighs))
      (λ le. le);
}

-- ---- the kernel

-- what a player adds to nobody
alone_adds : (g : Game) (i : ℕ) → g.worth 0 ≡ pos 0 → g.worth (0 + 2 ^ i) -ℤ g.worth 0 ≡ g.worth (singleton i)
alone_adds g i nobody =
    let same : 0 + 2 ^ i ≡ 2 ^ i = omega arith in
    omega (arith, linear, nobody, ap g.worth same)

-- who is outweighed gets just its worth alone, which is what it adds to nobody, and nobody gets less than that
in_kernel : (g : Game) (x : Allocation) → g.worth 0 ≡ pos 0 → InKernel g x → IsReasonable g x
in_kernel g x nobody h = record {
  at_most = λ i m hi adds. by_lt_z (x.den *ℤ m) (share x i)
      (λ more. absurd
      (let (j, hj, ne, outweighs) = somebody_outweighs g x nobody h.0.0 h.0.1 i hi m adds more in
      let alone = h.1 j i hj hi ne outweighs in
      let le = mul-leℤ x.den (g.worth (singleton i)) m (let den = h.0.0.1 in omega (arith, linear, den))
      (let first = adds 0 (pow_pos g.players) (has_player-empty i) in
      omega (arith, linear, first, alone_adds g i nobody)) in
      omega (arith, linear, alone, le, more)))
      (λ le. le);
  at_least = λ i m hi adds.
      let le = mul-leℤ x.den m (g.worth (singleton i)) (let den = h.0.0.1 in omega (arith, linear, den))
      (let first = adds 0 (pow_pos g.players) (has_player-empty i) in
      omega (arith, linear, first, alone_adds g i nobody)) in
      let low = h.0.2 i hi in
      omega (arith, linear, le, low);
}

pub balanced_is_reasonable : BalancedIsReasonable
balanced_is_reasonable g x nobody (inl pre) = in_prekernel g x nobody pre
balanced_is_reasonable g x nobody (inr kernel) = in_kernel g x nobody kernel

pub nucleolus_is_reasonable : NucleolusIsReasonable
nucleolus_is_reasonable Imputations g x nobody h = in_kernel g x nobody (nucleolus_in_kernel g x h)
nucleolus_is_reasonable Preimputations g x nobody h = in_prekernel g x nobody (prenucleolus_in_prekernel g x h)

-- ---- by majority

adds_at_most_one : AddsAtMost majority 0 (pos 1)
adds_at_most_one s lt out =
    from_either _ _ _
    (passes_below-at 8
    (λ s. not (not (has_player s 0)) || int_le (majority.worth (s + 1) -ℤ majority.worth s) (pos 1)) refl s lt)
    (ap not out)

adds_at_least_nothing : AddsAtLeast majority 0 (pos 0)
adds_at_least_nothing s lt out =
    from_either _ _ _
    (passes_below-at 8
    (λ s. not (not (has_player s 0)) || int_le (pos 0) (majority.worth (s + 1) -ℤ majority.worth s)) refl s lt)
    (ap not out)

pub reasonable_shares : ReasonableShares
reasonable_shares = (
  (adds_at_most_one, λ h. (let le = h 2 (omega arith) refl in omega (arith, ints, le))),
  (adds_at_least_nothing, λ h. (let le = h 0 (omega arith) refl in omega (arith, ints, le))),
  (
    nucleolus_is_reasonable Preimputations majority thirds refl (majority_gets_thirds Preimputations Plain),
    λ h. (let le = h.at_most 0 (pos 1) (omega arith) adds_at_most_one in omega (arith, ints, le)),
  ),
)
