-- Constant-sum games: what a coalition and the others get adds to what they are worth; and the nucleolus of a vote, at
-- which no excess reaches one half, since none does if shares go by votes (Peleg 1968).
use Rattle.std.proofs.Common.{◌≡◌, ◌≢◌, ◌↔◌, ◌⊎◌, ℕ, ◌+◌, ◌-◌, ◌^◌, ◌<◌, Bool, true, false, not, cond, List, [], ◌∷◌}
use Rattle.std.proofs.Common.{length, get_or, map, int_eq, int_le, ℤ, pos, ◌+ℤ◌, ◌-ℤ◌, ◌*ℤ◌, ◌<ℤ◌, ◌≤ℤ◌, refl, sym, ap}
use Rattle.std.proofs.Common.{◌∙◌, inl, inr, arith}
use Rattle.std.proofs.lemmas.Bool.{false≢true}
use Rattle.std.proofs.lemmas.Int.{ints, by_lt_z}
use Rattle.std.proofs.lemmas.List.{get_or-map, length-map}
use Rattle.definitions.proofs.Cases.{true_or_false, same_or_other}
use Rattle.definitions.proofs.Families.{allocation_of, efficient_of}
use Rattle.definitions.proofs.Masks.{grand_coalition-within, singleton-within}
use Rattle.definitions.proofs.Members.{sum_over-complement, sum_over-grand_coalition, sum_over-nonnegative}
use Rattle.definitions.proofs.Members.{sum_over-singleton, has_player-complement, has_player-singleton}
use Rattle.definitions.proofs.Members.{has_player-singleton_other}
use Rattle.definitions.proofs.Members.{sum_below-same, sum_below-times, has_player-empty}
use Rattle.definitions.proofs.Parts.{part, sum_below-le, sum_over-more, more-lt, has_player-more_other}
use Rattle.definitions.proofs.Ring.{linear, mul-leℤ, mul-ltℤ}
use Rattle.definitions.proofs.Splits.{passes_below-at, some_below-true, some_below-false}
use Rattle.definitions.proofs.SumsOver.{amount-at, sum_over-same}
use Rattle.definitions.specs.Coalitions.{has_player, singleton, grand_coalition, proper_coalitions, sum_over}
use Rattle.definitions.specs.Coalitions.{some_below}
use Rattle.definitions.specs.Games.{Game, Allocation, share, amount, excess, IsAllocation, IsEfficient, InFamily}
use Rattle.definitions.specs.Games.{IsIndividuallyRational, IsSame, IsNucleolus, Beats}
use Rattle.definitions.specs.Players.{IsDummy}
use Rattle.definitions.specs.Sums.{sum_below}
use Rattle.definitions.specs.declared.Family.{Family}
use Rattle.definitions.specs.declared.Family.TheVariants.{Imputations, Preimputations}
use Rattle.definitions.specs.declared.Measure.TheVariants.{Plain}
use Rattle.theorems.proofs.Examples.{from_int_eq}
use Rattle.theorems.proofs.OneWay.{beats_one_way}
use Rattle.theorems.proofs.Products.{products, sorted_products}
use Rattle.theorems.proofs.SortedLemmas.{ComesBefore-sorted}
use Rattle.theorems.proofs.Soundness.{SameOrLow-range, SomeAbove-range}
use Rattle.law_answers.proofs.Complements.{complement-within, both_get}
use Rattle.law_answers.proofs.DummiesGetTheirWorth.{dummies_get_worth}
use Rattle.law_answers.proofs.NucleolusIsInCore.{core_low, same_excess}
use Rattle.law_classes.proofs.VetoCores.{votes_are_simple}
use Rattle.law_answers.specs.ClassGames.{voting_game}
use Rattle.law_classes.specs.ConstantSums.{IsConstantSum, ConstantSumCores, NucleolusRepresents, MajorityIsConstantSum}
use Rattle.law_classes.specs.ConstantSums.{EssentialSumsHaveNoCore}

pub constant_sum_cores : ConstantSumCores
constant_sum_cores g x s sums h lt =
    let n = g.players in
    omega (
      products,
      core_low g x h s lt,
      core_low g x h (grand_coalition n - s) (complement-within n s),
      both_get g x s h.0 h.1 lt,
      ap (◌*ℤ◌ x.den) (sums s lt),
    )

-- at a core point each alone would get exactly its worth, and all together less than theirs
pub essential_sums_have_no_core : EssentialSumsHaveNoCore
essential_sums_have_no_core g x sums less h =
    let n = g.players in
    let alone = λ (i : ℕ). g.worth (singleton i) in
    let each : (i : ℕ) → i < n → share x i ≡ x.den *ℤ alone i =
    λ i lt. sym (sum_over-singleton n i (share x) lt) ∙ sym (amount-at g x (singleton i) h.0)
    ∙ constant_sum_cores g x (singleton i) sums h (singleton-within n i lt) in
    let all = sum_below-same n (share x) (λ i. x.den *ℤ alone i) each ∙ sum_below-times n alone x.den in
    let one = h.0.1 in
    let more = mul-ltℤ x.den (sum_below n alone) (g.worth (grand_coalition n)) (omega (arith, linear, one)) less in
    omega (
      arith,
      linear,
      all,
      more,
      sum_over-grand_coalition n (share x),
      amount-at g x (grand_coalition n) h.0,
      h.1,
    )

-- ---- votes

module _ (quota : ℕ) (weights : List ℕ) (sums : IsConstantSum (voting_game quota weights))
    (wins : (voting_game quota weights).worth (grand_coalition (length weights)) ≡ pos 1) where
  abbrev n : ℕ
  n = length weights

  abbrev g : Game
  g = voting_game quota weights

  abbrev weight : ℕ → ℤ
  weight i = pos (get_or weights i 0)

  abbrev weigh : ℕ → ℤ
  weigh s = sum_over n weight s

  abbrev whole : ℤ
  whole = sum_below n weight

  -- who wins has the quota, and who loses hasn't
  reaches : (s : ℕ) → g.worth s ≡ pos 1 → pos quota ≤ℤ weigh s
  reaches s e = by_test (pos quota) (weigh s) e
    where
      by_test : (q a : ℤ) → cond (int_le q a) (pos 1) (pos 0) ≡ pos 1 → q ≤ℤ a
      by_test q a e = grind (arith, ints)

  misses : (s : ℕ) → g.worth s ≡ pos 0 → weigh s <ℤ pos quota
  misses s e = by_test (pos quota) (weigh s) e
    where
      by_test : (q a : ℤ) → cond (int_le q a) (pos 1) (pos 0) ≡ pos 0 → a <ℤ q
      by_test q a e = grind (arith, ints)

  other : ℕ → ℕ
  other s = grand_coalition n - s

  -- of a coalition and the others one wins
  loses_then : (s : ℕ) → s < 2 ^ n → g.worth s ≡ pos 1 → g.worth (grand_coalition n - s) ≡ pos 0
  loses_then s lt e = omega (arith, ints, sums s lt, e, wins)

  wins_then : (s : ℕ) → s < 2 ^ n → g.worth s ≡ pos 0 → g.worth (grand_coalition n - s) ≡ pos 1
  wins_then s lt e = omega (arith, ints, sums s lt, e, wins)

  vote : (s : ℕ) → s < 2 ^ n → (g.worth s ≡ pos 0) ⊎ (g.worth s ≡ pos 1)
  vote s lt = (votes_are_simple quota weights).votes s lt

  both_weigh : (s : ℕ) → s < 2 ^ n → weigh (grand_coalition n - s) +ℤ weigh s ≡ whole
  both_weigh s lt = sum_over-complement n s weight lt

  weigh_nonnegative : (s : ℕ) → pos 0 ≤ℤ weigh s
  weigh_nonnegative s = sum_over-nonnegative n s weight (λ i lt. omega (arith, linear))

  nobody_loses : g.worth 0 ≡ pos 0
  nobody_loses =
      let lt : 0 < 2 ^ n = (let within = grand_coalition-within n in omega (arith, within)) in
      let all : grand_coalition n - 0 ≡ grand_coalition n = omega arith in
      omega (arith, ints, sums 0 lt, ap g.worth all)

  some_votes : pos 1 ≤ℤ whole
  some_votes =
      let lt : 0 < 2 ^ n = (let within = grand_coalition-within n in omega (arith, within)) in
      let low = misses 0 nobody_loses in
      let high = reaches (grand_coalition n) wins in
      let none = weigh_nonnegative 0 in
      omega (arith, linear, low, high, none, sum_over-grand_coalition n weight)

  -- ---- shares by votes

  abbrev by_votes : Allocation
  by_votes = record { shares = map pos weights; den = whole }

  share-at : (i : ℕ) → i < n → share by_votes i ≡ weight i
  share-at i lt = get_or-map pos weights i 0 (pos 0) lt

  allocation : IsAllocation g by_votes
  allocation = (length-map weights pos, some_votes)

  amount-weigh : (s : ℕ) → amount by_votes s ≡ weigh s
  amount-weigh s = amount-at g by_votes s allocation ∙ sum_over-same n (share by_votes) weight s share-at

  efficient : IsEfficient g by_votes
  efficient = omega (
    products,
    amount-weigh (grand_coalition n),
    sum_over-grand_coalition n weight,
    ap (◌*ℤ◌ whole) wins,
  )

  -- by votes no excess reaches half
  low_excess : (t : ℕ) → t < 2 ^ n → (excess g by_votes t +ℤ excess g by_votes t) <ℤ whole
  low_excess t lt = elim (vote t lt) [
    | inl loses ↦
        let some = some_votes in
        let none = weigh_nonnegative t in
        omega (products, amount-weigh t, none, some, ap (◌*ℤ◌ whole) loses)
    | inr won ↦
        let reach = reaches t won in
        let miss = misses (grand_coalition n - t) (loses_then t lt won) in
        omega (products, amount-weigh t, reach, miss, both_weigh t lt, ap (◌*ℤ◌ whole) won)
  ]

  -- ---- the nucleolus

  module _ (x : Allocation) (hx : IsAllocation g x) (e : IsEfficient g x) where
    high_excess : (s : ℕ) → g.worth s ≡ pos 1 → (amount x s +ℤ amount x s) ≤ℤ x.den
        → x.den ≤ℤ (excess g x s +ℤ excess g x s)
    high_excess s won little = omega (products, little, ap (◌*ℤ◌ x.den) won)

    -- the shares by votes beat shares at which a coalition that wins gets no more than half
    beaten : (s : ℕ) → s < 2 ^ n → g.worth s ≡ pos 1 → (amount x s +ℤ amount x s) ≤ℤ x.den → Beats Plain g by_votes x
    beaten s lt won little =
        let one = hx.1 in
        let not_empty : s ≡ 0 → ⊥ =
        λ same. (let none = nobody_loses in omega (arith, ints, won, none, ap g.worth same)) in
        let not_all : s ≡ grand_coalition n → ⊥ =
        λ same. omega (products, little, one, e, ap (amount x) same, ap (◌*ℤ◌ x.den) wins) in
        ComesBefore-sorted bound (map first (proper_coalitions n)) (map second (proper_coalitions n))
        (SameOrLow-range bound first second 1 (2 ^ n - 2) (λ t lo hi. inr (low t (omega (arith, lo, hi)))))
        (SomeAbove-range bound first second 1 (2 ^ n - 2) s (omega (arith, not_empty)) (omega (arith, lt, not_all))
        (low s lt)
        (omega (arith, linear)))
      where
        first : ℕ → ℤ
        first t = x.den *ℤ excess g by_votes t

        second : ℕ → ℤ
        second t = whole *ℤ excess g x t

        bound : ℤ
        bound = whole *ℤ excess g x s -ℤ pos 1

        low : (t : ℕ) → t < 2 ^ n → first t ≤ℤ bound
        low t within =
            let one = hx.1 in
            let a = mul-ltℤ x.den (excess g by_votes t +ℤ excess g by_votes t) whole (omega (arith, linear, one))
            (low_excess t within) in
            let b = mul-leℤ whole x.den (excess g x s +ℤ excess g x s)
            (let some = some_votes in omega (arith, linear, some))
            (high_excess s won little) in
            halve (first t) (whole *ℤ excess g x s) (omega (sorted_products, a, b))
          where
            halve : (u v : ℤ) → (u +ℤ u) <ℤ (v +ℤ v) → u ≤ℤ (v -ℤ pos 1)
            halve u v h = omega (arith, linear, h)

    -- the same shares leave the same excess
    not_same : (s : ℕ) → s < 2 ^ n → g.worth s ≡ pos 1 → (amount x s +ℤ amount x s) ≤ℤ x.den → ¬ IsSame g x by_votes
    not_same s lt won little same =
        let one = hx.1 in
        let a = mul-ltℤ x.den (excess g by_votes s +ℤ excess g by_votes s) whole (omega (arith, linear, one))
        (low_excess s lt) in
        let b = mul-leℤ whole x.den (excess g x s +ℤ excess g x s)
        (let some = some_votes in omega (arith, linear, some))
        (high_excess s won little) in
        omega (sorted_products, a, b, same_excess g x by_votes s hx allocation same)

    -- who loses gets no more than half, where who wins gets more
    loses_half : ((s : ℕ) → s < 2 ^ n → g.worth s ≡ pos 1 → x.den <ℤ (amount x s +ℤ amount x s)) → (s : ℕ) → s < 2 ^ n
        → g.worth s ≡ pos 0 → (amount x s +ℤ amount x s) ≤ℤ x.den
    loses_half more s lt lost =
        let half = more (grand_coalition n - s) (complement-within n s) (wins_then s lt lost) in
        let both = both_get g x s hx e lt in
        omega (products, half, both, ap (◌*ℤ◌ x.den) wins)

    represented : ((s : ℕ) → s < 2 ^ n → g.worth s ≡ pos 1 → x.den <ℤ (amount x s +ℤ amount x s)) → (s : ℕ) → s < 2 ^ n
        → (g.worth s ≡ pos 1) ↔ (x.den <ℤ (amount x s +ℤ amount x s))
    represented more s lt = (
      more s lt,
      λ half. elim (vote s lt) [
        | inl lost ↦ absurd (let little = loses_half more s lt lost in omega (arith, linear, half, little))
        | inr won ↦ won
      ],
    )

  -- a member of the family that the shares by votes don't beat
  unbeaten : (family : Family) (x : Allocation) → IsNucleolus family Plain g x → InFamily family g by_votes → (s : ℕ)
      → s < 2 ^ n → g.worth s ≡ pos 1 → x.den <ℤ (amount x s +ℤ amount x s)
  unbeaten family x h votes s lt won =
      let hx = allocation_of family g x h.0 in
      let e = efficient_of family g x h.0 in
      by_lt_z x.den (amount x s +ℤ amount x s)
      (λ half. half)
      (λ little. absurd
      (beats_one_way Plain g x by_votes (h.1 by_votes votes (not_same x hx e s lt won little))
      (beaten x hx e s lt won little)))

  -- ---- where one alone wins, it gets all

  module _ (x : Allocation) (h : InFamily Imputations g x) (d : ℕ) (hd : d < n)
      (alone : g.worth (singleton d) ≡ pos 1) where
    nothing_less : (i : ℕ) → i < n → pos 0 ≤ℤ share x i
    nothing_less i hi =
        let one = h.0.1 in
        let reach = h.2 i hi in
        elim (vote (singleton i) (singleton-within n i hi)) [
          | inl lost ↦ omega (products, reach, ap (◌*ℤ◌ x.den) lost)
          | inr won ↦ omega (products, reach, one, ap (◌*ℤ◌ x.den) won)
        ]

    gets_all : (s : ℕ) → s < 2 ^ n → g.worth s ≡ pos 1 → x.den <ℤ (amount x s +ℤ amount x s)
    gets_all s lt won = elim (true_or_false (has_player s d)) [
      | inl has ↦ inside has
      | inr lacks ↦ absurd
          (let lost = loses_then s lt won in
          let more = (votes_are_simple quota weights).more (singleton d) (grand_coalition n - s)
          (singleton-within n d hd) (complement-within n s) (λ i hi is_d. joins i hi is_d lacks) in
          omega (arith, ints, alone, lost, more))
    ]
      where
        joins : (i : ℕ) → i < n → has_player (singleton d) i ≡ true → has_player s d ≡ false
            → has_player (grand_coalition n - s) i ≡ true
        joins i hi is_d lacks = elim (same_or_other i d) [
          | inl same ↦ has_player-complement n s i lt hi ∙ ap not (ap (has_player s) same ∙ lacks)
          | inr apart ↦ absurd (false≢true (sym (has_player-singleton_other d i apart) ∙ is_d))
        ]

        inside : has_player s d ≡ true → x.den <ℤ (amount x s +ℤ amount x s)
        inside has =
            let one = h.0.1 in
            let reach = h.2 d hd in
            let sums = sum_below-le n (part (share x) (singleton d)) (part (share x) s) (λ i hi. at_least i hi has) in
            let mine = sum_over-singleton n d (share x) hd in
            omega (products, one, reach, sums, mine, amount-at g x s h.0, ap (◌*ℤ◌ x.den) alone)
          where
            at_least : (i : ℕ) → i < n → has_player s d ≡ true → part (share x) (singleton d) i ≤ℤ part (share x) s i
            at_least i hi has = elim (same_or_other i d) [
              | inl same ↦ rw (same, has_player-singleton d, has) (omega (arith, linear))
              | inr apart ↦ rw (has_player-singleton_other d i apart)
                  (nothing_or (has_player s i) (share x i) (nothing_less i hi))
            ]
              where
                nothing_or : (b : Bool) (z : ℤ) → pos 0 ≤ℤ z → pos 0 ≤ℤ cond b z (pos 0)
                nothing_or true z low = low
                nothing_or false z low = omega (arith, linear)

  -- else the shares by votes are an imputation
  abbrev wins_alone : ℕ → Bool
  wins_alone d = int_le (pos 1) (g.worth (singleton d))

  individual : some_below n wins_alone ≡ false → IsIndividuallyRational g by_votes
  individual none i hi =
      let low = below_one (g.worth (singleton i)) (some_below-false n wins_alone none i hi) in
      elim (vote (singleton i) (singleton-within n i hi)) [
        | inl lost ↦ omega (products, share-at i hi, ap (◌*ℤ◌ whole) lost)
        | inr won ↦ absurd (omega (arith, ints, low, won))
      ]
    where
      below_one : (z : ℤ) → int_le (pos 1) z ≡ false → z <ℤ pos 1
      below_one z e = grind (arith, ints)

  more_than_half : (family : Family) (x : Allocation) → IsNucleolus family Plain g x → (s : ℕ) → s < 2 ^ n
      → g.worth s ≡ pos 1 → x.den <ℤ (amount x s +ℤ amount x s)
  more_than_half Preimputations x h s lt won = unbeaten Preimputations x h (allocation, efficient) s lt won
  more_than_half Imputations x h s lt won = elim (true_or_false (some_below n wins_alone)) [
    | inl some ↦
        let found = some_below-true n wins_alone some in
        gets_all x h.0 found.0 found.1 (just_one found.0 found.1 found.2) s lt won
    | inr none ↦ unbeaten Imputations x h (allocation, efficient, individual none) s lt won
  ]
    where
      just_one : (d : ℕ) → d < n → wins_alone d ≡ true → g.worth (singleton d) ≡ pos 1
      just_one d hd test = elim (vote (singleton d) (singleton-within n d hd)) [
        | inl lost ↦ absurd (omega (arith, ints, lost, at_least_one (g.worth (singleton d)) test))
        | inr won ↦ won
      ]
        where
          at_least_one : (z : ℤ) → int_le (pos 1) z ≡ true → pos 1 ≤ℤ z
          at_least_one z e = grind (arith, ints)

  -- who gets less than nothing decides nothing, and so gets nothing
  module _ (family : Family) (x : Allocation) (h : IsNucleolus family Plain g x) (i : ℕ) (hi : i < n) where
    hx : IsAllocation g x
    hx = allocation_of family g x h.0

    e : IsEfficient g x
    e = efficient_of family g x h.0

    grown : (s : ℕ) → has_player s i ≡ false → amount x (s + singleton i) ≡ amount x s +ℤ share x i
    grown s out =
        amount-at g x (s + singleton i) hx ∙ sum_over-more n s i (share x) hi out
        ∙ ap (λ (z : ℤ). z +ℤ share x i) (sym (amount-at g x s hx))

    still_loses : share x i <ℤ pos 0 → (s : ℕ) → s < 2 ^ n → has_player s i ≡ false → g.worth s ≡ pos 0
        → g.worth (s + singleton i) ≡ pos 0
    still_loses less s lt out lost = elim (vote (s + singleton i) (more-lt n s i lt hi out)) [
      | inl too ↦ too
      | inr won ↦
          let half = more_than_half family x h (s + singleton i) (more-lt n s i lt hi out) won in
          let little = loses_half x hx e (more_than_half family x h) s lt lost in
          absurd (omega (arith, linear, half, little, less, grown s out))
    ]

    still_wins : (s : ℕ) → s < 2 ^ n → has_player s i ≡ false → g.worth s ≡ pos 1 → g.worth (s + singleton i) ≡ pos 1
    still_wins s lt out won = elim (vote (s + singleton i) (more-lt n s i lt hi out)) [
      | inl lost ↦
          let more = (votes_are_simple quota weights).more s (s + singleton i) lt (more-lt n s i lt hi out)
          (λ k hk has. has_player-more_other s i k out (apart k has) ∙ has) in
          absurd (omega (arith, ints, won, lost, more))
      | inr too ↦ too
    ]
      where
        apart : (k : ℕ) → has_player s k ≡ true → k ≢ i
        apart k has same = false≢true (sym out ∙ ap (has_player s) (sym same) ∙ has)

    alone_loses : share x i <ℤ pos 0 → g.worth (singleton i) ≡ pos 0
    alone_loses less =
        let lt : 0 < 2 ^ n = (let within = grand_coalition-within n in omega (arith, within)) in
        let same : 0 + singleton i ≡ singleton i = omega arith in
        ap g.worth (sym same) ∙ still_loses less 0 lt (has_player-empty i) nobody_loses

    decides_nothing : share x i <ℤ pos 0 → IsDummy g i
    decides_nothing less s lt out = elim (vote s lt) [
      | inl lost ↦ omega (arith, ints, lost, still_loses less s lt out lost, alone_loses less)
      | inr won ↦ omega (arith, ints, won, still_wins s lt out won, alone_loses less)
    ]

    not_below : pos 0 ≤ℤ share x i
    not_below =
        by_lt_z (share x i) (pos 0)
        (λ less. absurd
        (let same = dummies_get_worth family Plain g x i (inl refl) (inr refl) h hi (decides_nothing less) in
        omega (products, less, same, ap (◌*ℤ◌ x.den) (alone_loses less)))) (λ le. le)

pub nucleolus_represents : NucleolusRepresents
nucleolus_represents family quota weights x sums wins h = (
  λ i lt. not_below quota weights sums wins family x h i lt,
  λ s lt. represented quota weights sums wins x (allocation_of family (voting_game quota weights) x h.0)
      (efficient_of family (voting_game quota weights) x h.0) (more_than_half quota weights sums wins family x h) s lt,
)

pub majority_is_constant_sum : MajorityIsConstantSum
majority_is_constant_sum = (
  λ s lt. from_int_eq _ _
      (passes_below-at 8
      (λ s. int_eq
      ((voting_game 2 (1 ∷ (1 ∷ (1 ∷ [])))).worth s +ℤ (voting_game 2 (1 ∷ (1 ∷ (1 ∷ [])))).worth (7 - s))
      (pos 1)) refl s lt),
  λ h. (let sum = h 1 (omega arith) in omega (arith, ints, sum)),
)
