-- The core of a simple game: who gets something is in each winning coalition, since otherwise a coalition without it
-- that wins would block.
use Rattle.std.proofs.Common.{◌≡◌, ◌≢◌, ◌⊎◌, ℕ, zero, suc, ◌+◌, ◌-◌, ◌^◌, ◌<◌, Bool, true, false, ◌||◌, cond, length}
use Rattle.std.proofs.Common.{get_or, map, int_eq, int_le, ℤ, pos, ◌*ℤ◌, ◌<ℤ◌, ◌≤ℤ◌, refl, sym, ap, subst, ◌∙◌}
use Rattle.std.proofs.Common.{inl, inr, arith, rules}
use Rattle.std.specs.List.{range_with_len}
use Rattle.std.proofs.lemmas.Int.{ints, by_lt_z}
use Rattle.std.proofs.lemmas.List.FromFn.{get_or-map-range_with_len, length-map-range_with_len}
use Rattle.definitions.proofs.Cases.{true_or_false, same_or_other, or_other}
use Rattle.definitions.proofs.Masks.{grand_coalition-within, singleton-within}
use Rattle.definitions.proofs.Members.{sum_below-same, sum_below-zero, sum_over-complement, sum_over-grand_coalition}
use Rattle.definitions.proofs.Members.{sum_over-nonnegative, sum_over-singleton, has_player-grand_coalition}
use Rattle.definitions.proofs.Members.{has_player-complement, has_player-singleton_other, zero_either}
use Rattle.definitions.proofs.Parts.{has_player-more_other, more-lt, part, sum_below-le, sum_over-more}
use Rattle.definitions.proofs.Ring.{linear, mul-leℤ}
use Rattle.definitions.proofs.Splits.{passes_below, passes_below-at}
use Rattle.definitions.proofs.SumsOver.{amount-at}
use Rattle.definitions.specs.Coalitions.{has_player, singleton, grand_coalition, sum_over}
use Rattle.definitions.specs.Games.{Game, Allocation, share, amount, IsAllocation, InCore}
use Rattle.definitions.specs.Players.{AddsNoLess}
use Rattle.definitions.specs.declared.Family.TheVariants.{Imputations}
use Rattle.theorems.proofs.Examples.{from_int_eq}
use Rattle.theorems.proofs.Products.{products}
use Rattle.law_answers.proofs.NucleolusIsInCore.{core_low, core_family}
use Rattle.law_answers.proofs.SomeGreater.{some_greater}
use Rattle.law_answers.proofs.WhoAddsNoLessGetsNoLess.{adds_gets_no_less}
use Rattle.law_classes.specs.Vetoes.{IsSimple, HasVeto, IsAmongVetoes, VotesAreSimple, CoreIsAmongVetoes}
use Rattle.law_classes.specs.Vetoes.{WhoHasAVetoGetsNoLess}
use Rattle.law_classes.specs.Vetoes.{ACoreNeedsAVeto, three_voters, halves, TwoOfThreeVetoes}

-- ---- the core

module _ (g : Game) (simple : IsSimple g) (x : Allocation) where
  -- a coalition and who gets nothing less make no more than all
  within_all : IsAllocation g x → ((i : ℕ) → i < g.players → pos 0 ≤ℤ share x i) → (s : ℕ) → s < 2 ^ g.players
      → amount x s ≤ℤ amount x (grand_coalition g.players)
  within_all hx low s lt = omega (
    arith,
    linear,
    amount-at g x s hx,
    amount-at g x (grand_coalition g.players) hx,
    sum_over-grand_coalition g.players (share x),
    sum_over-complement g.players s (share x) lt,
    sum_over-nonnegative g.players (grand_coalition g.players - s) (share x) low,
  )

  nothing_less : InCore g x → (i : ℕ) → i < g.players → pos 0 ≤ℤ share x i
  nothing_less h i lt =
      let alone = (core_family Imputations g x h).2 i lt in
      elim (simple.votes (singleton i) (singleton-within g.players i lt)) [
        | inl loses ↦ omega (products, alone, ap (◌*ℤ◌ x.den) loses)
        | inr wins ↦ (let one = h.0.1 in omega (products, alone, one, ap (◌*ℤ◌ x.den) wins))
      ]

  veto : InCore g x → (i : ℕ) → i < g.players → pos 0 <ℤ share x i → HasVeto g i
  veto h i hi some s lt lacks = elim (simple.votes s lt) [
    | inl loses ↦ loses
    | inr wins ↦ absurd
        (let with_i = within_all h.0 (nothing_less h) (s + 2 ^ i) (more-lt g.players s i lt hi lacks) in
        let more = sum_over-more g.players s i (share x) hi lacks in
        let reach = core_low g x h s lt in
        let whole : (x.den *ℤ g.worth (grand_coalition g.players)) ≤ℤ (x.den *ℤ pos 1) =
        mul-leℤ x.den (g.worth (grand_coalition g.players)) (pos 1) (let one = h.0.1 in omega (arith, linear, one))
        (at_most (simple.votes (grand_coalition g.players) (grand_coalition-within g.players))) in
        omega (
          products,
          with_i,
          more,
          reach,
          whole,
          some,
          h.1,
          amount-at g x s h.0,
          amount-at g x (s + 2 ^ i) h.0,
          ap (◌*ℤ◌ x.den) wins,
        ))
  ]
    where
      at_most : {z : ℤ} → (z ≡ pos 0) ⊎ (z ≡ pos 1) → z ≤ℤ pos 1
      at_most (inl e) = omega (arith, ints, e)
      at_most (inr e) = omega (arith, ints, e)

  unblocked : IsAmongVetoes g x → (s : ℕ) → s < 2 ^ g.players → (x.den *ℤ g.worth s) ≤ℤ amount x s
  unblocked d s lt = elim (simple.votes s lt) [
    | inl loses ↦ omega (
      products,
      ap (◌*ℤ◌ x.den) loses,
      amount-at g x s d.shares,
      sum_over-nonnegative g.players s (share x) d.no_less,
    )
    | inr wins ↦
        let n = g.players in
        let more = simple.more s (grand_coalition n) lt (grand_coalition-within n)
        (λ i h has. has_player-grand_coalition n i h) in
        let whole = mul-leℤ x.den (g.worth s) (g.worth (grand_coalition n))
        (let one = d.shares.1 in omega (arith, linear, one)) more in
        let none = sum_below-zero n (part (share x) (grand_coalition n - s)) (nothing_outside wins) in
        omega (
          products,
          whole,
          none,
          d.all,
          amount-at g x s d.shares,
          amount-at g x (grand_coalition n) d.shares,
          sum_over-grand_coalition n (share x),
          sum_over-complement n s (share x) lt,
        )
  ]
    where
      nothing_outside : g.worth s ≡ pos 1 → (i : ℕ) → i < g.players
          → part (share x) (grand_coalition g.players - s) i ≡ pos 0
      nothing_outside wins i h = elim (true_or_false (has_player s i)) [
        | inl has ↦ rw (has_player-complement g.players s i lt h, has) refl
        | inr lacks ↦
            by_lt_z (pos 0) (share x i)
            (λ some. absurd
            (let loses = d.vetoes i h some s lt lacks in omega (arith, ints, wins, loses)))
            (λ le. zero_either (has_player (grand_coalition g.players - s) i) (share x i)
            (let low = d.no_less i h in omega (arith, linear, le, low)))
      ]

pub core_is_among_vetoes : CoreIsAmongVetoes
core_is_among_vetoes g x simple = (
  λ h. record { shares = h.0; all = h.1; no_less = nothing_less g simple x h; vetoes = veto g simple x h },
  λ d. (
    d.shares,
    d.all,
    λ s lt blocks. (let reach = unblocked g simple x d s lt in omega (arith, linear, reach, blocks)),
  ),
)

-- ---- where there is one

module _ (g : Game) (simple : IsSimple g) (wins : g.worth (grand_coalition g.players) ≡ pos 1) where
  somebody : (x : Allocation) → InCore g x → (i : ℕ) × (i < g.players) × HasVeto g i
  somebody x h = elim (some_greater g.players (share x) (λ k. pos 0)) [
    | inl found ↦ (found.0, found.1, veto g simple x h found.0 found.1 found.2)
    | inr none ↦ absurd
        (let low = sum_below-le g.players (share x) (λ k. pos 0) none in
        let zero = sum_below-zero g.players (λ k. pos 0) (λ i lt. refl) in
        let one = h.0.1 in
        omega (
          products,
          low,
          zero,
          one,
          h.1,
          amount-at g x (grand_coalition g.players) h.0,
          sum_over-grand_coalition g.players (share x),
          ap (◌*ℤ◌ x.den) wins,
        ))
  ]

  module _ (i : ℕ) (hi : i < g.players) (has : HasVeto g i) where
    abbrev gets : ℕ → ℤ
    gets k = cond (has_player (singleton i) k) (pos 1) (pos 0)

    abbrev takes_all : Allocation
    takes_all = record { shares = map gets (range_with_len 0 g.players); den = pos 1 }

    players : length takes_all.shares ≡ g.players
    players = length-map-range_with_len gets 0 g.players

    share-at : (k : ℕ) → k < g.players → share takes_all k ≡ gets k
    share-at k lt = get_or-map-range_with_len gets 0 g.players k k (pos 0) lt (omega arith)

    allocation : IsAllocation g takes_all
    allocation = (players, omega (arith, linear))

    only_i : (b : Bool) → (pos 0 ≤ℤ cond b (pos 1) (pos 0))
    only_i true = omega (arith, linear)
    only_i false = omega (arith, linear)

    all_to_one : IsAmongVetoes g takes_all
    all_to_one = record {
      shares = allocation;
      all = omega (
        products,
        amount-at g takes_all (grand_coalition g.players) allocation,
        sum_over-grand_coalition g.players (share takes_all),
        sum_below-same g.players (share takes_all) gets share-at,
        sum_over-singleton g.players i (λ k. pos 1) hi,
        wins,
      );
      no_less = λ k lt. subst (λ (z : ℤ). pos 0 ≤ℤ z) (sym (share-at k lt)) (only_i (has_player (singleton i) k));
      vetoes = λ k lt some. elim (same_or_other k i) [
        | inl same ↦ subst (HasVeto g) (sym same) has
        | inr other ↦ absurd
            (let none = share-at k lt
            ∙ ap (λ (b : Bool). cond b (pos 1) (pos 0)) (has_player-singleton_other i k other) in
            omega (arith, ints, some, none))
      ];
    }

    core_point : (x : Allocation) × InCore g x
    core_point = (takes_all, (core_is_among_vetoes g takes_all simple).1 all_to_one)

pub a_core_needs_a_veto : ACoreNeedsAVeto
a_core_needs_a_veto g simple wins = (
  λ h. somebody g simple wins h.0 h.1,
  λ v. core_point g simple wins v.0 v.1 v.2,
)

-- ---- votes

pub votes_are_simple : VotesAreSimple
votes_are_simple quota weights = record {
  votes = λ s lt. zero_or_one (int_le (pos quota) (sum_over n weight s));
  more = λ s t ls lt part_of. wins_too (pos quota) _ _
      (sum_below-le n (part weight s) (part weight t) (here s t part_of));
}
  where
    n : ℕ
    n = length weights

    weight : ℕ → ℤ
    weight i = pos (get_or weights i 0)

    zero_or_one : (b : Bool) → (cond b (pos 1) (pos 0) ≡ pos 0) ⊎ (cond b (pos 1) (pos 0) ≡ pos 1)
    zero_or_one true = inr refl
    zero_or_one false = inl refl

    wins_too : (q a b : ℤ) → a ≤ℤ b → cond (int_le q a) (pos 1) (pos 0) ≤ℤ cond (int_le q b) (pos 1) (pos 0)
    wins_too q a b le = grind (arith, linear)

    here : (s t : ℕ) → ((i : ℕ) → i < n → has_player s i ≡ true → has_player t i ≡ true) → (i : ℕ) → i < n
        → part weight s i ≤ℤ part weight t i
    here s t part_of i lt = by_tests (has_player s i) (has_player t i) (part_of i lt)
      where
        by_tests : (b c : Bool) → (b ≡ true → c ≡ true) → cond b (weight i) (pos 0) ≤ℤ cond c (weight i) (pos 0)
        by_tests true c h = rw (h refl) (omega (arith, linear))
        by_tests false true h = omega (arith, linear)
        by_tests false false h = omega (arith, linear)

pub veto_adds_no_less : (g : Game) (i j : ℕ) → IsSimple g → HasVeto g i → i < g.players → j < g.players → i ≢ j
    → AddsNoLess g i j
veto_adds_no_less g i j simple veto hi hj ne s lt out other =
    let loses = veto (s + 2 ^ j) (more-lt g.players s j lt hj other)
    (has_player-more_other s j i other ne ∙ out) in
    elim (simple.votes (s + 2 ^ i) (more-lt g.players s i lt hi out)) [
      | inl none ↦ omega (arith, linear, loses, none)
      | inr one ↦ omega (arith, linear, loses, one)
    ]

pub who_has_a_veto_gets_no_less : WhoHasAVetoGetsNoLess
who_has_a_veto_gets_no_less family measure g x i j can simple h hi hj veto = elim (same_or_other i j) [
  | inl same ↦ omega (arith, linear, ap (share x) same)
  | inr ne ↦ adds_gets_no_less family measure g x i j can h hi hj (veto_adds_no_less g i j simple veto hi hj ne)
]

-- ---- three voters: by computation

has_veto : (i : ℕ) → passes_below 8 (λ s. has_player s i || int_eq (three_voters.worth s) (pos 0)) ≡ true
    → HasVeto three_voters i
has_veto i all s lt lacks =
    from_int_eq _ _
    (or_other _ _ lacks
    (passes_below-at 8 (λ s. has_player s i || int_eq (three_voters.worth s) (pos 0)) all s lt))

no_veto : ¬ HasVeto three_voters 2
no_veto h = (let loses = h 3 (omega arith) refl in omega (arith, ints, loses))

by_halves : IsAmongVetoes three_voters halves
by_halves = record {
  shares = (refl, omega (arith, linear));
  all = refl;
  no_less = λ i lt. nothing_less i lt;
  vetoes = λ i lt some. holders i lt some;
}
  where
    nothing_less : (i : ℕ) → i < 3 → pos 0 ≤ℤ share halves i
    nothing_less i lt = grind (arith, linear)

    holders : (i : ℕ) → i < 3 → pos 0 <ℤ share halves i → HasVeto three_voters i
    holders zero lt some = has_veto 0 refl
    holders (suc zero) lt some = has_veto 1 refl
    holders (suc (suc zero)) lt some = absurd (omega (arith, ints, some))
    holders (suc (suc (suc i))) lt some = absurd (omega (arith, lt))

pub two_of_three_vetoes : TwoOfThreeVetoes
two_of_three_vetoes = (
  has_veto 0 refl,
  has_veto 1 refl,
  no_veto,
  by_halves,
  λ d. no_veto (d.vetoes 2 (omega arith) (search rules)),
  λ h. elim (h.votes 3 (omega arith)) [ inl e ↦ omega (arith, ints, e) | inr e ↦ omega (arith, ints, e) ],
)
