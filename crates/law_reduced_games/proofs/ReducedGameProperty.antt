-- The reduced game property of the prenucleolus (Sobolev 1975). Beside other shares of the reduced game, let M be the
-- greatest excess among the coalitions whose members get other amounts together. If one of them that has it gets less
-- by the other shares, its excess is above M there, so they come behind. If not, what those who stay gain is a transfer
-- in the whole game that raises coalitions of excess M, and takes only from coalitions of less; and at a prenucleolus
-- there is none.
use Rattle.std.proofs.Common.{◌≡◌, ◌⊎◌, ℕ, zero, suc, ◌+◌, ◌-◌, ◌^◌, ◌<◌, ◌≤◌, Bool, true, false, map, ℤ, pos, ◌-ℤ◌}
use Rattle.std.proofs.Common.{◌*ℤ◌, ◌<ℤ◌, ◌≤ℤ◌, int_lt, refl, sym, ap, subst, ◌∙◌, inl, inr, arith}
use Rattle.std.proofs.lemmas.Bool.{false≢true}
use Rattle.std.proofs.lemmas.Int.{by_lt_z}
use Rattle.std.proofs.Math.Pow.{pow_pos}
use Rattle.definitions.proofs.Ring.{linear, one-mulℤ, mul-subℤ, mul-leℤ}
use Rattle.definitions.proofs.Cases.{same_or_other, true_or_false}
use Rattle.definitions.proofs.Masks.{proper_or_all, singleton-within}
use Rattle.definitions.proofs.Members.{sum_over-combined, sum_over-singleton, sum_over-grand_coalition}
use Rattle.definitions.proofs.SumsOver.{sum_over-empty}
use Rattle.definitions.specs.Sums.{sum_below}
use Rattle.definitions.specs.Coalitions.{singleton, grand_coalition, proper_coalitions, sum_over}
use Rattle.definitions.specs.Games.{Game, Allocation, share, amount, excess, Beats, IsSame, InFamily, IsNucleolus}
use Rattle.definitions.specs.declared.Family.TheVariants.{Preimputations}
use Rattle.definitions.specs.declared.Measure.TheVariants.{Plain}
use Rattle.theorems.proofs.SortedLemmas.{ComesBefore-sorted}
use Rattle.theorems.proofs.Soundness.{SameOrLow-range, SomeAbove-range}
use Rattle.theorems.proofs.Transfers.{some_greatest}
use Rattle.law_duality.proofs.NoGain.{no_gain}
use Rattle.law_reduced_games.specs.ReducedGames.{AreSome, staying, staying_shares, IsReducedGame, ReducedGameProperty}
use Rattle.law_reduced_games.proofs.Staying.{staying_within, staying_empty, staying_all, spread, sum_over-spread}
use Rattle.law_reduced_games.proofs.Staying.{staying_share, staying_amount}
use Rattle.law_reduced_games.proofs.Excesses.{on, greatest_excess, allocation_staying, efficient_staying}
use Rattle.theorems.proofs.Products.{products, sorted_products}

module _ (m : ℕ) (who : ℕ → ℕ) (g h : Game) (x : Allocation) (a : AreSome g.players m who)
    (r : IsReducedGame m who g x h) (is : IsNucleolus Preimputations Plain g x) (z : Allocation)
    (hz : InFamily Preimputations (on m h) z) where
  abbrev n : ℕ
  n = g.players

  abbrev y : Allocation
  y = staying_shares m who x

  abbrev all : ℕ
  all = grand_coalition m

  -- what player k who stays gains by the shares z, and what a coalition gains
  abbrev gain : ℕ → ℤ
  gain k = pos 1 *ℤ share z k -ℤ z.den *ℤ share x (who k)

  abbrev gains : ℕ → ℤ
  gains t = sum_over m gain t

  gains_are : (t : ℕ) → gains t ≡ amount z t -ℤ z.den *ℤ amount y t
  gains_are t =
      omega (
        products,
        sum_over-combined m (share z) (λ k. share x (who k)) (pos 1) z.den t,
        ap (λ c. sum_over c (share z) t) hz.0.0,
        ap (◌*ℤ◌ z.den) (staying_amount m who x t),
      )

  -- so the excess falls by that
  excess_falls : (t : ℕ) → pos 1 *ℤ excess h z t ≡ z.den *ℤ excess h y t -ℤ gains t
  excess_falls t =
      let w = h.worth t in
      omega (
        arith,
        linear,
        gains_are t,
        one-mulℤ (excess h z t),
        mul-subℤ z.den (pos 1 *ℤ w) (amount y t),
        ap (◌*ℤ◌ z.den) (one-mulℤ w),
      )

  gains_none : gains 0 ≡ pos 0
  gains_none = sum_over-empty m gain

  gains_all : gains all ≡ pos 0
  gains_all =
      let w = h.worth all in
      let e = efficient_staying m who g h x a r is.0.1 in
      omega (
        arith,
        linear,
        gains_are all,
        hz.1,
        ap (◌*ℤ◌ z.den) e,
        ap (◌*ℤ◌ z.den) (one-mulℤ w),
      )

  abbrev count : ℕ
  count = 2 ^ m - 2

  -- ---- some coalition of the greatest excess loses

  -- the greatest excess M of the coalitions that gain or lose is of one that loses: then y comes before z
  beats : (M : ℤ) (c : ℕ) → c < count → gains (suc c) <ℤ pos 0 → excess h y (suc c) ≡ M
      → ((t : ℕ) → t < count → (gains (suc t) ≡ pos 0) ⊎ (excess h y (suc t) ≤ℤ M)) → Beats Plain (on m h) y z
  beats M c lt loses here each =
      let bound = z.den *ℤ M in
      let f : ℕ → ℤ = λ s. z.den *ℤ excess h y s in
      let k : ℕ → ℤ = λ s. pos 1 *ℤ excess h z s in
      let same = ap (◌*ℤ◌ z.den) here in
      ComesBefore-sorted bound (map f (proper_coalitions m)) (map k (proper_coalitions m))
      (SameOrLow-range bound f k 1 count (λ s low high. at_place s low high))
      (SomeAbove-range bound f k 1 count (suc c) (omega arith) (omega arith)
      (omega (arith, linear, same)) (omega (arith, linear, same, excess_falls (suc c), loses)))
    where
      at_place : (s : ℕ) → 1 ≤ s → s < 1 + count
          → (z.den *ℤ excess h y s ≡ pos 1 *ℤ excess h z s) ⊎ ((z.den *ℤ excess h y s) ≤ℤ (z.den *ℤ M))
      at_place zero low high = absurd (omega arith)
      at_place (suc t) low high = elim (each t (omega arith)) [
        | inl none ↦ inl (omega (arith, linear, none, excess_falls (suc t)))
        | inr le ↦ inr
            (mul-leℤ z.den (excess h y (suc t)) M (omega (arith, linear, hz.0.1)) le)
      ]

  -- ---- or none does: then there is a transfer in the whole game

  abbrev moved : ℕ → ℤ
  moved i = spread m who gain i

  moved_over : (s : ℕ) → sum_over n moved s ≡ gains (staying m who s)
  moved_over s = sum_over-spread n m who gain s a.players

  moved_total : sum_below n moved ≡ pos 0
  moved_total =
      sym (sum_over-grand_coalition n moved) ∙ moved_over (grand_coalition n)
      ∙ ap gains (staying_all n m who a) ∙ gains_all

  -- the greatest excess M of the coalitions that gain or lose is of one that gains, and of none that loses
  no_transfer : (M : ℤ) (c : ℕ) → c < count → pos 0 <ℤ gains (suc c) → excess h y (suc c) ≡ M
      → ((t : ℕ) → t < count → (gains (suc t) ≡ pos 0)
      ⊎ (((excess h y (suc t) ≤ℤ M) × (pos 1 ≤ℤ gains (suc t))) ⊎ (excess h y (suc t) <ℤ M))) → ⊥
  no_transfer M c lt wins here each =
      no_gain Preimputations Plain g (inl refl) x is moved moved_total (λ i less e. absurd (false≢true e)) M
      (s - 1) (omega (arith, some, proper)) (ap (excess g x) back ∙ sym top.2 ∙ here)
      (omega (arith, linear, wins, ap (sum_over n moved) back, moved_over s, ap gains top.1.1))
      (λ t less. each_there (suc t) (omega arith))
    where
      top : ((s : ℕ) × ((s < 2 ^ n) × (staying m who s ≡ suc c)) × (excess h y (suc c) ≡ excess g x s))
      top = (greatest_excess m who g h x a r (suc c) (omega arith) (omega arith)).0

      s : ℕ
      s = top.0

      some : 0 < s
      some = elim (same_or_other s 0) [
        | inl none ↦ absurd (omega (arith, ap (staying m who) none ∙ staying_empty m who, top.1.1))
        | inr other ↦ omega (arith, other)
      ]

      proper : s < grand_coalition n
      proper = elim (proper_or_all n s top.1.0) [
        | inl less ↦ less
        | inr whole ↦ absurd (omega (arith, ap (staying m who) whole ∙ staying_all n m who a, top.1.1, lt))
      ]

      back : suc (s - 1) ≡ s
      back = omega (arith, some)

      each_there : (s : ℕ) → s < 2 ^ n → (sum_over n moved s ≡ pos 0)
          ⊎ (((excess g x s ≤ℤ M) × (pos 1 ≤ℤ sum_over n moved s)) ⊎ (excess g x s <ℤ M))
      each_there s within = with_part (staying m who s) refl
        where
          with_part : (t : ℕ) → staying m who s ≡ t → (sum_over n moved s ≡ pos 0)
              ⊎ (((excess g x s ≤ℤ M) × (pos 1 ≤ℤ sum_over n moved s)) ⊎ (excess g x s <ℤ M))
          with_part zero e = inl (moved_over s ∙ ap gains e ∙ gains_none)
          with_part (suc t) e =
              let same = moved_over s ∙ ap gains e in
              elim (proper_or_all m (suc t) (omega (arith, e, staying_within m who s))) [
                | inr whole ↦ inl (same ∙ ap gains whole ∙ gains_all)
                | inl less ↦
                    let le = (greatest_excess m who g h x a r (suc t) (omega arith) less).1 s (within, e) in
                    elim (each t (omega (arith, less))) [
                      | inl none ↦ inl (same ∙ none)
                      | inr (inl (high, up)) ↦ inr
                          (inl (omega (arith, linear, le, high), omega (arith, linear, same, up)))
                      | inr (inr low) ↦ inr (inr (omega (arith, linear, le, low)))
                    ]
              ]

  -- ---- who gains or loses

  abbrev losing : ℕ → Bool
  losing t = int_lt (gains (suc t)) (pos 0)

  abbrev winning : ℕ → Bool
  winning t = int_lt (pos 0) (gains (suc t))

  -- where no coalition gains or loses, nobody does
  same_shares : ((t : ℕ) → t < count → gains (suc t) ≡ pos 0) → IsSame (on m h) y z
  same_shares none k lt =
      let whole = singleton-within m k lt in
      let some = pow_pos k in
      let nothing : gains (singleton k) ≡ pos 0 = elim (proper_or_all m (singleton k) whole) [
        | inl less ↦ (let back : suc (singleton k - 1) ≡ singleton k = omega (arith, some) in
            ap gains (sym back) ∙ none (singleton k - 1) (omega (arith, some, less)))
        | inr every ↦ ap gains every ∙ gains_all
      ] in
      omega
      (sorted_products, nothing, sum_over-singleton m k gain lt, ap (λ u. u *ℤ z.den) (staying_share m who x k lt))

  lost : (t : ℕ) → losing t ≡ true → gains (suc t) <ℤ pos 0
  lost t e = omega (arith, linear, e)

  won : (t : ℕ) → winning t ≡ true → pos 0 <ℤ gains (suc t)
  won t e = omega (arith, linear, e)

  neither_way : (t : ℕ) → losing t ≡ false → winning t ≡ false → gains (suc t) ≡ pos 0
  neither_way t e f = omega (arith, linear, e, f)

  -- all who lose, and all who gain, have an excess of at most M; and who loses has it
  lost_most : (M : ℤ) (c : ℕ) → c < count → losing c ≡ true → M ≡ excess h y (suc c)
      → ((t : ℕ) → t < count → losing t ≡ true → excess h y (suc t) ≤ℤ M)
      → ((t : ℕ) → t < count → winning t ≡ true → excess h y (suc t) ≤ℤ M) → Beats Plain (on m h) y z
  lost_most M c lt e here losers winners =
      beats M c lt (lost c e) (sym here)
      (λ t less. elim (true_or_false (losing t)) [
        | inl l ↦ inr (losers t less l)
        | inr l ↦ elim (true_or_false (winning t))
            [ inl w ↦ inr (winners t less w) | inr w ↦ inl (neither_way t l w) ]
      ])

  -- all who gain have at most M, all who lose have less; and who gains has it: that can't be
  won_most : (M : ℤ) (c : ℕ) → c < count → winning c ≡ true → M ≡ excess h y (suc c)
      → ((t : ℕ) → t < count → losing t ≡ true → excess h y (suc t) <ℤ M)
      → ((t : ℕ) → t < count → winning t ≡ true → excess h y (suc t) ≤ℤ M) → ⊥
  won_most M c lt e here losers winners =
      no_transfer M c lt (won c e) (sym here)
      (λ t less. elim (true_or_false (losing t)) [
        | inl l ↦ inr (inr (losers t less l))
        | inr l ↦ elim (true_or_false (winning t)) [
          | inl w ↦ inr (inl (winners t less w, (let p = won t w in omega (arith, linear, p))))
          | inr w ↦ inl (neither_way t l w)
        ]
      ])

  -- the shares y are the same as z, or come before
  same_or_before : IsSame (on m h) y z ⊎ Beats Plain (on m h) y z
  same_or_before =
      elim (some_greatest losing (λ t. excess h y (suc t)) count) [
        | inl no_loser ↦ elim (some_greatest winning (λ t. excess h y (suc t)) count) [
          | inl no_winner ↦ inl (same_shares (λ t lt. neither_way t (no_loser t lt) (no_winner t lt)))
          | inr best ↦ absurd
              (won_most best.0 best.1.0.0 best.1.0.1.0 best.1.0.1.1 best.1.0.2
              (λ t lt e. absurd (false≢true (sym (no_loser t lt) ∙ e))) (λ t lt e. best.1.1 t (lt, e)))
        ]
        | inr worst ↦ elim (some_greatest winning (λ t. excess h y (suc t)) count) [
          | inl no_winner ↦ inr
              (lost_most worst.0 worst.1.0.0 worst.1.0.1.0 worst.1.0.1.1 worst.1.0.2
              (λ t lt e. worst.1.1 t (lt, e)) (λ t lt e. absurd (false≢true (sym (no_winner t lt) ∙ e))))
          | inr best ↦
              by_lt_z worst.0 best.0
              (λ less. absurd
              (won_most best.0 best.1.0.0 best.1.0.1.0 best.1.0.1.1 best.1.0.2
              (λ t lt e. (let le = worst.1.1 t (lt, e) in omega (arith, linear, le, less)))
              (λ t lt e. best.1.1 t (lt, e))))
              (λ le. inr
              (lost_most worst.0 worst.1.0.0 worst.1.0.1.0 worst.1.0.1.1 worst.1.0.2
              (λ t lt e. worst.1.1 t (lt, e))
              (λ t lt e. (let high = best.1.1 t (lt, e) in omega (arith, linear, high, le)))))
        ]
      ]

pub reduced_game_property : ReducedGameProperty
reduced_game_property m who g h x a r is =
    subst (λ c. IsNucleolus Preimputations Plain (on c h) (staying_shares m who x)) (sym r.players) (
      (allocation_staying m who g h x a r, efficient_staying m who g h x a r is.0.1),
      λ z hz differs. elim (same_or_before m who g h x a r is z hz) [
        | inl same ↦ absurd (differs same)
        | inr before ↦ before
      ],
    )
