-- Two games of five players or more with one core point each. In the second, two coalitions are worth more, both with
-- player 4, who gets 6 in place of 7 (Young 1985).
--
-- The core points are (0, 1, 2, 7, 1) and (3, 0, 0, 6, 3): five inequalities that add up leave no room. At a core point
-- of more players the others together get no less than nothing, so the first five get at most what all have
-- (ListedGames.antt).
use Rattle.std.proofs.Common.{◌≡◌, ◌≢◌, ℕ, ◌<◌, ◌≤◌, List, [], ◌∷◌, ◌++◌, ℤ, pos, ◌+ℤ◌, ◌*ℤ◌, ◌<ℤ◌, ◌≤ℤ◌, refl, sym, ap}
use Rattle.std.proofs.Common.{◌∙◌, inl, inr, arith, rules}
use Rattle.std.proofs.lemmas.Bool.{false≢true}
use Rattle.std.proofs.lemmas.Int.{by_lt_z, ints}
use Rattle.definitions.proofs.Cases.{same_or_other}
use Rattle.definitions.proofs.Members.{has_player-grand_coalition}
use Rattle.definitions.proofs.Ring.{linear, mul-leℤ, mul-le_cancelℤ}
use Rattle.definitions.specs.Coalitions.{has_player, grand_coalition, sum_over}
use Rattle.definitions.specs.Games.{Game, Allocation, share, InCore}
use Rattle.law_monotonicity.specs.CoreRules.{GrowsAround, SomebodyLosesInTheCore}
use Rattle.law_monotonicity.proofs.ListedGames.{with_all, AreFirst, listed-skip, listed-front, with_all-others}
use Rattle.law_monotonicity.proofs.ListedGames.{with_all-all, with_all-game, with_all-core, reaches, first_at_most}
use Rattle.law_monotonicity.proofs.ListedGames.{with_nothing}
use Rattle.theorems.proofs.Products.{products, sorted_products}

-- ---- products

three_times : (p : ℤ) → p *ℤ pos 3 ≡ p +ℤ p +ℤ p
three_times p = omega (arith, ints)

six_times : (p : ℤ) → p *ℤ pos 6 ≡ p *ℤ pos 3 +ℤ p *ℤ pos 3
six_times p = omega (arith, ints)

seven_times : (p : ℤ) → p *ℤ pos 7 ≡ p *ℤ pos 6 +ℤ p
seven_times p = omega (arith, ints)

nine_times : (p : ℤ) → p *ℤ pos 9 ≡ p *ℤ pos 6 +ℤ p *ℤ pos 3
nine_times p = omega (arith, ints)

eleven_times : (p : ℤ) → p *ℤ pos 11 ≡ p *ℤ pos 9 +ℤ p +ℤ p
eleven_times p = omega (arith, ints)

twelve_times : (p : ℤ) → p *ℤ pos 12 ≡ p *ℤ pos 9 +ℤ p *ℤ pos 3
twelve_times p = omega (arith, ints)

-- ---- the games

abbrev four : List (ℕ × ℤ)
four = (7, pos 3) ∷ ((13, pos 9) ∷ ((20, pos 3) ∷ ((26, pos 9) ∷ [])))

-- 1, 2 and 3 are worth 3, 1, 3 and 4 are worth 9, 3 and 5 are worth 3, 2, 4 and 5 are worth 9, and 1, 2, 4 and 5 have
-- the number
abbrev five : ℤ → List (ℕ × ℤ)
five b = four ++ (27, b) ∷ []

five_first : (b : ℤ) → AreFirst 5 (five b)
five_first b = search rules

abbrev smaller : ℕ → Game
smaller n = with_all n (five (pos 9)) (pos 11)

abbrev greater : ℕ → Game
greater n = with_all n (five (pos 12)) (pos 12)

module _ (n : ℕ) (many : 5 ≤ n) where
  smaller-all : (smaller n).worth (grand_coalition n) ≡ pos 11
  smaller-all = with_all-all 5 n (omega arith) many (five (pos 9)) (pos 11) (five_first (pos 9))

  greater-all : (greater n).worth (grand_coalition n) ≡ pos 12
  greater-all = with_all-all 5 n (omega arith) many (five (pos 12)) (pos 12) (five_first (pos 12))

  same : (s : ℕ) → s ≢ grand_coalition n → s ≢ 27 → (smaller n).worth s ≡ (greater n).worth s
  same s ne other =
      let all = (grand_coalition n, pos 12) ∷ [] in
      with_all-others n (five (pos 9)) (pos 11) (pos 12) s ne
      ∙ listed-front four ((27, pos 9) ∷ all) ((27, pos 12) ∷ all) s
      (listed-skip (27, pos 9) all s (λ e. other (sym e)) ∙ sym (listed-skip (27, pos 12) all s (λ e. other (sym e))))

  grows : GrowsAround (smaller n) (greater n) 3
  grows = record {
    players = refl;
    around = λ s lt inside. elim (same_or_other s (grand_coalition n)) [
      | inl all ↦ omega
          (arith, linear, ap (smaller n).worth all ∙ smaller-all, ap (greater n).worth all ∙ greater-all)
      | inr ne ↦ elim (same_or_other s 27) [
        | inl those ↦ omega (arith, linear, ap (smaller n).worth those, ap (greater n).worth those)
        | inr other ↦ omega (arith, linear, same s ne other)
      ]
    ];
    apart = λ s lt out. sym
        (same s
        (λ all. false≢true
        (sym out ∙ ap (λ (t : ℕ). has_player t 3) all ∙ has_player-grand_coalition n 3 (omega (arith, many))))
        (λ those. false≢true (sym out ∙ ap (λ (t : ℕ). has_player t 3) those)));
  }

  -- ---- their core points

  first_core : InCore (smaller n) (with_nothing n (pos 0 ∷ (pos 1 ∷ (pos 2 ∷ (pos 7 ∷ (pos 1 ∷ []))))))
  first_core =
      with_all-core 5 n (five (pos 9)) (pos 11) (pos 0 ∷ (pos 1 ∷ (pos 2 ∷ (pos 7 ∷ (pos 1 ∷ []))))) (omega arith) many
      (five_first (pos 9)) refl (search rules) refl (search rules)

  last_core : InCore (greater n) (with_nothing n (pos 3 ∷ (pos 0 ∷ (pos 0 ∷ (pos 6 ∷ (pos 3 ∷ []))))))
  last_core =
      with_all-core 5 n (five (pos 12)) (pos 12) (pos 3 ∷ (pos 0 ∷ (pos 0 ∷ (pos 6 ∷ (pos 3 ∷ []))))) (omega arith) many
      (five_first (pos 12)) refl (search rules) refl (search rules)

  -- player 4 gets 7 at least
  seven_before : (x : Allocation) → InCore (smaller n) x → (x.den *ℤ pos 7) ≤ℤ share x 3
  seven_before x h =
      let at : (s : ℕ) → s < 32 → (x.den *ℤ (smaller n).worth s) ≤ℤ sum_over 5 (share x) s =
      λ s lt. reaches 5 n (omega arith) many (five (pos 9)) (pos 11) (five_first (pos 9)) x s h lt in
      omega (
        products,
        at 7 (omega arith),
        at 13 (omega arith),
        at 20 (omega arith),
        at 26 (omega arith),
        at 27 (omega arith),
        first_at_most 5 n (omega arith) many (five (pos 9)) (pos 11) (five_first (pos 9)) x h,
        three_times x.den,
        six_times x.den,
        seven_times x.den,
        nine_times x.den,
        eleven_times x.den,
      )

  -- and then 6 at most
  six_after : (y : Allocation) → InCore (greater n) y → share y 3 ≤ℤ (y.den *ℤ pos 6)
  six_after y h =
      let at : (s : ℕ) → s < 32 → (y.den *ℤ (greater n).worth s) ≤ℤ sum_over 5 (share y) s =
      λ s lt. reaches 5 n (omega arith) many (five (pos 12)) (pos 12) (five_first (pos 12)) y s h lt in
      omega (
        products,
        at 7 (omega arith),
        at 13 (omega arith),
        at 20 (omega arith),
        at 26 (omega arith),
        at 27 (omega arith),
        first_at_most 5 n (omega arith) many (five (pos 12)) (pos 12) (five_first (pos 12)) y h,
        three_times y.den,
        six_times y.den,
        nine_times y.den,
        twelve_times y.den,
      )

  loses : (x y : Allocation) → InCore (smaller n) x → InCore (greater n) y
      → (share y 3 *ℤ x.den) <ℤ (share x 3 *ℤ y.den)
  loses x y hx hy =
      by_lt_z (share y 3 *ℤ x.den) (share x 3 *ℤ y.den)
      (λ less. less)
      (λ le. absurd
      (let low = mul-le_cancelℤ x.den (y.den *ℤ pos 7) (share y 3) (omega (arith, linear, hx.0.1))
      (omega (
        sorted_products,
        le,
        mul-leℤ y.den (x.den *ℤ pos 7) (share x 3) (omega (arith, linear, hy.0.1)) (seven_before x hx),
      )) in
      omega (arith, linear, low, six_after y hy, seven_times y.den, hy.0.1)))

pub somebody_loses : SomebodyLosesInTheCore
somebody_loses n many = (
  smaller n,
  greater n,
  3,
  with_all-game 5 n (omega arith) many (five (pos 9)) (pos 11) (five_first (pos 9)),
  with_all-game 5 n (omega arith) many (five (pos 12)) (pos 12) (five_first (pos 12)),
  (
    grows n many,
    omega (arith, many),
    (with_nothing n (pos 0 ∷ (pos 1 ∷ (pos 2 ∷ (pos 7 ∷ (pos 1 ∷ []))))), first_core n many),
    (with_nothing n (pos 3 ∷ (pos 0 ∷ (pos 0 ∷ (pos 6 ∷ (pos 3 ∷ []))))), last_core n many),
    λ x y hx hy. loses n many x y hx hy,
  ),
)
