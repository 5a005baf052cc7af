-- One has a left glove and two have a right one, of whom each is worth 1 with the first: the Shapley shares are 4, 1
-- and 1 sixths. The last goes with its sixth. The first keeps with it what all keep, 5 sixths, and the second alone
-- nothing; so the Shapley value of what is left gives the first 5 sixths.
use Rattle.std.proofs.Common.{◌≡◌, ℕ, zero, suc, ◌^◌, ◌<◌, Bool, [], ◌∷◌, ℤ, pos, ◌+ℤ◌, ◌-ℤ◌, ◌*ℤ◌, ◌≤ℤ◌, refl, sym, ap}
use Rattle.std.proofs.Common.{◌∙◌, arith}
use Rattle.std.proofs.lemmas.Int.{ints}
use Rattle.definitions.proofs.Ring.{linear, mul-cancelℤ, mul-oneℤ}
use Rattle.definitions.proofs.Members.{has_player-empty}
use Rattle.definitions.proofs.SumsOver.{amount-at, sum_over-empty}
use Rattle.definitions.specs.Coalitions.{has_player, sum_over}
use Rattle.definitions.specs.Classes.{table_worth}
use Rattle.definitions.specs.Games.{Game, Allocation, share, amount, IsSame}
use Rattle.definitions.specs.Shapley.{shapley_total, factorial, IsShapley}
use Rattle.definitions.specs.Sums.{IsGreatest}
use Rattle.theorems.proofs.Products.{products, sorted_products}
use Rattle.shapley.proofs.Sizes.{factorial-some}
use Rattle.law_answers.proofs.ShapleyIsAnonymous.{shapley_is_anonymous}
use Rattle.law_answers.proofs.ShapleyIsCovariant.{shapley_is_covariant}
use Rattle.law_answers.specs.StrategicEquivalence.{equivalent_game, equivalent_shares}
use Rattle.law_answers.specs.Renumbering.{renumbered_coalition, renumbered_game, renumbered_shares}
use Rattle.law_answers.proofs.RenumberedCoalitions.{coalition_where-within, coalition_where-has, same_below}
use Rattle.law_reduced_games.specs.ReducedGames.{AreSome, staying, staying_shares, worth_left, IsReducedGame}
use Rattle.law_reduced_games.specs.SobolevsTheorem.{IsPlayable, HasReducedGames, ShapleyLacksReducedGames}
use Rattle.law_reduced_games.proofs.Staying.{staying_share, staying_amount}

-- two Shapley shares of one game are the same
one_shapley : (g : Game) (x y : Allocation) → IsShapley g x → IsShapley g y → IsSame g x y
one_shapley g x y h k i lt =
    let f = pos (factorial g.players) in
    let some = factorial-some g.players in
    mul-cancelℤ f (share x i *ℤ y.den) (share y i *ℤ x.den) (omega (arith, linear, some))
    (omega (sorted_products, ap (◌*ℤ◌ y.den) (h.1 i lt), ap (◌*ℤ◌ x.den) (k.1 i lt)))

abbrev gloves : Game
gloves = record {
  players = 3;
  worth = table_worth (pos 0 ∷ (pos 0 ∷ (pos 1 ∷ (pos 0 ∷ (pos 1 ∷ (pos 0 ∷ (pos 1 ∷ [])))))));
}

-- what is left for the first two, where the whole is d and the third got c
abbrev left_by_third : ℤ → ℤ → Game
left_by_third d c = record { players = 2; worth = table_worth ((d -ℤ c) ∷ (pos 0 ∷ ((d -ℤ c) ∷ []))) }

playable : IsPlayable gloves
playable = (omega arith, refl)

first_two : AreSome 3 2 (λ k. k)
first_two = record { some = omega arith; players = λ k lt. omega arith; once = λ k l hk hl e. e }

module _ (x : Allocation) (h : IsShapley gloves x) where
  abbrev d : ℤ
  d = x.den

  abbrev c : ℤ
  c = share x 2

  gets : (share x 0 *ℤ pos 6 ≡ d *ℤ pos 4) × (c *ℤ pos 6 ≡ d *ℤ pos 1) × (pos 1 ≤ℤ d)
  gets = (h.1 0 (omega arith), h.1 2 (omega arith), h.0.1)

  -- what a coalition keeps
  kept : (s : ℕ)
      → worth_left 2 (λ k. k) gloves x s
      ≡ d *ℤ gloves.worth s -ℤ (sum_over 3 (share x) s -ℤ sum_over 2 (share x) (staying 2 (λ k. k) s))
  kept s =
      ap (λ z. d *ℤ gloves.worth s -ℤ (z -ℤ amount (staying_shares 2 (λ k. k) x) (staying 2 (λ k. k) s)))
      (amount-at gloves x s h.0)
      ∙ ap (λ z. d *ℤ gloves.worth s -ℤ (sum_over 3 (share x) s -ℤ z))
      (staying_amount 2 (λ k. k) x (staying 2 (λ k. k) s))

  sixth : (pos 0 ≤ℤ c) × (c ≤ℤ d)
  sixth = by_size c d gets.1 gets.2
    where
      by_size : (c d : ℤ) → c *ℤ pos 6 ≡ d *ℤ pos 1 → pos 1 ≤ℤ d → (pos 0 ≤ℤ c) × (c ≤ℤ d)
      by_size c d e one = (omega (arith, ints), omega (arith, ints))

  low_one : (s : ℕ) → s < 2 ^ 3 → staying 2 (λ k. k) s ≡ 1 → worth_left 2 (λ k. k) gloves x s ≤ℤ (d -ℤ c)
  low_one zero lt e = absurd (omega arith)
  low_one (suc zero) lt e = omega (products, kept 1, sixth)
  low_one (suc (suc zero)) lt e = absurd (omega arith)
  low_one (suc (suc (suc zero))) lt e = absurd (omega arith)
  low_one (suc (suc (suc (suc zero)))) lt e = absurd (omega arith)
  low_one (suc (suc (suc (suc (suc zero))))) lt e = omega (products, kept 5, sixth)
  low_one (suc (suc (suc (suc (suc (suc zero)))))) lt e = absurd (omega arith)
  low_one (suc (suc (suc (suc (suc (suc (suc zero))))))) lt e = absurd (omega arith)
  low_one (suc (suc (suc (suc (suc (suc (suc (suc s)))))))) lt e = absurd (omega arith)

  low_two : (s : ℕ) → s < 2 ^ 3 → staying 2 (λ k. k) s ≡ 2 → worth_left 2 (λ k. k) gloves x s ≤ℤ pos 0
  low_two zero lt e = absurd (omega arith)
  low_two (suc zero) lt e = absurd (omega arith)
  low_two (suc (suc zero)) lt e = omega (products, kept 2, sixth)
  low_two (suc (suc (suc zero))) lt e = absurd (omega arith)
  low_two (suc (suc (suc (suc zero)))) lt e = absurd (omega arith)
  low_two (suc (suc (suc (suc (suc zero))))) lt e = absurd (omega arith)
  low_two (suc (suc (suc (suc (suc (suc zero)))))) lt e = omega (products, kept 6, sixth)
  low_two (suc (suc (suc (suc (suc (suc (suc zero))))))) lt e = absurd (omega arith)
  low_two (suc (suc (suc (suc (suc (suc (suc (suc s)))))))) lt e = absurd (omega arith)

  some_left : (t : ℕ) → 0 < t → t < 3
      → IsGreatest (λ s. (s < 2 ^ 3) × (staying 2 (λ k. k) s ≡ t)) (worth_left 2 (λ k. k) gloves x)
      (table_worth ((d -ℤ c) ∷ (pos 0 ∷ ((d -ℤ c) ∷ []))) t)
  some_left zero some less = absurd (omega arith)
  some_left (suc zero) some less =
      ((5, (omega arith, refl), omega (products, kept 5)), λ s p. low_one s p.0 p.1)
  some_left (suc (suc zero)) some less =
      ((2, (omega arith, refl), omega (products, kept 2)), λ s p. low_two s p.0 p.1)
  some_left (suc (suc (suc t))) some less = absurd (omega arith)

  is_left : IsReducedGame 2 (λ k. k) gloves x (left_by_third d c)
  is_left = record { players = refl; nobody = refl; all = omega (products, kept 7); some = some_left }

-- the first gets 4 sixths of the whole, and of what is left 5
no_shares : (a b c d q : ℤ) → pos 1 ≤ℤ d → pos 1 ≤ℤ q → a *ℤ pos 6 ≡ d *ℤ pos 4 → c *ℤ pos 6 ≡ d *ℤ pos 1
    → b *ℤ pos 2 ≡ q *ℤ ((d -ℤ c) +ℤ (d -ℤ c)) → b ≡ a *ℤ q → ⊥
no_shares a b c d q hd hq first third left kept =
    let same : a *ℤ pos 2 ≡ (d -ℤ c) +ℤ (d -ℤ c) = mul-cancelℤ q (a *ℤ pos 2) ((d -ℤ c) +ℤ (d -ℤ c))
    (omega (arith, linear, hq)) (omega (sorted_products, left, ap (λ z. z *ℤ pos 2) kept)) in
    impossible a c d hd first third same
  where
    impossible : (a c d : ℤ) → pos 1 ≤ℤ d → a *ℤ pos 6 ≡ d *ℤ pos 4 → c *ℤ pos 6 ≡ d *ℤ pos 1
        → a *ℤ pos 2 ≡ (d -ℤ c) +ℤ (d -ℤ c) → ⊥
    impossible a c d one first third same = omega (arith, ints)

lacks : (rule : Game → Allocation) → ((g : Game) → IsPlayable g → IsShapley g (rule g)) → ¬ HasReducedGames rule
lacks rule shapley reduced =
    let x = rule gloves in
    let hx = shapley gloves playable in
    let h = left_by_third x.den (share x 2) in
    let y = rule h in
    let hy = shapley h (omega arith, refl) in
    let same = reduced 2 (λ k. k) gloves h playable first_two (λ k l less lt. less) (is_left x hx) 0 (omega arith) in
    let stays = staying_share 2 (λ k. k) x 0 (omega arith) in
    no_shares (share x 0) (share y 0) (share x 2) x.den y.den hx.0.1 hy.0.1 (hx.1 0 (omega arith))
    (hx.1 2 (omega arith)) (hy.1 0 (omega arith) ∙ two_terms y.den (x.den -ℤ share x 2))
    (sym (mul-oneℤ (share y 0)) ∙ same ∙ ap (λ z. z *ℤ y.den) stays)
  where
    two_terms : (q v : ℤ) → q *ℤ shapley_total (record { players = 2; worth = table_worth (v ∷ (pos 0 ∷ (v ∷ []))) }) 0
        ≡ q *ℤ (v +ℤ v)
    two_terms q v = ap (◌*ℤ◌ q) (omega (arith, linear))

-- ---- games made of playable ones are playable

equivalent_playable : (k : ℤ) (b : ℕ → ℤ) (g : Game) → IsPlayable g → IsPlayable (equivalent_game k b g)
equivalent_playable k b g p = (p.0, omega (products, ap (◌*ℤ◌ k) p.1, sum_over-empty g.players b))

renumbered_playable : (back : ℕ → ℕ) (g : Game) → IsPlayable g → IsPlayable (renumbered_game back g)
renumbered_playable back g p =
    let n = g.players in
    let test : ℕ → Bool = λ i. has_player 0 (back i) in
    let nobody : renumbered_coalition n back 0 ≡ 0 = same_below n (renumbered_coalition n back 0) 0
    (coalition_where-within n test) (let lt = coalition_where-within n test in omega (arith, lt))
    (λ i lt. coalition_where-has n test i lt ∙ has_player-empty (back i) ∙ sym (has_player-empty i)) in
    (p.0, ap g.worth nobody ∙ p.1)

pub shapley_lacks_reduced_games : ShapleyLacksReducedGames
shapley_lacks_reduced_games rule shapley = (
  λ g p. (shapley g p).0,
  λ k b g one p.
      let h = equivalent_game k b g in
      one_shapley h (rule h) (equivalent_shares k b (rule g)) (shapley h (equivalent_playable k b g p))
      (shapley_is_covariant k b g (rule g) (shapley g p)),
  λ to back g p r.
      let h = renumbered_game back g in
      let same = one_shapley h (rule h) (renumbered_shares to (rule g)) (shapley h (renumbered_playable back g p))
      (shapley_is_anonymous g (rule g) to back r (shapley g p)) in
      same,
  lacks rule shapley,
)
