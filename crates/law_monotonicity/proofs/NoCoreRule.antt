-- Games of four players or more. 1 and 2 each are worth 1 with 3 and with 4, and all are worth 2. If 1, 2 and 3 come
-- to be worth 2, the only core point gives player 3 nothing, and if 1, 3 and 4 do, player 1 nothing. So by a
-- monotonic rule both would get nothing before, but they are worth 1 together (Housman and Clark 1998).
use Rattle.std.proofs.Common.{◌≡◌, ℕ, ◌<◌, ◌≤◌, List, [], ◌∷◌, ◌++◌, ℤ, pos, ◌+ℤ◌, ◌*ℤ◌, ◌≤ℤ◌, refl, sym, arith, rules}
use Rattle.std.proofs.lemmas.Int.{ints}
use Rattle.definitions.proofs.Ring.{linear, mul-leℤ, mul-le_cancelℤ}
use Rattle.definitions.specs.Coalitions.{grand_coalition, sum_over}
use Rattle.definitions.specs.Games.{Game, Allocation, share, InCore}
use Rattle.law_monotonicity.specs.Growth.{GroupGrows}
use Rattle.law_monotonicity.specs.CoreRules.{PicksCorePoints, IsCoalitionMonotonic, NoCoreRuleIsMonotonic}
use Rattle.law_monotonicity.proofs.ListedGames.{with_all, AreFirst, listed-skip, listed-front, with_all-game, listed}
use Rattle.law_monotonicity.proofs.ListedGames.{all-high, reaches, first_at_most, with_nothing, with_all-core}
use Rattle.theorems.proofs.Products.{products, sorted_products}

-- ---- the games

abbrev pairs : List (ℕ × ℤ)
pairs = (5, pos 1) ∷ ((6, pos 1) ∷ ((9, pos 1) ∷ ((10, pos 1) ∷ [])))

-- three of the four, who come to be worth 2
abbrev with_three : ℕ → List (ℕ × ℤ)
with_three t = pairs ++ (t, pos 2) ∷ []

abbrev before : ℕ → Game
before n = with_all n pairs (pos 2)

abbrev after : ℕ → ℕ → Game
after n t = with_all n (with_three t) (pos 2)

pairs_first : AreFirst 4 pairs
pairs_first = search rules

abbrev left_pair : List ℤ
left_pair = pos 1 ∷ (pos 1 ∷ (pos 0 ∷ (pos 0 ∷ [])))

abbrev right_pair : List ℤ
right_pair = pos 0 ∷ (pos 0 ∷ (pos 1 ∷ (pos 1 ∷ [])))

-- a share a over p that isn't more than one b over q of nothing at most
no_more : (a p b q : ℤ) → pos 1 ≤ℤ p → pos 1 ≤ℤ q → b ≤ℤ pos 0 → (a *ℤ q) ≤ℤ (b *ℤ p) → a ≤ℤ pos 0
no_more a p b q hp hq low le =
    mul-le_cancelℤ q a (pos 0) (omega (arith, linear, hq))
    (omega (sorted_products, le, mul-leℤ p b (pos 0) (omega (arith, linear, hp)) low))

module _ (n : ℕ) (many : 4 ≤ n) where
  three_grow : (t : ℕ) → (before n).worth t ≡ pos 0 → (after n t).worth t ≡ pos 2
      → GroupGrows (pos 2) t (before n) (after n t)
  three_grow t none two = record {
    players = refl;
    more = omega (arith, linear, none, two);
    others = λ s lt ne.
        listed-front pairs ((t, pos 2) ∷ ((grand_coalition n, pos 2) ∷ [])) ((grand_coalition n, pos 2) ∷ []) s
        (listed-skip (t, pos 2) ((grand_coalition n, pos 2) ∷ []) s (λ e. ne (sym e)));
  }

  none_worth : (t : ℕ) → t < 15 → listed ((grand_coalition n, pos 2) ∷ []) t ≡ pos 0
  none_worth t lt =
      listed-skip (grand_coalition n, pos 2) [] t (λ e. omega (arith, all-high 4 n (omega arith) many, lt, e))

  -- ---- their core points

  before_core : InCore (before n) (with_nothing n left_pair)
  before_core =
      with_all-core 4 n pairs (pos 2) left_pair (omega arith) many pairs_first refl (search rules) refl (search rules)

  first_core : InCore (after n 7) (with_nothing n left_pair)
  first_core =
      with_all-core 4 n (with_three 7) (pos 2) left_pair (omega arith) many (search rules) refl (search rules) refl
      (search rules)

  second_core : InCore (after n 13) (with_nothing n right_pair)
  second_core =
      with_all-core 4 n (with_three 13) (pos 2) right_pair (omega arith) many (search rules) refl (search rules) refl
      (search rules)

  -- where 1, 2 and 3 are worth 2, player 3 gets nothing
  third_nothing : (x : Allocation) → InCore (after n 7) x → share x 2 ≤ℤ pos 0
  third_nothing x h =
      let at : (s : ℕ) → s < 16 → (x.den *ℤ (after n 7).worth s) ≤ℤ sum_over 4 (share x) s =
      λ s lt. reaches 4 n (omega arith) many (with_three 7) (pos 2) (search rules) x s h lt in
      let twice : x.den *ℤ pos 2 ≡ x.den +ℤ x.den = omega (arith, ints) in
      omega (
        products,
        at 7 (omega arith),
        at 9 (omega arith),
        at 10 (omega arith),
        first_at_most 4 n (omega arith) many (with_three 7) (pos 2) (search rules) x h,
        twice,
      )

  -- and where 1, 3 and 4 are, player 1 does
  first_nothing : (x : Allocation) → InCore (after n 13) x → share x 0 ≤ℤ pos 0
  first_nothing x h =
      let at : (s : ℕ) → s < 16 → (x.den *ℤ (after n 13).worth s) ≤ℤ sum_over 4 (share x) s =
      λ s lt. reaches 4 n (omega arith) many (with_three 13) (pos 2) (search rules) x s h lt in
      let twice : x.den *ℤ pos 2 ≡ x.den +ℤ x.den = omega (arith, ints) in
      omega (
        products,
        at 13 (omega arith),
        at 6 (omega arith),
        at 10 (omega arith),
        first_at_most 4 n (omega arith) many (with_three 13) (pos 2) (search rules) x h,
        twice,
      )

  -- together they get 1 at least
  pair_gets_one : (x : Allocation) → InCore (before n) x → x.den ≤ℤ (share x 0 +ℤ share x 2)
  pair_gets_one x h = omega (products, reaches 4 n (omega arith) many pairs (pos 2) pairs_first x 5 h (omega arith))

  none_fits : (rule : Game → Allocation) → PicksCorePoints n rule → IsCoalitionMonotonic n rule → ⊥
  none_fits rule picks monotonic =
      let x = rule (before n) in
      let y = rule (after n 7) in
      let z = rule (after n 13) in
      let game = with_all-game 4 n (omega arith) many pairs (pos 2) pairs_first in
      let hx = picks (before n) (with_nothing n left_pair) game before_core in
      let hy = picks (after n 7) (with_nothing n left_pair)
      (with_all-game 4 n (omega arith) many (with_three 7) (pos 2) (search rules)) first_core in
      let hz = picks (after n 13) (with_nothing n right_pair)
      (with_all-game 4 n (omega arith) many (with_three 13) (pos 2) (search rules)) second_core in
      let high = all-high 4 n (omega arith) many in
      let third =
      monotonic (pos 2) 7 (before n) (after n 7) (with_nothing n left_pair) (with_nothing n left_pair) 2 game
      before_core first_core (search rules) (omega (arith, high)) (three_grow 7 (none_worth 7 (omega arith)) refl)
      (omega (arith, many)) refl in
      let first =
      monotonic (pos 2) 13 (before n) (after n 13) (with_nothing n left_pair) (with_nothing n right_pair) 0 game
      before_core second_core (search rules) (omega (arith, high)) (three_grow 13 (none_worth 13 (omega arith)) refl)
      (omega (arith, many)) refl in
      let none_three = no_more (share x 2) x.den (share y 2) y.den hx.0.1 hy.0.1 (third_nothing y hy) third in
      let none_one = no_more (share x 0) x.den (share z 0) z.den hx.0.1 hz.0.1 (first_nothing z hz) first in
      omega (arith, linear, pair_gets_one x hx, none_three, none_one, hx.0.1)

pub no_core_rule : NoCoreRuleIsMonotonic
no_core_rule n rule many picks monotonic = none_fits n many rule picks monotonic
