-- The Shapley total of a player with one player more: the old total, as many times as there are players now, and what
-- the newcomer changes at what the player adds to each coalition of the others.
--
-- A coalition of k players, of n without the newcomer, comes in front of the player in k! (n - k)! orders alone, and in
-- (k + 1)! (n - 1 - k)! with the newcomer: together n + 1 times k! (n - 1 - k)!.
use Rattle.std.proofs.Common.{◌≡◌, ℕ, zero, suc, ◌+◌, ◌-◌, ◌*◌, ◌^◌, ◌<◌, ◌≤◌, Bool, true, false, cond, ℤ, pos}
use Rattle.std.proofs.Common.{◌+ℤ◌, ◌-ℤ◌, ◌*ℤ◌, ◌≤ℤ◌, ◌<ℤ◌, refl, ap, ◌∙◌, inl, inr, arith}
use Rattle.std.proofs.lemmas.Int.{ints}
use Rattle.std.proofs.Math.Pow.{pow_mono}
use Rattle.definitions.proofs.Cases.{same_or_other}
use Rattle.definitions.proofs.Halves.{size_below, size_below-without, size_below-with, size_below-less}
use Rattle.definitions.proofs.Halves.{sum_below-halves, has_player-last, has_player-lower}
use Rattle.definitions.proofs.Members.{sum_below-same, sum_below-add, sum_below-times, sum_below-zero}
use Rattle.definitions.proofs.Parts.{sum_below-le, more-lt}
use Rattle.definitions.proofs.Ring.{linear, mul-leℤ, mul-le_cancelℤ, mul-subℤ}
use Rattle.definitions.specs.Sums.{sum_below}
use Rattle.definitions.specs.Coalitions.{has_player}
use Rattle.definitions.specs.Convexity.{IsConvex}
use Rattle.definitions.specs.Games.{Game, Allocation, share}
use Rattle.definitions.specs.Players.{AddsNothing}
use Rattle.definitions.specs.Shapley.{shapley_total, factorial, IsShapley}
use Rattle.shapley.specs.Subsets.{orders_with, subset_term}
use Rattle.shapley.proofs.Orders.{orders_are_subsets}
use Rattle.law_answers.proofs.SharesAddToAll.{factorial-positive}
use Rattle.theorems.proofs.Products.{products, sorted_products}
use Rattle.law_answers.specs.Newcomers.{NewcomersGiveNobodyLess, WhoAddNothingCanGo}

abbrev game : ℕ → (ℕ → ℤ) → Game
game n v = record { players = n; worth = v }

-- ---- orders

regrouped : (k r a b : ℕ) → a * (suc r * b) + suc k * a * b ≡ suc (k + suc r) * (a * b)
regrouped k r a b = omega (arith, linear)

both_places : (n k : ℕ) → k < n → orders_with (suc n) k + orders_with (suc n) (suc k) ≡ suc n * orders_with n k
both_places n k lt =
    let r = n - 1 - k in
    let first : suc n - 1 - k ≡ suc r = omega arith in
    let second : suc n - 1 - suc k ≡ r = omega arith in
    let all : suc (k + suc r) ≡ suc n = omega arith in
    ap (λ (m : ℕ). factorial k * factorial m + factorial (suc k) * factorial (suc n - 1 - suc k)) first
    ∙ ap (λ (m : ℕ). factorial k * factorial (suc r) + factorial (suc k) * factorial m) second
    ∙ regrouped k r (factorial k) (factorial r)
    ∙ ap (λ (m : ℕ). m * (factorial k * factorial r)) all

-- ---- one newcomer

module _ (n : ℕ) (v : ℕ → ℤ) (i : ℕ) (hi : i < n) where
  -- what the newcomer changes at what i adds to s
  abbrev pub changed : ℕ → ℤ
  changed s = (v (2 ^ n + s + 2 ^ i) -ℤ v (2 ^ n + s)) -ℤ (v (s + 2 ^ i) -ℤ v s)

  abbrev pub rest : ℕ → ℤ
  rest s = cond (has_player s i) (pos 0) (pos (orders_with (suc n) (suc (size_below n s))) *ℤ changed s)

  one_term : (s : ℕ) → s < 2 ^ n
      → subset_term v (suc n) i s +ℤ subset_term v (suc n) i (2 ^ n + s)
      ≡ pos (suc n) *ℤ subset_term v n i s +ℤ rest s
  one_term s lt =
      by_test (has_player s i) (has_player (2 ^ n + s) i) refl (has_player-lower n s i hi)
      (v (s + 2 ^ i) -ℤ v s) (v (2 ^ n + s + 2 ^ i) -ℤ v (2 ^ n + s))
    where
      counted : (d e : ℤ) → has_player s i ≡ false
          → pos (orders_with (suc n) (size_below (suc n) s)) *ℤ d
          +ℤ pos (orders_with (suc n) (size_below (suc n) (2 ^ n + s))) *ℤ e
          ≡ pos (suc n) *ℤ (pos (orders_with n (size_below n s)) *ℤ d)
          +ℤ pos (orders_with (suc n) (suc (size_below n s))) *ℤ (e -ℤ d)
      counted d e out =
          let a = ap (λ (m : ℕ). pos (orders_with (suc n) m) *ℤ d) (size_below-without n s lt) in
          let b = ap (λ (m : ℕ). pos (orders_with (suc n) m) *ℤ e) (size_below-with n s lt) in
          let c = both_places n (size_below n s) (size_below-less n i s hi out) in
          omega (
            arith,
            linear,
            a,
            b,
            spread (orders_with (suc n) (size_below n s)) (orders_with (suc n) (suc (size_below n s))) (suc n)
                (orders_with n (size_below n s)) d e c,
          )
        where
          spread : (p q m o : ℕ) (d e : ℤ) → p + q ≡ m * o
              → pos p *ℤ d +ℤ pos q *ℤ e ≡ pos m *ℤ (pos o *ℤ d) +ℤ pos q *ℤ (e -ℤ d)
          spread p q m o d e h =
              let whole : pos p +ℤ pos q ≡ pos m *ℤ pos o = omega (arith, ints, ap pos h) in
              let times = ap (λ (z : ℤ). z *ℤ d) whole in
              omega (sorted_products, times, mul-subℤ (pos q) e d)

      by_test : (b c : Bool) → has_player s i ≡ b → c ≡ has_player s i → (d e : ℤ)
          → cond b (pos 0) (pos (orders_with (suc n) (size_below (suc n) s)) *ℤ d)
          +ℤ cond c (pos 0) (pos (orders_with (suc n) (size_below (suc n) (2 ^ n + s))) *ℤ e)
          ≡ pos (suc n) *ℤ cond b (pos 0) (pos (orders_with n (size_below n s)) *ℤ d)
          +ℤ cond b (pos 0) (pos (orders_with (suc n) (suc (size_below n s))) *ℤ (e -ℤ d))
      by_test true c out same d e =
          let x = pos (orders_with (suc n) (size_below (suc n) (2 ^ n + s))) *ℤ e in
          let none : cond c (pos 0) x ≡ pos 0 = ap (λ (b : Bool). cond b (pos 0) x) (same ∙ out) in
          omega (products, none)
      by_test false c out same d e =
          let x = pos (orders_with (suc n) (size_below (suc n) (2 ^ n + s))) *ℤ e in
          let all : cond c (pos 0) x ≡ x = ap (λ (b : Bool). cond b (pos 0) x) (same ∙ out) in
          omega (arith, linear, all, counted d e out)

  one_more : shapley_total (game (suc n) v) i ≡ pos (suc n) *ℤ shapley_total (game n v) i +ℤ sum_below (2 ^ n) rest
  one_more =
      let a = orders_are_subsets (game (suc n) v) i (omega (arith, hi)) in
      let b = orders_are_subsets (game n v) i hi in
      let halves = sum_below-halves n (subset_term v (suc n) i) in
      let each = sum_below-same (2 ^ n)
      (λ s. subset_term v (suc n) i s +ℤ subset_term v (suc n) i (2 ^ n + s))
      (λ s. pos (suc n) *ℤ subset_term v n i s +ℤ rest s) one_term in
      let parts = sum_below-add (2 ^ n) (λ s. pos (suc n) *ℤ subset_term v n i s) rest in
      let times = sum_below-times (2 ^ n) (subset_term v n i) (pos (suc n)) in
      omega (arith, linear, a, halves, each, parts, times, ap (◌*ℤ◌ (pos (suc n))) b)

  rest-low : ((s : ℕ) → s < 2 ^ n → has_player s i ≡ false → pos 0 ≤ℤ changed s) → pos 0 ≤ℤ sum_below (2 ^ n) rest
  rest-low h =
      let none = sum_below-zero (2 ^ n) (λ s. pos 0) (λ s lt. refl) in
      let le = sum_below-le (2 ^ n) (λ s. pos 0) rest
      (λ s lt. low (has_player s i) (orders_with (suc n) (suc (size_below n s))) (changed s) (h s lt)) in
      omega (arith, linear, none, le)
    where
      low : (b : Bool) (k : ℕ) (z : ℤ) → (b ≡ false → pos 0 ≤ℤ z) → pos 0 ≤ℤ cond b (pos 0) (pos k *ℤ z)
      low true k z h = omega (arith, linear)
      low false k z h = omega (products, mul-leℤ (pos k) (pos 0) z (omega (arith, ints)) (h refl))

  rest-none : ((s : ℕ) → s < 2 ^ n → has_player s i ≡ false → changed s ≡ pos 0) → sum_below (2 ^ n) rest ≡ pos 0
  rest-none h =
      sum_below-zero (2 ^ n) rest
      (λ s lt. none (has_player s i) (orders_with (suc n) (suc (size_below n s))) (changed s) (h s lt))
    where
      none : (b : Bool) (k : ℕ) (z : ℤ) → (b ≡ false → z ≡ pos 0) → cond b (pos 0) (pos k *ℤ z) ≡ pos 0
      none true k z h = refl
      none false k z h = omega (products, ap (◌*ℤ◌ (pos k)) (h refl))

-- ---- several newcomers

factorial-more : (m : ℕ) → pos (factorial (suc m)) ≡ pos (suc m) *ℤ pos (factorial m)
factorial-more m = omega (arith, ints)

module _ (n : ℕ) (v : ℕ → ℤ) (i : ℕ) (hi : i < n) where
  abbrev total : ℕ → ℤ
  total m = shapley_total (game m v) i

  -- what each newcomer changes at what i adds
  abbrev at : ℕ → ℕ → ℤ
  at m s = (v (2 ^ m + s + 2 ^ i) -ℤ v (2 ^ m + s)) -ℤ (v (s + 2 ^ i) -ℤ v s)

  there : (m : ℕ) → n ≤ m → i < m
  there m le = omega (arith, hi, le)

  totals-grow : (m : ℕ) → n ≤ m
      → ((k : ℕ) → n ≤ k → k < m → (s : ℕ) → s < 2 ^ k → has_player s i ≡ false → pos 0 ≤ℤ at k s)
      → (pos (factorial m) *ℤ total n) ≤ℤ (pos (factorial n) *ℤ total m)
  totals-grow zero le h = absurd (omega (arith, hi, le))
  totals-grow (suc m) le h = elim (same_or_other n (suc m)) [
    | inl same ↦
        omega (
          arith,
          linear,
          ap (λ (k : ℕ). pos (factorial (suc m)) *ℤ total k) same,
          ap (λ (k : ℕ). pos (factorial k) *ℤ total (suc m)) same,
        )
    | inr other ↦
        let before : n ≤ m = omega (arith, le, other) in
        let f = pos (factorial n) in
        let low = rest-low m v i (there m before) (h m before (omega arith)) in
        let ih = totals-grow m before (λ k from to. h k from (omega (arith, to))) in
        let first = mul-leℤ (pos (suc m)) (pos (factorial m) *ℤ total n) (f *ℤ total m) (omega (arith, ints)) ih in
        let second = mul-leℤ f (pos (suc m) *ℤ total m) (total (suc m)) (omega (arith, ints))
        (omega (arith, linear, one_more m v i (there m before), low)) in
        omega (sorted_products, first, second, ap (λ (z : ℤ). z *ℤ total n) (factorial-more m))
  ]

  totals-stay : (m : ℕ) → n ≤ m
      → ((k : ℕ) → n ≤ k → k < m → (s : ℕ) → s < 2 ^ k → has_player s i ≡ false → at k s ≡ pos 0)
      → pos (factorial m) *ℤ total n ≡ pos (factorial n) *ℤ total m
  totals-stay zero le h = absurd (omega (arith, hi, le))
  totals-stay (suc m) le h = elim (same_or_other n (suc m)) [
    | inl same ↦
        omega (
          arith,
          linear,
          ap (λ (k : ℕ). pos (factorial (suc m)) *ℤ total k) same,
          ap (λ (k : ℕ). pos (factorial k) *ℤ total (suc m)) same,
        )
    | inr other ↦
        let before : n ≤ m = omega (arith, le, other) in
        let f = pos (factorial n) in
        let none = rest-none m v i (there m before) (h m before (omega arith)) in
        let ih = totals-stay m before (λ k from to. h k from (omega (arith, to))) in
        let first = ap (◌*ℤ◌ (pos (suc m))) ih in
        let same : total (suc m) ≡ pos (suc m) *ℤ total m =
        omega (arith, linear, one_more m v i (there m before), none) in
        let second = ap (◌*ℤ◌ f) same in
        omega (sorted_products, first, second, ap (λ (z : ℤ). z *ℤ total n) (factorial-more m))
  ]

-- ---- shares

-- shares a over p and b over q, whose totals over u and w are t and s
pub shares-le : (a p b q u w t s : ℤ) → pos 0 <ℤ u → pos 0 <ℤ w → pos 0 ≤ℤ p → pos 0 ≤ℤ q → a *ℤ u ≡ p *ℤ t
    → b *ℤ w ≡ q *ℤ s → (w *ℤ t) ≤ℤ (u *ℤ s) → (a *ℤ q) ≤ℤ (b *ℤ p)
shares-le a p b q u w t s hu hw hp hq first second le =
    let low : (w *ℤ a) ≤ℤ (p *ℤ s) =
    mul-le_cancelℤ u (w *ℤ a) (p *ℤ s) hu
    (omega (sorted_products, mul-leℤ p (w *ℤ t) (u *ℤ s) hp le, ap (◌*ℤ◌ w) first)) in
    mul-le_cancelℤ w (a *ℤ q) (b *ℤ p) hw
    (omega (sorted_products, mul-leℤ q (w *ℤ a) (p *ℤ s) hq low, ap (◌*ℤ◌ p) second))

module _ (n : ℕ) (g : Game) (x y : Allocation) (i : ℕ) (le : n ≤ g.players) (h : IsShapley (game n g.worth) x)
    (k : IsShapley g y) (hi : i < n) where
  abbrev now : ℕ
  now = g.players

  within : (m s : ℕ) → m < now → s < 2 ^ m → s < 2 ^ now
  within m s lt hs =
      let grown : 2 ^ m ≤ 2 ^ now = pow_mono (omega (arith, lt)) in
      omega (arith, grown, hs)

  x_positive : pos 0 ≤ℤ x.den
  x_positive = let one = h.0.1 in omega (arith, linear, one)

  y_positive : pos 0 ≤ℤ y.den
  y_positive = let one = k.0.1 in omega (arith, linear, one)

  no_less : (pos (factorial now) *ℤ total n g.worth i hi n) ≤ℤ (pos (factorial n) *ℤ total n g.worth i hi now)
      → (share x i *ℤ y.den) ≤ℤ (share y i *ℤ x.den)
  no_less grow =
      shares-le (share x i) x.den (share y i) y.den (pos (factorial n)) (pos (factorial now))
      (shapley_total (game n g.worth) i) (shapley_total g i) (factorial-positive n) (factorial-positive now)
      x_positive y_positive (h.1 i hi) (k.1 i (omega (arith, hi, le))) grow

  no_more : (pos (factorial n) *ℤ total n g.worth i hi now) ≤ℤ (pos (factorial now) *ℤ total n g.worth i hi n)
      → (share y i *ℤ x.den) ≤ℤ (share x i *ℤ y.den)
  no_more grow =
      shares-le (share y i) y.den (share x i) x.den (pos (factorial now)) (pos (factorial n)) (shapley_total g i)
      (shapley_total (game n g.worth) i) (factorial-positive now) (factorial-positive n) y_positive x_positive
      (k.1 i (omega (arith, hi, le))) (h.1 i hi) grow

  turned : (m s : ℕ) → s + 2 ^ i + 2 ^ m ≡ 2 ^ m + s + 2 ^ i
  turned m s = omega arith

  turned_one : (m s : ℕ) → s + 2 ^ m ≡ 2 ^ m + s
  turned_one m s = omega arith

  adds_more : IsConvex g → (m : ℕ) → n ≤ m → m < now → (s : ℕ) → s < 2 ^ m → has_player s i ≡ false
      → pos 0 ≤ℤ at n g.worth i hi m s
  adds_more convex m from to s lt out =
      let ne : ¬ (i ≡ m) = λ e. omega (arith, hi, from, e) in
      let more = convex s i m
      (within m s to lt, omega (arith, hi, le), to, ne, out, has_player-last m s lt) in
      omega (arith, linear, more, ap g.worth (turned m s), ap g.worth (turned_one m s))

  adds_same : ((j : ℕ) → n ≤ j → j < now → AddsNothing g j) → (m : ℕ) → n ≤ m → m < now → (s : ℕ) → s < 2 ^ m
      → has_player s i ≡ false → at n g.worth i hi m s ≡ pos 0
  adds_same nothing m from to s lt out =
      let grown = more-lt m s i lt (omega (arith, hi, from)) out in
      let first = nothing m from to s (within m s to lt) (has_player-last m s lt) in
      let second =
      nothing m from to (s + 2 ^ i) (within m (s + 2 ^ i) to grown) (has_player-last m (s + 2 ^ i) grown) in
      omega (arith, linear, first, second, ap g.worth (turned m s), ap g.worth (turned_one m s))

pub newcomers_give_nobody_less : NewcomersGiveNobodyLess
newcomers_give_nobody_less n g x y i le convex h k hi =
    no_less n g x y i le h k hi
    (totals-grow n g.worth i hi g.players le (adds_more n g x y i le h k hi convex))

pub who_add_nothing_can_go : WhoAddNothingCanGo
who_add_nothing_can_go n g x y i le nothing h k hi =
    let same = totals-stay n g.worth i hi g.players le (adds_same n g x y i le h k hi nothing) in
    let a = no_less n g x y i le h k hi (omega (arith, linear, same)) in
    let b = no_more n g x y i le h k hi (omega (arith, linear, same)) in
    omega (arith, linear, a, b)
