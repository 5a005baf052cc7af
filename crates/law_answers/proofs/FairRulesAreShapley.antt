-- A rule with the four properties gives the Shapley value (Shapley 1953): a game is a sum of games in which only
-- one coalition counts, and such a game leaves it no choice.
--
-- By masks from the greatest down: worths that are 0 below k are the sum of two games. In the first a coalition is
-- worth v(k) if it holds all of k; there the players of k are alike and the others add nothing. In the second all
-- worths are 0 below k + 1.
use Rattle.std.proofs.Common.{◌≡◌, ◌↔◌, ℕ, zero, suc, ◌+◌, ◌-◌, ◌^◌, ◌<◌, ◌≤◌, Bool, true, false, cond, ℤ, pos, ◌+ℤ◌}
use Rattle.std.proofs.Common.{◌-ℤ◌, ◌*ℤ◌, ◌<ℤ◌, refl, sym, ap, subst, ◌∙◌, inl, inr, arith}
use lib.IntN.{*ℤ_comm}
use Rattle.definitions.proofs.Cases.{same_or_other}
use Rattle.definitions.proofs.Halves.{size_below}
use Rattle.definitions.proofs.Masks.{grand_coalition-within}
use Rattle.definitions.proofs.Members.{sum_below-same, sum_below-add, sum_below-times}
use Rattle.definitions.proofs.Parts.{has_player-more_other, more-lt}
use Rattle.definitions.proofs.Ring.{ring_laws, linear, mul-cancelℤ, mul-addℤ, mul-zeroℤ, mul_left_commℤ, mul-positiveℤ}
use Rattle.definitions.specs.Sums.{sum_below}
use Rattle.definitions.specs.Coalitions.{has_player, grand_coalition}
use Rattle.definitions.specs.Games.{Game, Allocation, share}
use Rattle.definitions.specs.Shapley.{total_over, orders, shapley_total, factorial, IsShapley}
use Rattle.definitions.specs.Players.{AddsNothing, AreInterchangeable}
use Rattle.law_answers.specs.FairRules.{IsGameOf, IsSum, HasSum, IsFairRule}
use Rattle.shapley.specs.Subsets.{orders_with, subset_term}
use Rattle.law_answers.proofs.ShapleyNoLess.{totals-alike, alike_get_alike}
use Rattle.law_answers.proofs.ShapleyDummies.{null-total, nothing_gets_nothing}
use Rattle.law_answers.proofs.SharesAddToAll.{amount-all, efficient, factorial-positive, sum-totals}
use Rattle.shapley.proofs.Orders.{orders_are_subsets}
use Rattle.law_answers.proofs.LevelledSums.{IsLevelled, all_same}
use Rattle.law_answers.proofs.UnanimityGames.{carried, misses-member, misses-outside, misses-less, below_next}
use Rattle.theorems.proofs.Products.{products}

-- the game of n players and these worths
abbrev game : ℕ → (ℕ → ℤ) → Game
game n v = record { players = n; worth = v }

-- ---- sums of games

-- only the worths of coalitions count
totals-sum : (n i : ℕ) (u w v : ℕ → ℤ) → i < n → ((s : ℕ) → s < 2 ^ n → v s ≡ u s +ℤ w s)
    → total_over v i (orders n) ≡ total_over u i (orders n) +ℤ total_over w i (orders n)
totals-sum n i u w v lt sum =
    let a = orders_are_subsets (game n u) i lt in
    let b = orders_are_subsets (game n w) i lt in
    let c = orders_are_subsets (game n v) i lt in
    let same = sum_below-same (2 ^ n) (subset_term v n i) (λ s. subset_term u n i s +ℤ subset_term w n i s)
    (λ s h. at s h (has_player s i) refl) in
    omega (arith, linear, a, b, c, same, sum_below-add (2 ^ n) (subset_term u n i) (subset_term w n i))
  where
    at : (s : ℕ) → s < 2 ^ n → (b : Bool) → has_player s i ≡ b
        → cond b (pos 0) (pos (orders_with n (size_below n s)) *ℤ (v (s + 2 ^ i) -ℤ v s))
        ≡ cond b (pos 0) (pos (orders_with n (size_below n s)) *ℤ (u (s + 2 ^ i) -ℤ u s))
        +ℤ cond b (pos 0) (pos (orders_with n (size_below n s)) *ℤ (w (s + 2 ^ i) -ℤ w s))
    at s h true e = refl
    at s h false e =
        let k = pos (orders_with n (size_below n s)) in
        let split : v (s + 2 ^ i) -ℤ v s ≡ (u (s + 2 ^ i) -ℤ u s) +ℤ (w (s + 2 ^ i) -ℤ w s) =
        omega (arith, linear, sum s h, sum (s + 2 ^ i) (more-lt n s i h lt e)) in
        ap (◌*ℤ◌ k) split ∙ mul-addℤ k (u (s + 2 ^ i) -ℤ u s) (w (s + 2 ^ i) -ℤ w s)

-- shares a and b over their denominators d and e, whose totals are t and r
joined : (f g a b d e t r w : ℤ) → a *ℤ f ≡ d *ℤ t → b *ℤ f ≡ e *ℤ r → w ≡ t +ℤ r
    → f *ℤ (g *ℤ (a *ℤ e +ℤ b *ℤ d)) ≡ (g *ℤ w) *ℤ (d *ℤ e)
joined f g a b d e t r w h k same =
    turn
    ∙ ap (λ (z : ℤ). g *ℤ (z *ℤ e +ℤ (b *ℤ f) *ℤ d)) h
    ∙ ap (λ (z : ℤ). g *ℤ ((d *ℤ t) *ℤ e +ℤ z *ℤ d)) k
    ∙ back
    ∙ ap (λ (z : ℤ). (g *ℤ z) *ℤ (d *ℤ e)) (sym same)
  where
    turn : f *ℤ (g *ℤ (a *ℤ e +ℤ b *ℤ d)) ≡ g *ℤ ((a *ℤ f) *ℤ e +ℤ (b *ℤ f) *ℤ d)
    turn = simp ring_laws

    back : g *ℤ ((d *ℤ t) *ℤ e +ℤ (e *ℤ r) *ℤ d) ≡ (g *ℤ (t +ℤ r)) *ℤ (d *ℤ e)
    back = simp ring_laws

-- the sum of shares has the sum of the totals
sum_up : (f g a b c d e t r w : ℤ) → pos 0 <ℤ d → pos 0 <ℤ e → a *ℤ f ≡ d *ℤ t → b *ℤ f ≡ e *ℤ r → w ≡ t +ℤ r
    → c *ℤ (d *ℤ e) ≡ g *ℤ (a *ℤ e +ℤ b *ℤ d) → c *ℤ f ≡ g *ℤ w
sum_up f g a b c d e t r w hd he h k same sum =
    mul-cancelℤ (d *ℤ e) (c *ℤ f) (g *ℤ w) (mul-positiveℤ d e hd he)
    (first ∙ ap (◌*ℤ◌ f) sum ∙ joined f g a b d e t r w h k same ∙ *ℤ_comm (g *ℤ w) (d *ℤ e))
  where
    first : (d *ℤ e) *ℤ (c *ℤ f) ≡ f *ℤ (c *ℤ (d *ℤ e))
    first = simp ring_laws

-- and the other way round
sum_down : (f g a b c d e t r w : ℤ) → pos 0 <ℤ f → a *ℤ f ≡ d *ℤ t → b *ℤ f ≡ e *ℤ r → w ≡ t +ℤ r → c *ℤ f ≡ g *ℤ w
    → c *ℤ (d *ℤ e) ≡ g *ℤ (a *ℤ e +ℤ b *ℤ d)
sum_down f g a b c d e t r w some h k same total =
    mul-cancelℤ f (c *ℤ (d *ℤ e)) (g *ℤ (a *ℤ e +ℤ b *ℤ d)) some
    (first ∙ ap (λ (z : ℤ). z *ℤ (d *ℤ e)) total ∙ sym (joined f g a b d e t r w h k same))
  where
    first : f *ℤ (c *ℤ (d *ℤ e)) ≡ (c *ℤ f) *ℤ (d *ℤ e)
    first = simp ring_laws

-- ---- a fair rule

module _ (n : ℕ) (rule : Game → Allocation) (fair : IsFairRule n rule) where
  abbrev f : ℤ
  f = pos (factorial n)

  -- the rule gives these worths the Shapley value
  abbrev Gives : (ℕ → ℤ) → Type 0
  Gives v = (i : ℕ) → i < n → share (rule (game n v)) i *ℤ f ≡ (rule (game n v)).den *ℤ total_over v i (orders n)

  gives-nothing : (v : ℕ → ℤ) → v 0 ≡ pos 0 → ((s : ℕ) → s < 2 ^ n → v s ≡ pos 0) → Gives v
  gives-nothing v nobody none i lt =
      let adds : AddsNothing (game n v) i = λ s h out. none (s + 2 ^ i) (more-lt n s i h lt out) ∙ sym (none s h) in
      let x = rule (game n v) in
      ap (λ (z : ℤ). z *ℤ f) (fair.nothing (game n v) i (refl, nobody) lt adds)
      ∙ *ℤ_comm (pos 0) f
      ∙ mul-zeroℤ f
      ∙ sym (mul-zeroℤ x.den)
      ∙ ap (◌*ℤ◌ x.den) (sym (null-total (game n v) i lt adds))

  carried-alike : (k : ℕ) (c : ℤ) (i j : ℕ) → i < n → j < n → has_player k i ≡ true → has_player k j ≡ true
      → AreInterchangeable (game n (carried n k c)) i j
  carried-alike k c i j hi hj ki kj s lt si sj = elim (same_or_other i j) [
    | inl same ↦ ap (λ (h : ℕ). carried n k c (s + 2 ^ h)) same
    | inr ne ↦
        let one = misses-member n k (s + 2 ^ i) j hj kj (has_player-more_other s i j si (λ e. ne (sym e)) ∙ sj) in
        let two = misses-member n k (s + 2 ^ j) i hi ki (has_player-more_other s j i sj ne ∙ si) in
        ap (λ (b : Bool). cond b (pos 0) c) (one ∙ sym two)
  ]

  carried-nothing : (k : ℕ) (c : ℤ) (i : ℕ) → has_player k i ≡ false → AddsNothing (game n (carried n k c)) i
  carried-nothing k c i ki s lt si = ap (λ (b : Bool). cond b (pos 0) c) (misses-outside n k s i ki si)

  carried-nobody : (k : ℕ) (c : ℤ) → 1 ≤ k → k < 2 ^ n → carried n k c 0 ≡ pos 0
  carried-nobody k c some lt = ap (λ (b : Bool). cond b (pos 0) c) (misses-less n k 0 lt (omega (arith, some)))

  gives-carried : (k : ℕ) (c : ℤ) → 1 ≤ k → k < 2 ^ n → Gives (carried n k c)
  gives-carried k c some small i lt =
      *ℤ_comm (share x i) f ∙ all_same n (has_player k) a b outside left right sums i lt
    where
      g : Game
      g = game n (carried n k c)

      x : Allocation
      x = rule g

      a : ℕ → ℤ
      a j = f *ℤ share x j

      b : ℕ → ℤ
      b j = x.den *ℤ total_over (carried n k c) j (orders n)

      ok : IsGameOf n g
      ok = (refl, carried-nobody k c some small)

      outside : (j : ℕ) → j < n → has_player k j ≡ false → a j ≡ b j
      outside j h out =
          let adds = carried-nothing k c j out in
          omega (products, ap (◌*ℤ◌ f) (fair.nothing g j ok h adds), ap (◌*ℤ◌ x.den) (sym (null-total g j h adds)))

      left : IsLevelled n (has_player k) a
      left j l hj hl kj kl = ap (◌*ℤ◌ f) (fair.alike g j l ok hj hl (carried-alike k c j l hj hl kj kl))

      right : IsLevelled n (has_player k) b
      right j l hj hl kj kl = ap (◌*ℤ◌ x.den) (totals-alike g j l hj hl (carried-alike k c j l hj hl kj kl))

      sums : sum_below n a ≡ sum_below n b
      sums =
          let w = carried n k c (grand_coalition n) in
          let nobody : w -ℤ carried n k c 0 ≡ w = omega (arith, linear, ok.1) in
          sum_below-times n (share x) f
          ∙ ap (◌*ℤ◌ f) (sym (amount-all g x (fair.shares g ok).0) ∙ fair.efficient g ok)
          ∙ mul_left_commℤ f x.den w
          ∙ ap (λ (z : ℤ). x.den *ℤ (f *ℤ z)) (sym nobody)
          ∙ ap (◌*ℤ◌ x.den) (sym (sum-totals g))
          ∙ sym (sum_below-times n (shapley_total g) x.den)

  positive : (g : Game) → IsGameOf n g → pos 0 <ℤ (rule g).den
  positive g ok = let some = (fair.shares g ok).1 in omega (arith, linear, some)

  -- worths that are 0 below k: the worth of k is taken off
  gives-from : (d k : ℕ) → k + d ≡ 2 ^ n → 1 ≤ k → (v : ℕ → ℤ) → ((s : ℕ) → s < k → v s ≡ pos 0) → Gives v
  gives-from zero k e some v none i lt =
      let end : k ≡ 2 ^ n = omega (arith, e) in
      gives-nothing v (none 0 (omega (arith, some))) (λ s h. none s (omega (arith, h, end))) i lt
  gives-from (suc d) k e some v none i lt =
      let u = carried n k (v k) in
      let w = λ (s : ℕ). v s -ℤ u s in
      let small : k < 2 ^ n = omega (arith, e) in
      let less = below_next n k v none small in
      let nobody = none 0 (omega (arith, some)) in
      let one = gives-carried k (v k) some small i lt in
      let two = gives-from d (suc k) (omega (arith, e)) (omega arith) w less i lt in
      let u_ok : IsGameOf n (game n u) = (refl, carried-nobody k (v k) some small) in
      let w_ok : IsGameOf n (game n w) = (refl, less 0 (omega arith)) in
      let v_ok : IsGameOf n (game n v) = (refl, nobody) in
      let sum = λ (s : ℕ) (h : s < 2 ^ n). back (v s) (u s) in
      sum_up f _ _ _ _ _ _ _ _ _ (positive (game n u) u_ok) (positive (game n w) w_ok) one two
      (totals-sum n i u w v lt sum) (fair.additive (game n u) (game n w) (game n v) i u_ok w_ok v_ok sum lt)
    where
      back : (y z : ℤ) → y ≡ z +ℤ (y -ℤ z)
      back y z = omega (arith, linear)

  pub gives : (v : ℕ → ℤ) → v 0 ≡ pos 0 → IsShapley (game n v) (rule (game n v))
  gives v nobody = (
    fair.shares (game n v) (refl, nobody),
    gives-from (2 ^ n - 1) 1 (omega (arith, power n)) (omega arith) v
        (λ s lt. let none : s ≡ 0 = omega arith in ap v none ∙ nobody),
  )
    where
      power : (n : ℕ) → 1 ≤ 2 ^ n
      power n = let within = grand_coalition-within n in omega (arith, within)

-- ---- both ways

only : (n : ℕ) (rule : Game → Allocation) → IsFairRule n rule → (g : Game) → IsGameOf n g → IsShapley g (rule g)
only n rule fair g ok = gives g.players rule (subst (λ (m : ℕ). IsFairRule m rule) (sym ok.0) fair) g.worth ok.1

shapley_is_fair : (n : ℕ) (rule : Game → Allocation) → ((g : Game) → IsGameOf n g → IsShapley g (rule g))
    → IsFairRule n rule
shapley_is_fair n rule h = record {
  shares = λ g ok. (h g ok).0;
  efficient = λ g ok. efficient g (rule g) ok.1 (h g ok);
  alike = λ g i j ok hi hj same. alike_get_alike g (rule g) i j (h g ok) (omega (arith, hi, ok.0))
      (omega (arith, hj, ok.0)) same;
  nothing = λ g i ok hi adds. nothing_gets_nothing g (rule g) i (h g ok) (omega (arith, hi, ok.0)) adds;
  additive = λ a b g i oka okb okg sum lt. added a b g i oka okb okg sum lt;
}
  where
    at : (g : Game) (i : ℕ) (ok : IsGameOf n g) → i < n
        → share (rule g) i *ℤ pos (factorial n) ≡ (rule g).den *ℤ total_over g.worth i (orders n)
    at g i ok lt =
        ap (λ (m : ℕ). share (rule g) i *ℤ pos (factorial m)) (sym ok.0)
        ∙ (h g ok).1 i (omega (arith, lt, ok.0))
        ∙ ap (λ (m : ℕ). (rule g).den *ℤ total_over g.worth i (orders m)) ok.0

    added : (a b g : Game) (i : ℕ) → IsGameOf n a → IsGameOf n b → IsGameOf n g → IsSum a b g → i < n
        → HasSum (rule a) (rule b) (rule g) i
    added a b g i oka okb okg sum lt =
        sum_down (pos (factorial n)) _ _ _ _ _ _ _ _ _ (factorial-positive n) (at a i oka lt) (at b i okb lt)
        (totals-sum n i a.worth b.worth g.worth lt
        (λ s small. sum s (subst (λ (m : ℕ). s < 2 ^ m) (sym okg.0) small))) (at g i okg lt)

pub fair_is_shapley : (n : ℕ) (rule : Game → Allocation)
    → IsFairRule n rule ↔ ((g : Game) → IsGameOf n g → IsShapley g (rule g))
fair_is_shapley n rule = (only n rule, shapley_is_fair n rule)
