-- What the Shapley total of i falls by if j adds nothing: at each coalition without both, what j changes at what i
-- adds. That is what i changes at what j adds, so the total of j falls by as much if i adds nothing.
use Rattle.std.proofs.Common.{◌≡◌, ◌≢◌, ℕ, ◌+◌, ◌-◌, ◌^◌, ◌<◌, Bool, true, false, cond, ℤ, pos, ◌+ℤ◌, ◌-ℤ◌, ◌*ℤ◌, ◌<ℤ◌}
use Rattle.std.proofs.Common.{refl, sym, ap, ◌∙◌, arith}
use Rattle.definitions.proofs.Halves.{size_below, size_below-more}
use Rattle.definitions.proofs.Members.{sum_below-same, sum_below-add}
use Rattle.definitions.proofs.Parts.{has_player-more_same, has_player-more_other}
use Rattle.definitions.proofs.Ring.{linear, mul-addℤ, mul-subℤ, mul-cancelℤ, mul_left_commℤ}
use Rattle.definitions.specs.Sums.{sum_below}
use Rattle.definitions.specs.Coalitions.{has_player}
use Rattle.definitions.specs.Games.{Game, share}
use Rattle.definitions.specs.Shapley.{shapley_total, factorial}
use Rattle.shapley.specs.Subsets.{orders_with}
use Rattle.shapley.proofs.Orders.{orders_are_subsets}
use Rattle.law_answers.proofs.ShapleyNoLess.{pair_term, by_pairs}
use Rattle.law_answers.proofs.SharesAddToAll.{factorial-positive}
use Rattle.theorems.proofs.Products.{sorted_products}
use Rattle.law_answers.specs.Newcomers.{without_player, ContributionsAreBalanced}

-- what j changes at what i adds to s
abbrev crossed : (ℕ → ℤ) → ℕ → ℕ → ℕ → ℤ
crossed v i j s = (v (s + 2 ^ i + 2 ^ j) -ℤ v (s + 2 ^ j)) -ℤ (v (s + 2 ^ i) -ℤ v s)

abbrev cross : (ℕ → ℤ) → ℕ → ℕ → ℕ → ℕ → ℤ
cross v n i j s =
    cond (has_player s j) (pos 0)
    (cond (has_player s i) (pos 0) (pos (orders_with n (size_below n s + 1)) *ℤ crossed v i j s))

cross-turned : (v : ℕ → ℤ) (n i j s : ℕ) → cross v n i j s ≡ cross v n j i s
cross-turned v n i j s =
    by_test (has_player s i) (has_player s j) _ _
    (ap (◌*ℤ◌ (pos (orders_with n (size_below n s + 1)))) same)
  where
    same : crossed v i j s ≡ crossed v j i s
    same =
        let turned : s + 2 ^ i + 2 ^ j ≡ s + 2 ^ j + 2 ^ i = omega arith in
        omega (arith, linear, ap v turned)

    by_test : (b c : Bool) (p q : ℤ) → p ≡ q → cond c (pos 0) (cond b (pos 0) p) ≡ cond b (pos 0) (cond c (pos 0) q)
    by_test true true p q e = refl
    by_test true false p q e = refl
    by_test false true p q e = refl
    by_test false false p q e = e

module _ (g : Game) (i j : ℕ) (hi : i < g.players) (hj : j < g.players) (ne : i ≢ j) where
  abbrev n : ℕ
  n = g.players

  abbrev v : ℕ → ℤ
  v = g.worth

  abbrev w : ℕ → ℤ
  w = (without_player j g).worth

  -- nothing is lost without j, and with j what it brings
  stays : (s : ℕ) → has_player s j ≡ false → w s ≡ v s
  stays s out = ap (λ (b : Bool). cond b (v (s - 2 ^ j)) (v s)) out

  loses : (s : ℕ) → has_player s j ≡ false → w (s + 2 ^ j) ≡ v s
  loses s out =
      let back : s + 2 ^ j - 2 ^ j ≡ s = omega arith in
      ap (λ (b : Bool). cond b (v (s + 2 ^ j - 2 ^ j)) (v (s + 2 ^ j))) (has_player-more_same s j out) ∙ ap v back

  one_term : (s : ℕ) → has_player s i ≡ false → has_player s j ≡ false
      → pos (orders_with n (size_below n s)) *ℤ (v (s + 2 ^ i) -ℤ v s)
      +ℤ pos (orders_with n (size_below n (s + 2 ^ j))) *ℤ (v (s + 2 ^ j + 2 ^ i) -ℤ v (s + 2 ^ j))
      ≡ (pos (orders_with n (size_below n s)) *ℤ (w (s + 2 ^ i) -ℤ w s)
      +ℤ pos (orders_with n (size_below n (s + 2 ^ j))) *ℤ (w (s + 2 ^ j + 2 ^ i) -ℤ w (s + 2 ^ j)))
      +ℤ pos (orders_with n (size_below n s + 1)) *ℤ crossed v i j s
  one_term s out_i out_j =
      let k = pos (orders_with n (size_below n s)) in
      let l = pos (orders_with n (size_below n (s + 2 ^ j))) in
      let m = pos (orders_with n (size_below n s + 1)) in
      let out = has_player-more_other s i j out_i (λ e. ne (sym e)) ∙ out_j in
      let turned : s + 2 ^ j + 2 ^ i ≡ s + 2 ^ i + 2 ^ j = omega arith in
      let first = ap (λ (z : ℤ). k *ℤ (z -ℤ w s)) (stays (s + 2 ^ i) out)
      ∙ ap (λ (z : ℤ). k *ℤ (v (s + 2 ^ i) -ℤ z)) (stays s out_j) in
      let second = ap (λ (z : ℤ). l *ℤ (z -ℤ w (s + 2 ^ j))) (ap w turned ∙ loses (s + 2 ^ i) out)
      ∙ ap (λ (z : ℤ). l *ℤ (v (s + 2 ^ i) -ℤ z)) (loses s out_j) in
      let third = ap (λ (t : ℕ). l *ℤ (v t -ℤ v (s + 2 ^ j))) turned in
      let counted : size_below n (s + 2 ^ j) ≡ size_below n s + 1 = omega (arith, size_below-more n j s hj out_j) in
      let fourth = ap (λ (t : ℕ). pos (orders_with n t) *ℤ crossed v i j s) counted in
      omega (
        arith,
        linear,
        first,
        second,
        third,
        fourth,
        mul-subℤ l (v (s + 2 ^ i + 2 ^ j) -ℤ v (s + 2 ^ j)) (v (s + 2 ^ i) -ℤ v s),
      )

  each : (s : ℕ) → s < 2 ^ n → pair_term v n i j s ≡ pair_term w n i j s +ℤ cross v n i j s
  each s lt =
      by_test (has_player s i) (has_player s j) (has_player (s + 2 ^ j) i) _ _ _ _ _
      (λ out. has_player-more_other s j i out ne) refl refl (one_term s)
    where
      by_test : (b c p : Bool) (a d e f r : ℤ) → (c ≡ false → p ≡ b) → has_player s i ≡ b → has_player s j ≡ c
          → (has_player s i ≡ false → has_player s j ≡ false → a +ℤ d ≡ (e +ℤ f) +ℤ r)
          → cond c (pos 0) (cond b (pos 0) a +ℤ cond p (pos 0) d)
          ≡ cond c (pos 0) (cond b (pos 0) e +ℤ cond p (pos 0) f) +ℤ cond c (pos 0) (cond b (pos 0) r)
      by_test b c p a d e f r h one two same = grind (arith, linear)

  pub total_falls : shapley_total g i
      ≡ shapley_total (without_player j g) i +ℤ sum_below (2 ^ n) (cross v n i j)
  total_falls =
      let a = orders_are_subsets g i hi ∙ by_pairs v n i j hj in
      let b = orders_are_subsets (without_player j g) i hi ∙ by_pairs w n i j hj in
      let parts = sum_below-same (2 ^ n) (pair_term v n i j) (λ s. pair_term w n i j s +ℤ cross v n i j s) each in
      let sum = sum_below-add (2 ^ n) (pair_term w n i j) (cross v n i j) in
      omega (arith, linear, a, b, parts, sum)

-- the total of j falls by as much if i adds nothing
pub totals-fall_alike : (g : Game) (i j : ℕ) → i < g.players → j < g.players → i ≢ j
    → shapley_total g i -ℤ shapley_total (without_player j g) i
    ≡ shapley_total g j -ℤ shapley_total (without_player i g) j
totals-fall_alike g i j hi hj ne =
    let turned = sum_below-same (2 ^ g.players) (cross g.worth g.players j i) (cross g.worth g.players i j)
    (λ s lt. cross-turned g.worth g.players j i s) in
    omega (arith, linear, total_falls g i j hi hj ne, total_falls g j i hj hi (λ e. ne (sym e)), turned)

-- shares a over p and b over q of totals t and s, of which the first is more by d
lost : (a p b q f t s d : ℤ) → a *ℤ f ≡ p *ℤ t → b *ℤ f ≡ q *ℤ s → t ≡ s +ℤ d
    → f *ℤ (a *ℤ q -ℤ b *ℤ p) ≡ p *ℤ (q *ℤ d)
lost a p b q f t s d first second more =
    let split = ap (λ (z : ℤ). q *ℤ (p *ℤ z)) more ∙ ap (◌*ℤ◌ q) (mul-addℤ p s d) ∙ mul-addℤ q (p *ℤ s) (p *ℤ d) in
    omega (
      sorted_products,
      mul-subℤ f (a *ℤ q) (b *ℤ p),
      ap (◌*ℤ◌ q) first,
      ap (◌*ℤ◌ p) second,
      split,
    )

same_loss : (f a b p q r d : ℤ) → pos 0 <ℤ f → f *ℤ a ≡ p *ℤ (q *ℤ d) → f *ℤ b ≡ p *ℤ (r *ℤ d) → a *ℤ r ≡ b *ℤ q
same_loss f a b p q r d some first second =
    let turned : r *ℤ (p *ℤ (q *ℤ d)) ≡ q *ℤ (p *ℤ (r *ℤ d)) =
    mul_left_commℤ r p (q *ℤ d) ∙ ap (◌*ℤ◌ p) (mul_left_commℤ r q d) ∙ sym (mul_left_commℤ q p (r *ℤ d)) in
    mul-cancelℤ f (a *ℤ r) (b *ℤ q) some
    (omega (sorted_products, ap (◌*ℤ◌ r) first, ap (◌*ℤ◌ q) second, turned))

pub contributions_are_balanced : ContributionsAreBalanced
contributions_are_balanced g x y z i j hi hj ne h k l =
    let f = pos (factorial g.players) in
    let d = sum_below (2 ^ g.players) (cross g.worth g.players i j) in
    let turned = sum_below-same (2 ^ g.players) (cross g.worth g.players j i) (cross g.worth g.players i j)
    (λ s lt. cross-turned g.worth g.players j i s) in
    let other = total_falls g j i hj hi (λ e. ne (sym e)) in
    let one = lost (share x i) x.den (share y i) y.den f (shapley_total g i)
    (shapley_total (without_player j g) i) d (h.1 i hi) (k.1 i hi) (total_falls g i j hi hj ne) in
    let two = lost (share x j) x.den (share z j) z.den f (shapley_total g j)
    (shapley_total (without_player i g) j) d (h.1 j hj) (l.1 j hj) (omega (arith, linear, other, turned)) in
    same_loss f (share x i *ℤ y.den -ℤ share y i *ℤ x.den) (share x j *ℤ z.den -ℤ share z j *ℤ x.den) x.den y.den
    z.den d (factorial-positive g.players) one two
