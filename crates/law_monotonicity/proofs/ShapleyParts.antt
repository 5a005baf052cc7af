-- In the game in which all together are worth d and each other coalition nothing, all players are alike. So in the sum
-- with it each of n players has an n-th of d more.
use Rattle.std.proofs.Common.{◌≡◌, ◌≢◌, ℕ, ◌+◌, ◌^◌, ◌<◌, false, ℤ, pos, ◌+ℤ◌, ◌-ℤ◌, ◌*ℤ◌, ◌<ℤ◌, refl, sym}
use Rattle.std.proofs.Common.{ap, subst, ◌∙◌, inl, inr, arith}
use Rattle.std.proofs.lemmas.Bool.{false≢true}
use Rattle.std.proofs.Math.Pow.{pow_pos}
use Rattle.definitions.proofs.Cases.{same_or_other}
use Rattle.definitions.proofs.Members.{has_player-empty, has_player-grand_coalition, sum_below-same}
use Rattle.definitions.proofs.Parts.{has_player-more_other, more-lt}
use Rattle.definitions.proofs.Ring.{ring_laws, linear, mul-cancelℤ, mul_assocℤ}
use Rattle.definitions.specs.Coalitions.{has_player, grand_coalition}
use Rattle.definitions.specs.Games.{Game, share}
use Rattle.definitions.specs.Players.{AreInterchangeable}
use Rattle.definitions.specs.Shapley.{total_over, orders, shapley_total, factorial, IsShapley}
use Rattle.shapley.proofs.Steps.{sum_below-constant}
use Rattle.law_answers.proofs.SharesAddToAll.{factorial-positive, sum-totals}
use Rattle.law_answers.proofs.ShapleyNoLess.{totals-alike}
use Rattle.law_answers.proofs.TotalsAdd.{totals}
use Rattle.law_monotonicity.specs.Growth.{ShapleyEachGetsAnEqualPart}
use Rattle.law_monotonicity.proofs.Worths.{game}

module _ (n : ℕ) (v w : ℕ → ℤ) (d : ℤ) (whole : w (grand_coalition n) ≡ v (grand_coalition n) +ℤ d)
    (others : (s : ℕ) → s < 2 ^ n → s ≢ grand_coalition n → w s ≡ v s) where
  -- what each coalition is worth more
  abbrev gain : Game
  gain = game n (λ s. w s -ℤ v s)

  gain-none : (s : ℕ) → s < 2 ^ n → s ≢ grand_coalition n → gain.worth s ≡ pos 0
  gain-none s lt ne = let same = others s lt ne in omega (arith, linear, same)

  -- who lacks a player isn't all
  not_all : (s j : ℕ) → j < n → has_player s j ≡ false → s ≢ grand_coalition n
  not_all s j lt out e = false≢true (sym out ∙ ap (λ (t : ℕ). has_player t j) e ∙ has_player-grand_coalition n j lt)

  gain-alike : (i j : ℕ) → i < n → j < n → AreInterchangeable gain i j
  gain-alike i j hi hj s lt out_i out_j = elim (same_or_other i j) [
    | inl same ↦ ap (λ (k : ℕ). gain.worth (s + 2 ^ k)) same
    | inr ne ↦
        gain-none (s + 2 ^ i) (more-lt n s i lt hi out_i)
        (not_all (s + 2 ^ i) j hj (has_player-more_other s i j out_i (λ e. ne (sym e)) ∙ out_j))
        ∙ sym
        (gain-none (s + 2 ^ j) (more-lt n s j lt hj out_j)
        (not_all (s + 2 ^ j) i hi (has_player-more_other s j i out_j ne ∙ out_i)))
  ]

  -- n times a player's total is n! times d
  gain-total : (i : ℕ) → i < n → pos n *ℤ shapley_total gain i ≡ pos (factorial n) *ℤ d
  gain-total i lt =
      sym (sum_below-constant n (shapley_total gain i))
      ∙ sum_below-same n (λ k. shapley_total gain i) (shapley_total gain)
      (λ k hk. totals-alike gain i k lt hk (gain-alike i k lt hk))
      ∙ sum-totals gain
      ∙ ap (◌*ℤ◌ (pos (factorial n))) all_gain
    where
      all_gain : gain.worth (grand_coalition n) -ℤ gain.worth 0 ≡ d
      all_gain =
          omega
          (arith, linear, whole, gain-none 0 (pow_pos n) (not_all 0 i lt (has_player-empty i)))

  total-more : (i : ℕ) → shapley_total (game n w) i ≡ shapley_total (game n v) i +ℤ shapley_total gain i
  total-more i =
      ap (λ (u : ℕ → ℤ). total_over u i (orders n)) (λ k s. back (w s) (v s) k)
      ∙ totals (game n v) gain i refl
    where
      back : (y z : ℤ) → y ≡ z +ℤ (y -ℤ z)
      back y z = omega (arith, linear)

-- ---- the shares

equal_part : (f n a b p q d t u : ℤ) → pos 0 <ℤ f → a *ℤ f ≡ p *ℤ u → b *ℤ f ≡ q *ℤ (u +ℤ t) → n *ℤ t ≡ f *ℤ d
    → n *ℤ (b *ℤ p -ℤ a *ℤ q) ≡ d *ℤ (p *ℤ q)
equal_part f n a b p q d t u some ha hb ht =
    mul-cancelℤ f (n *ℤ (b *ℤ p -ℤ a *ℤ q)) (d *ℤ (p *ℤ q)) some
    (turn
    ∙ ap (λ (z : ℤ). n *ℤ (p *ℤ z -ℤ q *ℤ (a *ℤ f))) hb
    ∙ ap (λ (z : ℤ). n *ℤ (p *ℤ (q *ℤ (u +ℤ t)) -ℤ q *ℤ z)) ha
    ∙ ap (◌*ℤ◌ n) rest
    ∙ sym (mul_assocℤ n t (p *ℤ q))
    ∙ ap (λ (z : ℤ). z *ℤ (p *ℤ q)) ht
    ∙ mul_assocℤ f d (p *ℤ q))
  where
    turn : f *ℤ (n *ℤ (b *ℤ p -ℤ a *ℤ q)) ≡ n *ℤ (p *ℤ (b *ℤ f) -ℤ q *ℤ (a *ℤ f))
    turn = simp ring_laws

    rest : p *ℤ (q *ℤ (u +ℤ t)) -ℤ q *ℤ (p *ℤ u) ≡ t *ℤ (p *ℤ q)
    rest =
        let e : p *ℤ (q *ℤ (u +ℤ t)) ≡ q *ℤ (p *ℤ u) +ℤ t *ℤ (p *ℤ q) = simp ring_laws in
        omega (arith, linear, e)

pub shapley_parts : ShapleyEachGetsAnEqualPart
shapley_parts d g h x y i grows hx hy lt =
    let n = g.players in
    let hy_n = subst (λ (m : ℕ). IsShapley (game m h.worth) y) grows.players hy in
    let more = total-more n g.worth h.worth d grows.more grows.others i in
    equal_part (pos (factorial n)) (pos n) (share x i) (share y i) x.den y.den d _ _ (factorial-positive n)
    (hx.1 i lt) (hy_n.1 i lt ∙ ap (◌*ℤ◌ y.den) more)
    (gain-total n g.worth h.worth d grows.more grows.others i lt)
