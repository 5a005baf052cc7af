-- A rule that is efficient, symmetric and strongly monotonic gives the Shapley value (Young 1985): by the number of
-- terms of the game. A player outside a term gets what it gets without that term; players in all terms are alike.
use Rattle.std.proofs.Common.{◌≡◌, ℕ, zero, suc, ◌+◌, ◌^◌, ◌<◌, ◌≤◌, true, false, List, length, ℤ, pos, ◌-ℤ◌, ◌*ℤ◌}
use Rattle.std.proofs.Common.{◌<ℤ◌, refl, sym, ap, subst, ◌∙◌, inl, inr, arith}
use lib.IntN.{*ℤ_comm}
use Rattle.std.specs.List.{AllByRecursion}
use Rattle.definitions.proofs.Cases.{same_or_other}
use Rattle.definitions.proofs.Members.{sum_below-times}
use Rattle.definitions.proofs.Parts.{more-lt}
use Rattle.definitions.proofs.Ring.{ring_laws, linear, mul-cancelℤ, mul_left_commℤ}
use Rattle.definitions.specs.Sums.{sum_below}
use Rattle.definitions.specs.Coalitions.{has_player, grand_coalition}
use Rattle.definitions.specs.Games.{Game, Allocation, share}
use Rattle.definitions.specs.Players.{AreInterchangeable}
use Rattle.definitions.specs.Shapley.{total_over, orders, shapley_total, factorial, IsShapley}
use Rattle.law_answers.specs.FairRules.{IsGameOf}
use Rattle.law_answers.proofs.SharesAddToAll.{amount-all, efficient, sum-totals}
use Rattle.law_answers.proofs.ShapleyNoLess.{totals-alike, alike_get_alike}
use Rattle.law_monotonicity.specs.Additions.{IsMonotonicRule, MonotonicRulesAreShapley}
use Rattle.law_answers.proofs.LevelledSums.{IsLevelled, all_same}
use Rattle.law_monotonicity.proofs.Terms.{IsTerm, value, value-nobody, held, held-all, each_holds, held-fewer}
use Rattle.law_monotonicity.proofs.Terms.{held-adds}
use Rattle.law_monotonicity.proofs.Terms.{both_held-alike, terms_of}
use Rattle.law_monotonicity.proofs.WhoAddsMoreGetsNoLess.{totals-no_less, adds_more_gets_no_less}
use Rattle.law_monotonicity.proofs.Worths.{game}

-- a share a over p, whose total is t, is a share b over q
carried_over : (f a b p q t : ℤ) → pos 0 <ℤ q → a *ℤ q ≡ b *ℤ p → b *ℤ f ≡ q *ℤ t → a *ℤ f ≡ p *ℤ t
carried_over f a b p q t some same total =
    let left : q *ℤ (a *ℤ f) ≡ f *ℤ (a *ℤ q) = simp ring_laws in
    let middle : f *ℤ (b *ℤ p) ≡ p *ℤ (b *ℤ f) = simp ring_laws in
    let right : p *ℤ (q *ℤ t) ≡ q *ℤ (p *ℤ t) = simp ring_laws in
    mul-cancelℤ q (a *ℤ f) (p *ℤ t) some
    (left ∙ ap (◌*ℤ◌ f) same ∙ middle ∙ ap (◌*ℤ◌ p) total ∙ right)

module _ (n : ℕ) (rule : Game → Allocation) (fair : IsMonotonicRule n rule) where
  abbrev f : ℤ
  f = pos (factorial n)

  -- the rule gives player i of these worths the Shapley share
  abbrev GivesTo : (ℕ → ℤ) → ℕ → Type 0
  GivesTo v i = share (rule (game n v)) i *ℤ f ≡ (rule (game n v)).den *ℤ total_over v i (orders n)

  -- player i adds the same in both games
  abbrev AddsTheSame : (ℕ → ℤ) → (ℕ → ℤ) → ℕ → Type 0
  AddsTheSame v w i = (s : ℕ) → s < 2 ^ n → has_player s i ≡ false → v (s + 2 ^ i) -ℤ v s ≡ w (s + 2 ^ i) -ℤ w s

  gives-same : (v w : ℕ → ℤ) (i : ℕ) → v 0 ≡ pos 0 → w 0 ≡ pos 0 → i < n → AddsTheSame v w i → GivesTo w i
      → GivesTo v i
  gives-same v w i nobody_v nobody_w lt same gives =
      let g = game n v in
      let h = game n w in
      let one = fair.monotonic g h i (refl, nobody_v) (refl, nobody_w) lt
      (record { players = refl; adds = λ s small out. omega (arith, linear, same s small out) }) in
      let two = fair.monotonic h g i (refl, nobody_w) (refl, nobody_v) lt
      (record { players = refl; adds = λ s small out. omega (arith, linear, same s small out) }) in
      let less = totals-no_less n i v w lt (λ s small out. omega (arith, linear, same s small out)) in
      let more = totals-no_less n i w v lt (λ s small out. omega (arith, linear, same s small out)) in
      let totals : shapley_total h i ≡ shapley_total g i = omega (arith, linear, less, more) in
      carried_over f (share (rule g) i) (share (rule h) i) (rule g).den (rule h).den (shapley_total g i)
      (omega (arith, linear, (fair.shares h (refl, nobody_w)).1)) (omega (arith, linear, one, two))
      (gives ∙ ap (◌*ℤ◌ ((rule h).den)) totals)

  value-alike : (ps : List (ℕ × ℤ)) (i j : ℕ) → i < n → j < n → each_holds ps i ≡ true → each_holds ps j ≡ true
      → AreInterchangeable (game n (value n ps)) i j
  value-alike ps i j hi hj ei ej s lt si sj = elim (same_or_other i j) [
    | inl same ↦ ap (λ (k : ℕ). value n ps (s + 2 ^ k)) same
    | inr ne ↦ both_held-alike n i j ps s hi hj ne ei ej si sj
  ]

  -- who is in all terms gets what is left for them, and they are alike
  settled : (ps : List (ℕ × ℤ)) → AllByRecursion (IsTerm n) ps
      → ((j : ℕ) → j < n → each_holds ps j ≡ false → GivesTo (value n ps) j) → (i : ℕ) → i < n
      → GivesTo (value n ps) i
  settled ps terms others i lt = *ℤ_comm (share x i) f ∙ all_same n (each_holds ps) a b outside left right sums i lt
    where
      g : Game
      g = game n (value n ps)

      x : Allocation
      x = rule g

      a : ℕ → ℤ
      a j = f *ℤ share x j

      b : ℕ → ℤ
      b j = x.den *ℤ shapley_total g j

      ok : IsGameOf n g
      ok = (refl, value-nobody n ps terms)

      outside : (j : ℕ) → j < n → each_holds ps j ≡ false → a j ≡ b j
      outside j h out = *ℤ_comm f (share x j) ∙ others j h out

      left : IsLevelled n (each_holds ps) a
      left j l hj hl ej el = ap (◌*ℤ◌ f) (fair.alike g j l ok hj hl (value-alike ps j l hj hl ej el))

      right : IsLevelled n (each_holds ps) b
      right j l hj hl ej el = ap (◌*ℤ◌ x.den) (totals-alike g j l hj hl (value-alike ps j l hj hl ej el))

      sums : sum_below n a ≡ sum_below n b
      sums =
          let w = value n ps (grand_coalition n) in
          let nobody : w -ℤ value n ps 0 ≡ w = omega (arith, linear, ok.1) in
          sum_below-times n (share x) f
          ∙ ap (◌*ℤ◌ f) (sym (amount-all g x (fair.shares g ok).0) ∙ fair.efficient g ok)
          ∙ mul_left_commℤ f x.den w
          ∙ ap (λ (z : ℤ). x.den *ℤ (f *ℤ z)) (sym nobody)
          ∙ ap (◌*ℤ◌ x.den) (sym (sum-totals g))
          ∙ sym (sum_below-times n (shapley_total g) x.den)

  -- by the number of terms
  gives-terms : (m : ℕ) (ps : List (ℕ × ℤ)) → length ps ≤ m → AllByRecursion (IsTerm n) ps → (i : ℕ) → i < n
      → GivesTo (value n ps) i
  gives-terms zero ps few terms i lt =
      settled ps terms (λ j h out. absurd (let less = held-fewer j ps out in omega (arith, few, less))) i lt
  gives-terms (suc m) ps few terms i lt =
      settled ps terms
      (λ j h out.
      let less = held-fewer j ps out in
      let own = held-all (IsTerm n) j ps terms in
      gives-same (value n ps) (value n (held j ps)) j (value-nobody n ps terms) (value-nobody n (held j ps) own) h
      (λ s small o. sym (held-adds n j ps s o)) (gives-terms m (held j ps) (omega (arith, few, less)) own j h)) i lt

  pub gives : (v : ℕ → ℤ) → v 0 ≡ pos 0 → IsShapley (game n v) (rule (game n v))
  gives v nobody = (
    fair.shares (game n v) (refl, nobody),
    λ i lt.
        let terms = terms_of n v nobody in
        gives-same v (value n terms.0) i nobody (value-nobody n terms.0 terms.1) lt
        (λ s small out.
        let a = terms.2 s small in
        let b = terms.2 (s + 2 ^ i) (more-lt n s i small lt out) in
        omega (arith, linear, a, b)) (gives-terms (length terms.0) terms.0 (omega arith) terms.1 i lt),
  )

-- ---- both ways

only : (n : ℕ) (rule : Game → Allocation) → IsMonotonicRule n rule → (g : Game) → IsGameOf n g → IsShapley g (rule g)
only n rule fair g ok = gives g.players rule (subst (λ (m : ℕ). IsMonotonicRule m rule) (sym ok.0) fair) g.worth ok.1

shapley_is_monotonic : (n : ℕ) (rule : Game → Allocation) → ((g : Game) → IsGameOf n g → IsShapley g (rule g))
    → IsMonotonicRule n rule
shapley_is_monotonic n rule h = record {
  shares = λ g ok. (h g ok).0;
  efficient = λ g ok. efficient g (rule g) ok.1 (h g ok);
  alike = λ g i j ok hi hj same. alike_get_alike g (rule g) i j (h g ok) (omega (arith, hi, ok.0))
      (omega (arith, hj, ok.0)) same;
  monotonic = λ g k i okg okk lt adds. adds_more_gets_no_less g k (rule g) (rule k) i adds (h g okg) (h k okk)
      (omega (arith, lt, okg.0));
}

pub monotonic_rules_are_shapley : MonotonicRulesAreShapley
monotonic_rules_are_shapley n rule = (only n rule, shapley_is_monotonic n rule)
