-- A member of the coalition that grows adds no less than before to each coalition, and each other player no more.
use Rattle.std.proofs.Common.{◌≡◌, ◌≢◌, ℕ, ◌+◌, ◌^◌, ◌<◌, true, false, ℤ, pos}
use Rattle.std.proofs.Common.{◌+ℤ◌, ◌≤ℤ◌, refl, sym, ap, subst, ◌∙◌}
use Rattle.std.proofs.Common.{inl, inr, arith}
use Rattle.std.proofs.lemmas.Bool.{false≢true}
use Rattle.definitions.proofs.Cases.{same_or_other}
use Rattle.definitions.proofs.Parts.{has_player-more_same, more-lt}
use Rattle.definitions.proofs.Ring.{linear}
use Rattle.definitions.specs.Coalitions.{has_player}
use Rattle.definitions.specs.Shapley.{IsShapley}
use Rattle.law_monotonicity.specs.Additions.{AddsNoLessThen}
use Rattle.law_monotonicity.specs.Growth.{EachWhoGrowsGetsNoLess}
use Rattle.law_monotonicity.proofs.WhoAddsMoreGetsNoLess.{adds_more_gets_no_less}
use Rattle.law_monotonicity.proofs.Worths.{game}
use Rattle.theorems.proofs.Products.{products}

module _ (n : ℕ) (v w : ℕ → ℤ) (d : ℤ) (t : ℕ) (up : pos 0 ≤ℤ d) (more : w t ≡ v t +ℤ d)
    (others : (s : ℕ) → s < 2 ^ n → s ≢ t → w s ≡ v s) where
  no_less : (s : ℕ) → s < 2 ^ n → v s ≤ℤ w s
  no_less s lt = elim (same_or_other s t) [
    | inl same ↦ omega (arith, linear, up, more, ap v same, ap w same)
    | inr ne ↦ omega (arith, linear, others s lt ne)
  ]

  -- a coalition that differs from t at player i isn't t
  differ : (s i : ℕ) → has_player s i ≡ false → has_player t i ≡ true → s ≢ t
  differ s i out inside e = false≢true (sym out ∙ ap (λ (r : ℕ). has_player r i) e ∙ inside)

  member_adds : (i : ℕ) → i < n → has_player t i ≡ true → AddsNoLessThen (game n v) (game n w) i
  member_adds i hi inside = record {
    players = refl;
    adds = λ s lt out. omega (
      products,
      others s lt (differ s i out inside),
      no_less (s + 2 ^ i) (more-lt n s i lt hi out),
    );
  }

  other_adds : (i : ℕ) → i < n → has_player t i ≡ false → AddsNoLessThen (game n w) (game n v) i
  other_adds i hi outside = record {
    players = refl;
    adds = λ s lt out. omega (
      products,
      no_less s lt,
      others (s + 2 ^ i) (more-lt n s i lt hi out)
          (λ e. false≢true (sym outside ∙ ap (λ (r : ℕ). has_player r i) (sym e) ∙ has_player-more_same s i out)),
    );
  }

pub each_who_grows : EachWhoGrowsGetsNoLess
each_who_grows d t g h x y i up grows hx hy lt =
    let n = g.players in
    let hy_n = subst (λ (m : ℕ). IsShapley (game m h.worth) y) grows.players hy in (
      λ inside. adds_more_gets_no_less (game n g.worth) (game n h.worth) x y i
          (member_adds n g.worth h.worth d t up grows.more grows.others i lt inside) hx hy_n lt,
      λ outside. adds_more_gets_no_less (game n h.worth) (game n g.worth) y x i
          (other_adds n g.worth h.worth d t up grows.more grows.others i lt outside) hy_n hx lt,
    )
