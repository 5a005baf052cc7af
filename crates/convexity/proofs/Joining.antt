-- In a convex game a player adds no less if more others have joined before (Shapley 1971).
--
-- This is an induction over the players in which the two coalitions differ. Each step is convexity at one coalition and
-- two players (`adds_more`).
use Rattle.std.proofs.Common.{◌≡◌, ◌⊎◌, ℕ, zero, suc, ◌+◌, ◌^◌, ◌<◌, ◌≤◌, Bool}
use Rattle.std.proofs.Common.{true, false, ℤ}
use Rattle.std.proofs.Common.{◌-ℤ◌, ◌≤ℤ◌, refl, sym, ap, ◌∙◌, inl, inr, arith}
use Rattle.std.proofs.lemmas.Bool.{false≢true}
use Rattle.definitions.proofs.Ring.{linear}
use Rattle.definitions.proofs.Cases.{same_or_other}
use Rattle.definitions.proofs.Parts.{same_coalition, has_player-more_same}
use Rattle.definitions.proofs.Parts.{has_player-more_other, has_player-past, more-lt, has_player-within}
use Rattle.definitions.specs.Coalitions.{has_player}
use Rattle.definitions.specs.Games.{Game}
use Rattle.definitions.specs.Convexity.{IsConvex}

-- what player p adds to s
abbrev pub adds : (ℕ → ℤ) → ℕ → ℕ → ℤ
adds v p s = v (s + 2 ^ p) -ℤ v s

-- the members of a are members of b
abbrev pub IsPartOf : ℕ → ℕ → Type 0
IsPartOf a b = (j : ℕ) → has_player a j ≡ true → has_player b j ≡ true

at_or_above : (k j : ℕ) → k ≤ j → (suc k ≤ j) ⊎ (j ≡ k)
at_or_above k j h = grind arith

-- the coalitions differ below k alone
adds_below : (g : Game) (k p a b : ℕ) → IsConvex g → a < 2 ^ g.players → b < 2 ^ g.players → p < g.players
    → has_player b p ≡ false → IsPartOf a b → ((j : ℕ) → k ≤ j → has_player a j ≡ has_player b j)
    → adds g.worth p a ≤ℤ adds g.worth p b
adds_below g zero p a b convex la lb lp out part same =
    let e = same_coalition a b (λ j. same j (omega arith)) in
    rw e (omega (arith, linear))
adds_below g (suc k) p a b convex la lb lp out part same =
    cases (has_player a k) (has_player b k) refl refl (adds_below g k p a b convex la lb lp out part)
    (λ less within now. adds_below g k p (a + 2 ^ k) b convex less lb lp out within now)
  where
    agree : has_player a k ≡ has_player b k → (j : ℕ) → k ≤ j → has_player a j ≡ has_player b j
    agree e j h = elim (at_or_above k j h) [ inl more ↦ same j more | inr at ↦ rw at e ]

    joined : has_player a k ≡ false → has_player b k ≡ true → (j : ℕ) → k ≤ j
        → has_player (a + 2 ^ k) j ≡ has_player b j
    joined e f j h = elim (at_or_above k j h) [
      | inl more ↦ has_player-more_other a k j e (λ at. omega arith) ∙ same j more
      | inr at ↦ rw at (has_player-more_same a k e ∙ sym f)
    ]

    within : has_player a k ≡ false → has_player b k ≡ true → IsPartOf (a + 2 ^ k) b
    within e f j h = elim (same_or_other j k) [
      | inl at ↦ rw at f
      | inr other ↦ part j (sym (has_player-more_other a k j e other) ∙ h)
    ]

    apart : has_player b k ≡ true → ¬ (k ≡ p)
    apart f at = false≢true (sym out ∙ ap (has_player b) (sym at) ∙ f)

    lacks : (c : Bool) → has_player a p ≡ c → has_player a p ≡ false
    lacks true e = absurd (false≢true (sym out ∙ part p e))
    lacks false e = e

    adds_no_less : has_player a k ≡ false → has_player b k ≡ true → adds g.worth p (a + 2 ^ k) ≤ℤ adds g.worth p b
        → adds g.worth p a ≤ℤ adds g.worth p b
    adds_no_less e f more =
        let here =
        convex a k p (la, has_player-within g.players b k lb f, lp, apart f, e, lacks (has_player a p) refl) in
        omega (arith, linear, here, more)

    cases : (c d : Bool) → has_player a k ≡ c → has_player b k ≡ d
        → (((j : ℕ) → k ≤ j → has_player a j ≡ has_player b j) → adds g.worth p a ≤ℤ adds g.worth p b)
        → (a + 2 ^ k < 2 ^ g.players → IsPartOf (a + 2 ^ k) b
        → ((j : ℕ) → k ≤ j → has_player (a + 2 ^ k) j ≡ has_player b j)
        → adds g.worth p (a + 2 ^ k) ≤ℤ adds g.worth p b) → adds g.worth p a ≤ℤ adds g.worth p b
    cases true true e f keep join = keep (agree (e ∙ sym f))
    cases true false e f keep join = absurd (false≢true (sym f ∙ part k e))
    cases false true e f keep join =
        adds_no_less e f
        (join (more-lt g.players a k la (has_player-within g.players b k lb f) e) (within e f) (joined e f))
    cases false false e f keep join = keep (agree (e ∙ sym f))

pub adds_more : (g : Game) (p a b : ℕ) → IsConvex g → a < 2 ^ g.players → b < 2 ^ g.players → p < g.players
    → has_player b p ≡ false → IsPartOf a b → adds g.worth p a ≤ℤ adds g.worth p b
adds_more g p a b convex la lb lp out part =
    adds_below g g.players p a b convex la lb lp out part
    (λ j h. has_player-past g.players a j la h ∙ sym (has_player-past g.players b j lb h))
