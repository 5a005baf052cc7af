-- A player's Shapley total in a game is compared with that in the game in which it alone adds m, to every coalition.
-- There it is a dummy and gets m.
use Rattle.std.proofs.Common.{◌≡◌, ℕ, ◌+◌, ◌^◌, ◌<◌, Bool, true, false, cond, ℤ, pos, ◌-ℤ◌, ◌*ℤ◌, ◌≤ℤ◌, refl, ap}
use Rattle.std.proofs.Common.{◌∙◌, arith}
use Rattle.std.proofs.lemmas.Int.{ints}
use Rattle.definitions.proofs.Members.{has_player-singleton}
use Rattle.definitions.proofs.Parts.{has_player-more_same, sum_below-le}
use Rattle.definitions.proofs.Ring.{linear, mul-leℤ, mul-le_cancelℤ}
use Rattle.definitions.specs.Coalitions.{has_player, members, singleton}
use Rattle.definitions.specs.Games.{Game, Allocation, share}
use Rattle.definitions.specs.Players.{IsDummy}
use Rattle.definitions.specs.Shapley.{shapley_total, factorial, IsShapley}
use Rattle.shapley.specs.Subsets.{orders_with, subset_term}
use Rattle.shapley.proofs.Orders.{orders_are_subsets}
use Rattle.std.specs.Prelude.{length}
use Rattle.law_answers.proofs.SharesAddToAll.{factorial-positive}
use Rattle.law_answers.proofs.ShapleyDummies.{dummy-total}
use Rattle.law_answers.specs.Reasonable.{AddsAtMost, AddsAtLeast, ShapleyIsReasonable}
use Rattle.theorems.proofs.Products.{sorted_products}

-- who adds no more in one game than in another, to each coalition, has no more there
totals_le : (n i : ℕ) (u v : ℕ → ℤ) → i < n
    → ((s : ℕ) → s < 2 ^ n → has_player s i ≡ false → (u (s + 2 ^ i) -ℤ u s) ≤ℤ (v (s + 2 ^ i) -ℤ v s))
    → shapley_total (record { players = n; worth = u }) i ≤ℤ shapley_total (record { players = n; worth = v }) i
totals_le n i u v lt h =
    let a = orders_are_subsets (record { players = n; worth = u }) i lt in
    let b = orders_are_subsets (record { players = n; worth = v }) i lt in
    let le = sum_below-le (2 ^ n) (subset_term u n i) (subset_term v n i)
    (λ s within. by_test (has_player s i) (orders_with n (length (members n s))) (u (s + 2 ^ i) -ℤ u s)
    (v (s + 2 ^ i) -ℤ v s) (h s within)) in
    omega (arith, linear, a, b, le)
  where
    by_test : (b : Bool) (k : ℕ) (y z : ℤ) → (b ≡ false → y ≤ℤ z)
        → cond b (pos 0) (pos k *ℤ y) ≤ℤ cond b (pos 0) (pos k *ℤ z)
    by_test true k y z h = omega (arith, linear)
    by_test false k y z h = mul-leℤ (pos k) y z (omega (arith, ints)) (h refl)

-- m for the coalitions with player i
abbrev alone : ℕ → ℤ → ℕ → ℤ
alone i m s = cond (has_player s i) m (pos 0)

alone-adds : (i s : ℕ) (m : ℤ) → has_player s i ≡ false → alone i m (s + 2 ^ i) -ℤ alone i m s ≡ m
alone-adds i s m out =
    let with_i : alone i m (s + 2 ^ i) ≡ m = ap (λ (b : Bool). cond b m (pos 0)) (has_player-more_same s i out) in
    let without : alone i m s ≡ pos 0 = ap (λ (b : Bool). cond b m (pos 0)) out in
    omega (arith, linear, with_i, without)

alone-total : (n i : ℕ) (m : ℤ) → i < n
    → shapley_total (record { players = n; worth = alone i m }) i ≡ pos (factorial n) *ℤ m
alone-total n i m lt =
    dummy-total (record { players = n; worth = alone i m }) i lt dummy ∙ ap (◌*ℤ◌ (pos (factorial n))) here
  where
    here : alone i m (singleton i) ≡ m
    here = ap (λ (b : Bool). cond b m (pos 0)) (has_player-singleton i)

    dummy : IsDummy (record { players = n; worth = alone i m }) i
    dummy s within out = omega (arith, linear, alone-adds i s m out, here)

module _ (g : Game) (x : Allocation) (h : IsShapley g x) (i : ℕ) (m : ℤ) (lt : i < g.players) where
  abbrev f : ℤ
  f = pos (factorial g.players)

  gets_at_most : AddsAtMost g i m → share x i ≤ℤ (x.den *ℤ m)
  gets_at_most adds =
      let few = totals_le g.players i g.worth (alone i m) lt
      (λ s within out. omega (arith, linear, adds s within out, alone-adds i s m out)) in
      let le = mul-leℤ x.den (shapley_total g i) (f *ℤ m) (omega (arith, linear, h.0.1))
      (omega (arith, linear, few, alone-total g.players i m lt)) in
      mul-le_cancelℤ f (share x i) (x.den *ℤ m) (factorial-positive g.players)
      (omega (sorted_products, le, h.1 i lt))

  gets_at_least : AddsAtLeast g i m → (x.den *ℤ m) ≤ℤ share x i
  gets_at_least adds =
      let many = totals_le g.players i (alone i m) g.worth lt
      (λ s within out. omega (arith, linear, adds s within out, alone-adds i s m out)) in
      let le = mul-leℤ x.den (f *ℤ m) (shapley_total g i) (omega (arith, linear, h.0.1))
      (omega (arith, linear, many, alone-total g.players i m lt)) in
      mul-le_cancelℤ f (x.den *ℤ m) (share x i) (factorial-positive g.players)
      (omega (sorted_products, le, h.1 i lt))

pub shapley_is_reasonable : ShapleyIsReasonable
shapley_is_reasonable g x h = record {
  at_most = λ i m lt adds. gets_at_most g x h i m lt adds;
  at_least = λ i m lt adds. gets_at_least g x h i m lt adds;
}
