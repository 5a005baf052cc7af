-- A player that adds nothing gets nothing. And the total of a player that adds its worth alone is that worth times its
-- total in the game in which a coalition is worth 1 with it and 0 without it: there all others add nothing.
use Rattle.std.proofs.Common.{◌≡◌, ◌≢◌, ℕ, zero, suc, ◌+◌, ◌^◌, ◌<◌, Bool, true, false, cond, ℤ, pos, ◌+ℤ◌, ◌-ℤ◌, ◌*ℤ◌}
use Rattle.std.proofs.Common.{refl, sym, ap, ◌∙◌, inl, inr, arith}
use lib.IntN.{*ℤ_comm}
use Rattle.definitions.proofs.Cases.{less_or_last}
use Rattle.definitions.proofs.Halves.{size_below}
use Rattle.definitions.proofs.Members.{has_player-empty, has_player-grand_coalition, sum_below-same, sum_below-zero}
use Rattle.definitions.proofs.Members.{sum_below-times}
use Rattle.definitions.proofs.Parts.{has_player-more_same, has_player-more_other}
use Rattle.definitions.proofs.Ring.{linear, mul-cancelℤ, mul_left_commℤ, mul-zeroℤ, mul-oneℤ}
use Rattle.definitions.specs.Sums.{sum_below}
use Rattle.definitions.specs.Coalitions.{has_player, singleton, grand_coalition}
use Rattle.definitions.specs.Games.{Game, Allocation, share}
use Rattle.definitions.specs.Shapley.{shapley_total, factorial, IsShapley}
use Rattle.definitions.specs.Players.{IsDummy, AddsNothing}
use Rattle.shapley.specs.Subsets.{orders_with, subset_term}
use Rattle.law_answers.proofs.SharesAddToAll.{factorial-positive, sum-totals}
use Rattle.shapley.proofs.Orders.{orders_are_subsets}
use Rattle.theorems.proofs.Products.{products}

-- ---- who adds nothing

pub null-total : (g : Game) (i : ℕ) → i < g.players → AddsNothing g i → shapley_total g i ≡ pos 0
null-total g i h nothing =
    orders_are_subsets g i h
    ∙ sum_below-zero (2 ^ g.players) (subset_term g.worth g.players i)
    (λ s lt. null_term (has_player s i) (pos (orders_with g.players (size_below g.players s))) (g.worth (s + 2 ^ i))
    (g.worth s) (nothing s lt))
  where
    null_term : (b : Bool) (k y z : ℤ) → (b ≡ false → y ≡ z) → cond b (pos 0) (k *ℤ (y -ℤ z)) ≡ pos 0
    null_term b k y z e = grind (arith, linear, mul-zeroℤ)

-- a total of n! times c makes a share of c
pub share-of : (g : Game) (x : Allocation) (i : ℕ) (c : ℤ) → IsShapley g x → i < g.players
    → shapley_total g i ≡ pos (factorial g.players) *ℤ c → share x i ≡ x.den *ℤ c
share-of g x i c h lt e =
    let f = pos (factorial g.players) in
    mul-cancelℤ f (share x i) (x.den *ℤ c) (factorial-positive g.players)
    (*ℤ_comm f (share x i) ∙ h.1 i lt ∙ ap (◌*ℤ◌ x.den) e ∙ mul_left_commℤ x.den f c)

pub nothing_gets_nothing : (g : Game) (x : Allocation) (i : ℕ) → IsShapley g x → i < g.players → AddsNothing g i
    → share x i ≡ pos 0
nothing_gets_nothing g x i h lt nothing =
    share-of g x i (pos 0) h lt (null-total g i lt nothing ∙ sym (mul-zeroℤ (pos (factorial g.players))))
    ∙ mul-zeroℤ x.den

-- ---- the game of one player

sum_only : (n i : ℕ) (f : ℕ → ℤ) → i < n → ((j : ℕ) → j < n → j ≢ i → f j ≡ pos 0) → sum_below n f ≡ f i
sum_only zero i f lt none = absurd (omega arith)
sum_only (suc n) i f lt none = elim (less_or_last i n lt) [
  | inl less ↦ omega (
    products,
    sum_only n i f less (λ j h ne. none j (omega arith) ne),
    none n (omega arith) (λ same. omega arith),
  )
  | inr same ↦ omega (arith, linear, sum_below-zero n f (λ j h. none j (omega arith) (λ e. omega arith)), ap f same)
]

-- each coalition with player i is worth 1, and each other one 0
abbrev only : ℕ → ℕ → Game
only n i = record { players = n; worth = λ s. cond (has_player s i) (pos 1) (pos 0) }

only-total : (n i : ℕ) → i < n → shapley_total (only n i) i ≡ pos (factorial n)
only-total n i lt =
    sym
    (sum_only n i (shapley_total (only n i)) lt
    (λ j h ne. null-total (only n i) j h
    (λ s within out. ap worth_if (has_player-more_other s j i out (λ e. ne (sym e))))))
    ∙ sum-totals (only n i)
    ∙ ap (◌*ℤ◌ (pos (factorial n))) grand_worth_one
    ∙ mul-oneℤ (pos (factorial n))
  where
    worth_if : Bool → ℤ
    worth_if b = cond b (pos 1) (pos 0)

    grand_worth_one : cond (has_player (grand_coalition n) i) (pos 1) (pos 0) -ℤ cond (has_player 0 i) (pos 1) (pos 0)
        ≡ pos 1
    grand_worth_one = rw (has_player-grand_coalition n i lt, has_player-empty i) refl

pub dummy-total : (g : Game) (i : ℕ) → i < g.players → IsDummy g i
    → shapley_total g i ≡ pos (factorial g.players) *ℤ g.worth (singleton i)
dummy-total g i lt dummy =
    let n = g.players in
    let w = g.worth (singleton i) in
    orders_are_subsets g i lt
    ∙ sum_below-same (2 ^ n) (subset_term g.worth n i) (λ s. w *ℤ subset_term (only n i).worth n i s)
    (λ s h. at s h)
    ∙ sum_below-times (2 ^ n) (subset_term (only n i).worth n i) w
    ∙ ap (◌*ℤ◌ w) (sym (orders_are_subsets (only n i) i lt) ∙ only-total n i lt)
    ∙ *ℤ_comm w (pos (factorial n))
  where
    at : (s : ℕ) → s < 2 ^ g.players
        → subset_term g.worth g.players i s
        ≡ g.worth (singleton i) *ℤ subset_term (only g.players i).worth g.players i s
    at s h =
        dummy_term (has_player s i) (has_player (s + 2 ^ i) i) (pos (orders_with g.players (size_below g.players s)))
        (g.worth (s + 2 ^ i)) (g.worth s) (g.worth (singleton i)) (has_player-more_same s i) (dummy s h)
      where
        dummy_term : (b c : Bool) (k y z w : ℤ) → (b ≡ false → c ≡ true) → (b ≡ false → y ≡ z +ℤ w)
            → cond b (pos 0) (k *ℤ (y -ℤ z))
            ≡ w *ℤ cond b (pos 0) (k *ℤ (cond c (pos 1) (pos 0) -ℤ cond b (pos 1) (pos 0)))
        dummy_term true c k y z w e f = sym (mul-zeroℤ w)
        dummy_term false c k y z w e f =
            let more : y -ℤ z ≡ w = (let same = f refl in omega (arith, linear, same)) in
            rw (e refl) (ap (◌*ℤ◌ k) more ∙ *ℤ_comm k w ∙ ap (◌*ℤ◌ w) (sym (mul-oneℤ k)))

pub dummies_get_worth : (g : Game) (x : Allocation) (i : ℕ) → IsShapley g x → i < g.players → IsDummy g i
    → share x i ≡ x.den *ℤ g.worth (singleton i)
dummies_get_worth g x i h lt dummy = share-of g x i (g.worth (singleton i)) h lt (dummy-total g i lt dummy)
