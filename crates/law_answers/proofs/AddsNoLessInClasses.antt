-- Who adds no less, by the numbers of the class: who needs no more of a runway, who claims no less of an estate, who
-- has no fewer votes.
use Rattle.std.proofs.Common.{◌≡◌, ℕ, ◌+◌, ◌^◌, ◌<◌, ◌≤◌, Bool, true, false, cond, List, length, get_or, int_le, ℤ, pos}
use Rattle.std.proofs.Common.{◌-ℤ◌, ◌≤ℤ◌, refl, sym, ap, ◌∙◌, inl, inr, arith}
use Rattle.std.specs.Int.{int_max}
use Rattle.std.proofs.lemmas.Int.{ints, clamps}
use Rattle.definitions.proofs.Cases.{same_or_other}
use Rattle.definitions.proofs.Members.{sum_over-complement}
use Rattle.definitions.proofs.Parts.{has_player-more_same, has_player-more_other, more-lt, sum_over-more}
use Rattle.definitions.proofs.Ring.{linear}
use Rattle.definitions.specs.Coalitions.{has_player, sum_over}
use Rattle.definitions.specs.Classes.{greatest_cost}
use Rattle.law_answers.specs.ClassGames.{airport_game, bankruptcy_game, voting_game}
use Rattle.airport.proofs.GreatestCosts.{greatest_cost-at_least, greatest_cost-at_most}
use Rattle.definitions.specs.Players.{AddsNoLess}
use Rattle.theorems.proofs.Products.{products}

-- the numbers of the members, as integers
abbrev numbers : List ℕ → ℕ → ℤ
numbers xs i = pos (get_or xs i 0)

-- the members' numbers add to no less with i than with j
sums : (xs : List ℕ) (i j s : ℕ) → i < length xs → j < length xs → get_or xs j 0 ≤ get_or xs i 0
    → has_player s i ≡ false → has_player s j ≡ false
    → sum_over (length xs) (numbers xs) (s + 2 ^ j) ≤ℤ sum_over (length xs) (numbers xs) (s + 2 ^ i)
sums xs i j s hi hj le out other =
    let less : pos (get_or xs j 0) ≤ℤ pos (get_or xs i 0) = omega (arith, ints, le) in
    omega (
      products,
      less,
      sum_over-more (length xs) s i (numbers xs) hi out,
      sum_over-more (length xs) s j (numbers xs) hj other,
    )

pub votes : (quota : ℕ) (weights : List ℕ) (i j : ℕ) → i < length weights → j < length weights
    → get_or weights j 0 ≤ get_or weights i 0 → AddsNoLess (voting_game quota weights) i j
votes quota weights i j hi hj le s lt out other =
    wins (pos quota) _ _ (sums weights i j s hi hj le out other) _ _ refl refl
  where
    wins : (q a b : ℤ) → a ≤ℤ b → (x y : Bool) → int_le q a ≡ x → int_le q b ≡ y
        → cond x (pos 1) (pos 0) ≤ℤ cond y (pos 1) (pos 0)
    wins q a b le x y e f = grind (arith, linear)

pub need : (costs : List ℕ) (i j : ℕ) → i < length costs → j < length costs → get_or costs i 0 ≤ get_or costs j 0
    → AddsNoLess (airport_game costs) i j
need costs i j hi hj le s lt out other =
    let less = greatest_cost-at_most (length costs) (λ k. get_or costs k 0) (s + 2 ^ i)
    (greatest_cost (length costs) (λ k. get_or costs k 0) (s + 2 ^ j)) at in
    omega (arith, ints, less)
  where
    at : (k : ℕ) → k < length costs → has_player (s + 2 ^ i) k ≡ true
        → get_or costs k 0 ≤ greatest_cost (length costs) (λ h. get_or costs h 0) (s + 2 ^ j)
    at k h has = elim (same_or_other k i) [
      | inl same ↦
          let own = greatest_cost-at_least (length costs) (λ h. get_or costs h 0) (s + 2 ^ j) j hj
          (has_player-more_same s j other) in
          rw same (omega (arith, own, le))
      | inr ne ↦ elim (same_or_other k j) [
        | inl same ↦ greatest_cost-at_least (length costs) (λ h. get_or costs h 0) (s + 2 ^ j) k h
            (ap (has_player (s + 2 ^ j)) same ∙ has_player-more_same s j other)
        | inr apart ↦ greatest_cost-at_least (length costs) (λ h. get_or costs h 0) (s + 2 ^ j) k h
            (has_player-more_other s j k other apart ∙ sym (has_player-more_other s i k out ne) ∙ has)
      ]
    ]

pub claim : (estate : ℕ) (claims : List ℕ) (i j : ℕ) → i < length claims → j < length claims
    → get_or claims j 0 ≤ get_or claims i 0 → AddsNoLess (bankruptcy_game estate claims) i j
claim estate claims i j hi hj le s lt out other =
    let n = length claims in
    let with_i = sum_over-complement n (s + 2 ^ i) (numbers claims) (more-lt n s i lt hi out) in
    let with_j = sum_over-complement n (s + 2 ^ j) (numbers claims) (more-lt n s j lt hj other) in
    more _ _ (omega (arith, linear, with_i, with_j, sums claims i j s hi hj le out other))
  where
    more : (a b : ℤ) → b ≤ℤ a → int_max (pos 0) (pos estate -ℤ a) ≤ℤ int_max (pos 0) (pos estate -ℤ b)
    more a b h = omega (arith, ints, clamps)
