-- A player that joins raises the greatest cost to its own, or not at all: so by no more if others have joined before.
use Rattle.std.proofs.Common.{ℕ, ◌+◌, ◌^◌, ◌≤◌, List, length, get_or, pos, ◌+ℤ◌, neg_ℤ, ◌≤ℤ◌, sym, ◌∙◌, arith}
use Rattle.std.specs.Prelude.{max}
use Rattle.std.proofs.lemmas.Int.{ints}
use Rattle.definitions.proofs.Parts.{has_player-more_other}
use Rattle.definitions.specs.Classes.{greatest_cost}
use Rattle.definitions.specs.Convexity.{IsConvex}
use Rattle.shapley.proofs.Airport.{greatest_cost-plus}
use Rattle.airport_scheme.proofs.Excesses.{game_of}

no_more : (g a b : ℕ) → max (max g a) b + g ≤ max g a + max g b
no_more g a b = omega arith

negated : (p q r g : ℕ) → r + g ≤ p + q → (neg_ℤ (pos p) +ℤ neg_ℤ (pos q)) ≤ℤ (neg_ℤ (pos r) +ℤ neg_ℤ (pos g))
negated p q r g le = omega (arith, ints)

pub airport_convex : (costs : List ℕ) → IsConvex (game_of costs)
airport_convex costs s i j (within, hi, hj, ne, li, lj) =
    let n = length costs in
    let cost = λ (k : ℕ). get_or costs k 0 in
    let g = greatest_cost n cost s in
    let first = greatest_cost-plus n i (λ k. get_or costs k 0) s hi li in
    let second = greatest_cost-plus n j (λ k. get_or costs k 0) s hj lj in
    let lacks = has_player-more_other s i j li (λ e. ne (sym e)) ∙ lj in
    let both = greatest_cost-plus n j (λ k. get_or costs k 0) (s + 2 ^ i) hj lacks in
    negated (greatest_cost n cost (s + 2 ^ i)) (greatest_cost n cost (s + 2 ^ j))
    (greatest_cost n cost (s + 2 ^ i + 2 ^ j)) g
    (let m = no_more g (cost i) (cost j) in omega (arith, first, second, both, m))
