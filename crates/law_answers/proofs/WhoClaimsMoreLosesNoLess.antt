-- Who claims more of an estate loses no less: beside minus the claims, the one with the lesser claim adds no less.
use Rattle.std.proofs.Common.{◌≡◌, false, ◌+ℤ◌, ℕ, ◌+◌, ◌-◌, ◌^◌, ◌<◌, ◌≤◌, List, length, ℤ, pos, ◌-ℤ◌, ◌*ℤ◌, neg_ℤ}
use Rattle.std.proofs.Common.{◌≤ℤ◌, inl, inr, arith, slice_index}
use Rattle.std.specs.Int.{int_max}
use Rattle.definitions.proofs.Cases.{int_max-cases}
use Rattle.definitions.proofs.Ring.{linear}
use Rattle.law_answers.proofs.BesideTheirOwn.{AddsNoLessWith, gets_no_less_with}
use Rattle.definitions.proofs.Members.{sum_over-complement}
use Rattle.definitions.proofs.Parts.{more-lt, sum_over-more}
use Rattle.law_answers.specs.ClassGames.{bankruptcy_game}
use Rattle.definitions.specs.Coalitions.{has_player, grand_coalition, sum_over}
use Rattle.definitions.specs.Measures.{IsMeasurable}
use Rattle.definitions.specs.Games.{Allocation, share, IsNucleolus}
use Rattle.definitions.specs.declared.Family.{Family}
use Rattle.definitions.specs.declared.Measure.{Measure}
use Rattle.theorems.proofs.Products.{products}

-- what the others than a coalition and one player claim
others_claim : (n : ℕ) (a : ℕ → ℤ) (s i j : ℕ) → s < 2 ^ n → i < n → j < n → has_player s i ≡ false
    → has_player s j ≡ false
    → sum_over n a (grand_coalition n - (s + 2 ^ i)) +ℤ a i ≡ sum_over n a (grand_coalition n - (s + 2 ^ j)) +ℤ a j
others_claim n a s i j within hi hj p q =
    omega (
      products,
      sum_over-complement n (s + 2 ^ i) a (more-lt n s i within hi p),
      sum_over-complement n (s + 2 ^ j) a (more-lt n s j within hj q),
      sum_over-more n s i a hi p,
      sum_over-more n s j a hj q,
    )

-- what is left, less the claim: the same where something is left
left_order : (u v c d : ℤ) → u -ℤ c ≡ v -ℤ d → d ≤ℤ c → (int_max (pos 0) u -ℤ c) ≤ℤ (int_max (pos 0) v -ℤ d)
left_order u v c d same le = elim (int_max-cases (pos 0) u) [
  | inl a ↦ elim (int_max-cases (pos 0) v)
      [ inl b ↦ omega (arith, linear, a.0, b.0, le) | inr b ↦ omega (arith, linear, a.0, b.0, b.1, le) ]
  | inr a ↦ elim (int_max-cases (pos 0) v)
      [ inl b ↦ omega (arith, linear, a.0, b.0, b.1, same) | inr b ↦ omega (arith, linear, a.0, b.0, same) ]
]

adds_no_less : (estate : ℕ) (claims : List ℕ) (i j : ℕ) → i < length claims → j < length claims
    → slice_index claims j ≤ slice_index claims i
    → AddsNoLessWith (λ k. neg_ℤ (pos (slice_index claims k))) (bankruptcy_game estate claims) j i
adds_no_less estate claims i j hi hj le s within b a =
    let n = length claims in
    let claim : ℕ → ℤ = λ k. pos (slice_index claims k) in
    let less : pos (slice_index claims j) ≤ℤ pos (slice_index claims i) = omega (arith, linear, le) in
    let order = left_order (pos estate -ℤ sum_over n claim (grand_coalition n - (s + 2 ^ i)))
    (pos estate -ℤ sum_over n claim (grand_coalition n - (s + 2 ^ j))) (claim i) (claim j)
    (omega (arith, linear, others_claim n claim s i j within hi hj a b)) less in
    omega (arith, linear, order)

pub claims_more_loses_no_less : (family : Family) (measure : Measure) (estate : ℕ) (claims : List ℕ)
    (x : Allocation) (i j : ℕ) → IsMeasurable measure (length claims)
    → IsNucleolus family measure (bankruptcy_game estate claims) x → i < length claims → j < length claims
    → slice_index claims j ≤ slice_index claims i
    → (x.den *ℤ pos (slice_index claims j) -ℤ share x j) ≤ℤ (x.den *ℤ pos (slice_index claims i) -ℤ share x i)
claims_more_loses_no_less family measure estate claims x i j can h hi hj le =
    let b : ℕ → ℤ = λ k. neg_ℤ (pos (slice_index claims k)) in
    let less = gets_no_less_with b family measure (bankruptcy_game estate claims) x j i can h hj hi
    (adds_no_less estate claims i j hi hj le) in
    omega (products, less)
