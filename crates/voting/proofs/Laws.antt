-- A voting game is a game of the toolbox.
use Rattle.std.proofs.Common.{◌≡◌, ℕ, zero, suc, ◌≤◌, Bool, true, false}
use Rattle.std.proofs.Common.{cond, length, get_or, sum}
use Rattle.std.proofs.Common.{ℤ, pos, ◌+ℤ◌, ◌≤ℤ◌, ◌<ℤ◌, int_le, arith}
use Rattle.std.proofs.lemmas.Int.{ints}
use Rattle.definitions.proofs.Ring.{linear}
use Rattle.definitions.specs.Sums.{sum_below}
use Rattle.definitions.specs.Coalitions.{has_player, sum_over}
use Rattle.definitions.specs.Games.{IsGame}
use Rattle.orders.proofs.ListSums.{number_of, sum-sum_below}
use Rattle.voting.specs.Voting.{Voting, IsVoting, voting_game}
use Rattle.voting.proofs.SetKinds.{natural-nonnegative}
use Rattle.definitions.proofs.SumsOver.{sum_over-empty}

-- a coalition weighs no more than all
pub sum_over-most : (n s : ℕ) (a : ℕ → ℤ) → ((i : ℕ) → pos 0 ≤ℤ a i) → sum_over n a s ≤ℤ sum_below n a
sum_over-most zero s a low = omega (arith, linear)
sum_over-most (suc n) s a low =
    let ih = sum_over-most n s a low in
    let here = low n in
    let with_last : (b : Bool) → (sum_over n a s +ℤ cond b (a n) (pos 0)) ≤ℤ (sum_below n a +ℤ a n) =
    elim [ true ↦ omega (arith, linear) | false ↦ omega (arith, linear) ] in
    with_last (has_player s n)

pub weight_few : (g : Voting) (s : ℕ) → IsVoting g → sum_over (length g.weights) (number_of g.weights) s <ℤ pos 1001
weight_few g s h =
    let most =
    sum_over-most (length g.weights) s (number_of g.weights) (λ i. natural-nonnegative (get_or g.weights i 0)) in
    let all = sum-sum_below g.weights in
    let light = h.light in
    few (sum g.weights) _ _ all most light
  where
    few : (t : ℕ) (y z : ℤ) → pos t ≡ y → z ≤ℤ y → t ≤ 1000 → z <ℤ pos 1001
    few t y z e le light = omega (arith, ints)

pub IsGame-voting : (g : Voting) → IsVoting g → IsGame (voting_game g)
IsGame-voting g h = record {
  some = h.some;
  few = omega arith;
  nobody = rw (sum_over-empty (length g.weights) (number_of g.weights)) (nobody g.quota h.positive);
  small = λ s lt. grind arith;
}
  where
    nobody : (q : ℕ) → 1 ≤ q → cond (int_le (pos q) (pos 0)) (pos 1) (pos 0) ≡ pos 0
    nobody q le = grind (arith, ints)

pub ruleset game_laws = (IsGame-voting)
