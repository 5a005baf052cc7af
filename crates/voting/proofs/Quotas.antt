-- What a quota and weights are tested for.
use Rattle.std.proofs.Common.{◌≡◌, ℕ, ◌<◌, ◌≤◌, eqb, Bool, true, false, List, length}
use Rattle.std.proofs.Common.{map, sum, All}
use Rattle.std.proofs.Common.{◌^◌, ap, ℤ, pos, nat_abs, unsigned_abs, sym, ◌∙◌, arith}
use Rattle.std.specs.List.{sum_by}
use Rattle.std.proofs.lemmas.List.{length-map}
use Rattle.std.proofs.lemmas.Int.{ints}
use lib.Signed.{lt_z}
use Rattle.orders.proofs.Tested.{not_zero, same_sum}
use Rattle.voting.specs.Voting.{HavePlayers, IsQuota, IsVoting, voting}

pub have_players : (weights : List ℤ) (l k : ℕ) (b : Bool) → l ≡ length weights → b ≡ eqb l 0 → b ≡ false → k ≡ l
    → k ≤ 32 → HavePlayers weights
have_players weights l k b all e f same few = (omega (arith, not_zero l b e f), omega arith)

-- a quota z
module _ (quota z : ℤ) (weights : List ℤ) (total : ℕ) (kept : z ≡ quota)
    (sums : total ≡ sum_by unsigned_abs weights) where
  pub is_quota : total ≤ 1000 → lt_z z (pos 1) ≡ false → nat_abs z ≤ total → IsQuota quota weights
  is_quota light low reached = record {
    light = omega arith;
    positive = omega (arith, ints);
    reached = omega (arith, ints);
  }

  pub same_quota : lt_z z (pos 1) ≡ false → pos (nat_abs z) ≡ quota
  same_quota low = omega (arith, ints)

  pub too_heavy : 1000 < total → ¬ IsQuota quota weights
  too_heavy heavy = λ q. omega arith

  pub too_low : lt_z z (pos 1) ≡ true → ¬ IsQuota quota weights
  too_low low = λ q. omega (arith, ints)

  pub too_high : total < nat_abs z → ¬ IsQuota quota weights
  too_high high = λ q. omega (arith, ints)

-- the numbers that are kept
pub is_voting : (quota z : ℤ) (weights : List ℤ) (ws : List ℕ) → z ≡ quota → map pos ws ≡ weights
    → All (λ w. w < 2 ^ 40) ws → HavePlayers weights → IsQuota quota weights → IsVoting (voting (nat_abs z) ws)
is_voting quota z weights ws kept same small players q =
    let count = ap length same in
    let long = length-map ws pos in
    let sums : sum_by unsigned_abs weights ≡ sum ws = ap (sum_by unsigned_abs) (sym same) ∙ same_sum 0 ws in
    record {
      some = omega arith;
      few = omega arith;
      small = small;
      light = omega arith;
      positive = omega (arith, ints);
      reached = omega (arith, ints);
    }
