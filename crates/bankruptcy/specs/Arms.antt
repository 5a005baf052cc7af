-- For the private functions of this crate.
-- The arms of a bankruptcy game: two linear functions of the coalition, of which the excess is the greater one.
--
--   arm_number factor b x i   what player i adds to the arm of a factor as a member
--   estate_less_claims b      the estate less all claims
--   arm_base factor b         what an arm has without members
--   arm_at factor b x s       an arm at the coalition s
--   IsLeastGreatest           a greatest number, and the least mask that has it
--   IsSplitGreatest           a greatest number over the coalitions that split some players
use Rattle.std.specs.Prelude.{◌≡◌, ℕ, ◌^◌, ◌<◌, length, IsTrue, ℤ, pos, ◌+ℤ◌, ◌-ℤ◌}
use Rattle.std.specs.Prelude.{◌*ℤ◌, ◌<ℤ◌, ◌≤ℤ◌, slice_index}
use Rattle.definitions.specs.Sums.{sum_below, IsGreatest}
use Rattle.definitions.specs.Coalitions.{has_player, sum_over, splits}
use Rattle.definitions.specs.Games.{Allocation, share}
use Rattle.bankruptcy.specs.Bankruptcy.{Bankruptcy}

abbrev pub arm_number : ℤ → Bankruptcy → Allocation → ℕ → ℤ
arm_number factor b x i = factor *ℤ pos (slice_index b.claims i) -ℤ share x i

abbrev pub estate_less_claims : Bankruptcy → ℤ
estate_less_claims b =
    pos b.estate -ℤ sum_below (length b.claims) (λ i. pos (slice_index b.claims i))

abbrev pub arm_base : ℤ → Bankruptcy → ℤ
arm_base factor b = factor *ℤ estate_less_claims b

abbrev pub arm_at : ℤ → Bankruptcy → Allocation → ℕ → ℤ
arm_at factor b x s = arm_base factor b +ℤ sum_over (length b.claims) (arm_number factor b x) s

-- m is the greatest number of the masks below top, and s the least of the masks that have it
pub record IsLeastGreatest (number : ℕ → ℤ) (top s : ℕ) (m : ℤ) : Type 0 where
  pub within : s < top
  pub value : m ≡ number s
  pub greatest : (t : ℕ) → t < top → number t ≤ℤ m
  pub least : (t : ℕ) → t < s → number t <ℤ m

-- m is the greatest number of the coalitions of n players that hold some but not all of the players of f
abbrev pub IsSplitGreatest : (ℕ → ℤ) → ℕ → ℕ → ℤ → Type 0
IsSplitGreatest number n f m =
    IsGreatest (λ s. (s < 2 ^ n) × IsTrue (splits n (has_player f) s)) number m
