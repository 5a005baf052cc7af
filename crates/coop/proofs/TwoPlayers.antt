-- There are at least two players, unless there is only one.
use Rattle.std.proofs.Common.{◌≢◌, ◌≤◌, ℕ, zero, suc, refl, arith}
use Rattle.definitions.specs.Coalitions.{grand_coalition}
use Rattle.definitions.specs.Games.{HasTwo}
use Rattle.definitions.proofs.Members.{has_player-grand_coalition}

pub more_than_one : (n : ℕ) → 1 ≤ n → n ≢ 1 → 2 ≤ n
more_than_one zero h other = absurd (omega (arith, h))
more_than_one (suc zero) h other = absurd (other refl)
more_than_one (suc (suc n)) h other = omega arith

-- of two players or more, all together are two at least
pub all_have_two : (n : ℕ) → 2 ≤ n → HasTwo n (grand_coalition n)
all_have_two n h = (
  0,
  1,
  omega arith,
  omega (arith, h),
  has_player-grand_coalition n 0 (omega (arith, h)),
  has_player-grand_coalition n 1 (omega (arith, h)),
)
