-- The coalitions of some players in Gray order, each with the player who comes or goes.
--
--   gray_mask k      the coalition of step k
--   gray_step k      step k, with the player in which it differs from the step before
--   steps_from n k   the steps of n players from step k on
--   gray_steps n     all steps of n players
--   IsFlip k         what that player is
--   IsOnce n s       s comes at one step of n players, and at no other
use Rattle.std.specs.Prelude.{◌≡◌, ℕ, ◌-◌, ◌/◌, ◌^◌, ◌<◌, not, nat_eq, List, map}
use Rattle.std.specs.Prelude.{Some}
use Rattle.std.specs.Prelude.{None, MatchOption, if◌then◌else◌, bit_xor}
use Rattle.std.specs.Int.{trailing_zeros}
use Rattle.std.specs.List.{range_with_len}
use mir.Syntax.{w64}
use Rattle.definitions.specs.Coalitions.{has_player}
use Rattle.coalitions.specs.declared.gray.GrayStep.{GrayStep}

abbrev pub gray_mask : ℕ → ℕ
gray_mask k = bit_xor k (k / 2)

-- step k: its coalition, and the place of the lowest bit of k, none for step 0
abbrev pub gray_step : ℕ → GrayStep
gray_step k = record {
  mask = gray_mask k;
  flipped = if nat_eq k 0 then None else Some (trailing_zeros w64 k);
}

abbrev pub steps_from : ℕ → ℕ → List GrayStep
steps_from n k = map gray_step (range_with_len k (2 ^ n - k))

abbrev pub gray_steps : ℕ → List GrayStep
gray_steps n = map gray_step (range_with_len 0 (2 ^ n))

-- step k differs from the step before in the one player that is named; before step 0 there is none
abbrev pub IsFlip : ℕ → ℕ → Type 0
IsFlip n k = MatchOption (gray_step k).flipped (k ≡ 0)
    (λ i. (i < n) × (0 < k)
    × ((j : ℕ)
    → has_player (gray_mask k) j
    ≡ (if nat_eq j i then not (has_player (gray_mask (k - 1)) j) else has_player (gray_mask (k - 1)) j)))

-- s is the coalition of one step of n players, and of no other step
abbrev pub IsOnce : ℕ → ℕ → Type 0
IsOnce n s = (k : ℕ) × (k < 2 ^ n) × (gray_mask k ≡ s) × ((j : ℕ) → gray_mask j ≡ s → j ≡ k)
