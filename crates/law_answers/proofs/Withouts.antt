-- A coalition with a player as one without.
use Rattle.std.proofs.Common.{◌≡◌, ℕ, ◌+◌, ◌-◌, ◌^◌, ◌<◌, true, false, not, ap, ◌∙◌, arith}
use Rattle.definitions.proofs.Members.{has_player-complement}
use Rattle.definitions.proofs.Parts.{has_player-more_same, more-lt}
use Rattle.definitions.specs.Coalitions.{has_player, grand_coalition}

-- a coalition with player i is one without, and player i
pub without : (n s i : ℕ) → s < 2 ^ n → i < n → has_player s i ≡ true
    → (r : ℕ) × (r < 2 ^ n) × (has_player r i ≡ false) × (s ≡ r + 2 ^ i)
without n s i within lt has =
    let rest = grand_coalition n - s in
    let lacks : has_player rest i ≡ false = has_player-complement n s i within lt ∙ ap not has in
    let small : rest < 2 ^ n = omega arith in
    let more = more-lt n rest i small lt lacks in
    let r = grand_coalition n - (rest + 2 ^ i) in (
      r,
      omega arith,
      has_player-complement n (rest + 2 ^ i) i more lt ∙ ap not (has_player-more_same rest i lacks),
      omega (arith, more),
    )
