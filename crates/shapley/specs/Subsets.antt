-- Shapley totals as sums over coalitions.
--
--   orders_with n k      how many orders of n players have k given ones in front of another given one
--   subset_term v n i    what player i adds to a coalition, as often as that stands in front
--   subset_total v n i   what player i adds to the coalitions without it, each as often as it stands in front
--   credit n s w i       what the worth w of s adds to the total of player i
use Rattle.std.specs.Prelude.{ℕ, ◌+◌, ◌-◌, ◌*◌, ◌^◌, length, ℤ, pos, neg_ℤ, ◌-ℤ◌}
use Rattle.std.specs.Prelude.{◌*ℤ◌, if◌then◌else◌}
use Rattle.definitions.specs.Sums.{sum_below}
use Rattle.definitions.specs.Coalitions.{has_player, members}
use Rattle.definitions.specs.Shapley.{factorial}

-- the orders in which k of n players stand in front of one
abbrev pub orders_with : ℕ → ℕ → ℕ
orders_with n k = factorial k * factorial (n - 1 - k)

-- what player i adds to s, as often as s stands in front of it
abbrev pub subset_term : (ℕ → ℤ) → ℕ → ℕ → ℕ → ℤ
subset_term v n i s =
    if has_player s i then pos 0 else pos (orders_with n (length (members n s))) *ℤ (v (s + 2 ^ i) -ℤ v s)

-- what player i adds to all coalitions without it
abbrev pub subset_total : (ℕ → ℤ) → ℕ → ℕ → ℤ
subset_total v n i = sum_below (2 ^ n) (subset_term v n i)

-- the worth w of s counts for each member, as often as the others of s stand in front of it, and against each other
-- player, as often as s does
abbrev pub credit : ℕ → ℕ → ℤ → ℕ → ℤ
credit n s w i =
    if has_player s i then pos (orders_with n (length (members n s) - 1)) *ℤ w
    else neg_ℤ (pos (orders_with n (length (members n s))) *ℤ w)
