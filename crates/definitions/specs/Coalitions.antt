-- Coalitions as masks: player i, from 0, is a member of s if s has the bit of value 2 ^ i. So the coalitions of
-- n players are the numbers below 2 ^ n.
-- Source: Peleg and Sudhölter, Introduction to the Theory of Cooperative Games.
--
--   has_player s i        player i is a member of the coalition s
--   singleton i           the coalition of player i alone
--   grand_coalition n     the coalition of all n players
--   proper_coalitions n   every coalition but the empty one and the grand coalition, in mask order
--   sum_over n a s        the sum of the members' numbers
--   weight_at ps i        the weights of the coalitions that hold player i, added
--   some_below n test     the test passes at some number below n
--   splits n test s       s holds some but not all of the players that pass the test
--   members n s           the members below n, in ascending order
--   size s                the number of members
use Rattle.std.specs.Prelude.{ℕ, zero, suc, ◌-◌, ◌^◌, Bool, false, ◌&&◌, ◌||◌, not}
use Rattle.std.specs.Prelude.{nat_eq, List}
use Rattle.std.specs.Prelude.{[], ◌∷◌, length, ℤ, pos, ◌+ℤ◌, if◌then◌else◌, ◌++◌}
use Rattle.std.specs.Int.{bit_at}
use Rattle.std.specs.List.{range_with_len}
use Rattle.definitions.specs.Sums.{sum_below}

abbrev pub has_player : ℕ → ℕ → Bool
has_player s i = nat_eq (bit_at s i) 1

abbrev pub singleton : ℕ → ℕ
singleton i = 2 ^ i

abbrev pub grand_coalition : ℕ → ℕ
grand_coalition n = 2 ^ n - 1

-- every coalition of n players but the empty one and that of all, in mask order
abbrev pub proper_coalitions : ℕ → List ℕ
proper_coalitions n = range_with_len 1 (2 ^ n - 2)

abbrev pub sum_over : ℕ → (ℕ → ℤ) → ℕ → ℤ
sum_over n a s = sum_below n (λ i. if has_player s i then a i else pos 0)

abbrev pub weight_at : List (ℕ × ℤ) → ℕ → ℤ
weight_at [] i = pos 0
weight_at (p ∷ ps) i = (if has_player p.0 i then p.1 else pos 0) +ℤ weight_at ps i

abbrev pub some_below : ℕ → (ℕ → Bool) → Bool
some_below zero test = false
some_below (suc n) test = test n || some_below n test

-- the coalition holds some but not all of the players that pass the test
abbrev pub splits : ℕ → (ℕ → Bool) → ℕ → Bool
splits n test s =
    some_below n (λ i. test i && has_player s i) && some_below n (λ i. test i && not (has_player s i))

-- the members below n, in ascending order
unfoldable pub members : ℕ → ℕ → List ℕ
members zero s = []
members (suc n) s = if has_player s n then members n s ++ n ∷ [] else members n s

-- the number of members, who are at most 64
abbrev pub size : ℕ → ℕ
size s = length (members 64 s)
