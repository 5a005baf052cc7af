-- For the private functions of this crate.
-- The form of a certificate as tests.
use Rattle.std.specs.Prelude.{ℕ, ◌+◌, ◌^◌, Bool, true, ◌&&◌, nat_lt, nat_le, List, []}
use Rattle.std.specs.Prelude.{◌∷◌, ℤ, unsigned_abs}

-- the size is below 2^63
abbrev pub is_small : ℤ → Bool
is_small z = nat_lt (unsigned_abs z) (2 ^ 63)

-- the keys ascend strictly, from low on
abbrev pub ascends : ℕ → List (ℕ × ℤ) → Bool
ascends low [] = true
ascends low (p ∷ ps) = nat_le low p.0 && ascends (p.0 + 1) ps
