-- Tests and casts of numbers that the crates of laws share.
use Rattle.std.proofs.Common.{◌≡◌, ◌≤◌, true, unsigned_abs, ℤ, pos, ◌≤ℤ◌, arith}
use Rattle.std.proofs.lemmas.Int.{ints}
use Rattle.std.specs.Ordering.{int_eq}

pub to_int_eq : (a b : ℤ) → a ≡ b → int_eq a b ≡ true
to_int_eq a b e = grind (arith, ints)

pub pos-unsigned_abs : (z : ℤ) → pos 0 ≤ℤ z → pos (unsigned_abs z) ≡ z
pos-unsigned_abs z low = omega (arith, ints)
