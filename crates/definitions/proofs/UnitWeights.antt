-- The weight 1 is positive, and small.
use Rattle.std.proofs.Common.{pos, ◌≤ℤ◌, arith}
use Rattle.std.proofs.lemmas.Int.{ints}
use Rattle.definitions.specs.Certificates.{IsSmall}

pub one_small : IsSmall (pos 1)
one_small = omega arith

pub one_le : pos 1 ≤ℤ pos 1
one_le = omega (arith, ints)
