-- Half of a real number: half of each of its multiples, rounded down.
use Rattle.std.proofs.Common.{ℕ, ◌+◌, ◌/◌, ℤ, pos, negsuc, ◌+ℤ◌, ◌≤ℤ◌, arith}
use Rattle.std.proofs.lemmas.Int.{ints}
use Rattle.definitions.proofs.Ring.{linear}
use Rattle.real_shares.specs.Numbers.{Numbers}
use Rattle.real_shares.specs.Reals.{Real, AreReals}
use Rattle.law_real_worths.specs.Games.{CanHalve}

abbrev half : ℤ → ℤ
half (pos k) = pos (k / 2)
half (negsuc k) = negsuc (k / 2)

low : (z : ℤ) → (half z +ℤ half z) ≤ℤ z
low z = grind (arith, ints)

high : (z : ℤ) → z ≤ℤ (half z +ℤ half z +ℤ pos 1)
high z = grind (arith, ints)

abbrev half_of : Real → Real
half_of c = record {
  near = λ n. half (c.near n);
  error = c.error + 2;
  above = λ m n. up (c.near (m + n)) (c.near m) (c.near n) c.error (c.above m n);
  below = λ m n. down (c.near (m + n)) (c.near m) (c.near n) c.error (c.below m n);
}
  where
    up : (z x y : ℤ) (k : ℕ) → z ≤ℤ (x +ℤ y +ℤ pos k) → half z ≤ℤ (half x +ℤ half y +ℤ pos (k + 2))
    up z x y k le = omega (arith, linear, le, low z, high x, high y)

    down : (z x y : ℤ) (k : ℕ) → (x +ℤ y) ≤ℤ (z +ℤ pos k) → (half x +ℤ half y) ≤ℤ (half z +ℤ pos (k + 2))
    down z x y k le = omega (arith, linear, le, high z, low x, low y)

pub can_halve : (N : Numbers Real) → AreReals N → CanHalve N
can_halve N R c = (
  half_of c,
  (
    R.decides (N.plus (half_of c) (half_of c)) c
        (0, λ n. omega (arith, linear, R.plus (half_of c) (half_of c) n, low (c.near n))),
    R.decides c (N.plus (half_of c) (half_of c))
        (1, λ n. omega (arith, linear, R.plus (half_of c) (half_of c) n, high (c.near n))),
  ),
)
