-- Real numbers, to be added and compared: what shares are in textbooks.
-- Source: Schanuel's construction, in Arthan, The Eudoxus Real Numbers, 2004. A real number r is given by a sequence
-- that is n times r at n, up to an error that stays bounded: for example, n times r rounded down. Such sequences are
-- exactly those that are additive up to a bounded error.
--
--   Real             a sequence of integers that is additive up to a bounded error
--   IsAtMost a b     the first sequence exceeds the second by no more than a bound
--   AreReals N       zero, unit, sums and negatives are those of the sequences, and the test of the order decides it
use Rattle.std.specs.Prelude.{◌≡◌, ℕ, ◌+◌, ℤ, pos, ◌+ℤ◌, ◌-ℤ◌, ◌≤ℤ◌}
use Rattle.real_shares.specs.Numbers.{Numbers, AtMost}

-- a number by its multiples: near n is n times the number, but for a bounded error
pub record Real : Type 0 where
  pub near : ℕ → ℤ
  pub error : ℕ
  pub above : (m n : ℕ) → near (m + n) ≤ℤ (near m +ℤ near n +ℤ pos error)
  pub below : (m n : ℕ) → (near m +ℤ near n) ≤ℤ (near (m + n) +ℤ pos error)

-- the multiples of the first exceed those of the second by no more than a bound
abbrev pub IsAtMost : Real → Real → Type 0
IsAtMost a b = (k : ℕ) × ((n : ℕ) → a.near n ≤ℤ (b.near n +ℤ pos k))

-- The numbers are the real numbers. A test that decides their order is there by excluded middle; no program is one.
pub record AreReals (N : Numbers Real) : Type 0 where
  pub zero : (n : ℕ) → N.zero.near n ≡ pos 0
  pub unit : (n : ℕ) → N.unit.near n ≡ pos n
  pub plus : (a b : Real) (n : ℕ) → (N.plus a b).near n ≡ a.near n +ℤ b.near n
  pub minus : (a : Real) (n : ℕ) → (N.minus a).near n ≡ pos 0 -ℤ a.near n
  pub at_most : (a b : Real) → AtMost N a b → IsAtMost a b
  pub decides : (a b : Real) → IsAtMost a b → AtMost N a b
