-- The numbers of the generator: a linear congruential generator (Lehmer 1951) with the constants of the example of rand
-- in the C standard. Its state is below 2 ^ 31 and begins as the seed.
--
--   next_state state      the state after a draw
--   state seed k          the state after k draws
--   long_of, short_of     what a state gives: a number below 2 ^ 20, and one below 2 ^ 16
--   long_draw seed k      draw k, counted from 0, as a long one
--   short_draw seed k     draw k, counted from 0, as a short one
use Rattle.std.specs.Prelude.{ℕ, zero, suc, ◌+◌, ◌*◌, ◌/◌, ◌%◌, ◌^◌}

abbrev pub next_state : ℕ → ℕ
next_state state = (state * 1103515245 + 12345) % 2 ^ 31

abbrev pub state : ℕ → ℕ → ℕ
state seed zero = seed
state seed (suc k) = next_state (state seed k)

-- a number below 2 ^ 20
abbrev pub long_of : ℕ → ℕ
long_of state = state / 2048

-- a number below 2 ^ 16
abbrev pub short_of : ℕ → ℕ
short_of state = long_of state / 16

abbrev pub long_draw : ℕ → ℕ → ℕ
long_draw seed k = long_of (state seed (suc k))

abbrev pub short_draw : ℕ → ℕ → ℕ
short_draw seed k = short_of (state seed (suc k))
