use Rattle.std.proofs.Common.{◌≡◌, ℕ, ◌<◌, ◌&&◌, not, nat_eq, nat_lt}
use Rattle.definitions.specs.Coalitions.{has_player}
use Rattle.kernel_test.specs.Tables.{number_at, raised_where, IsFloor}
use Rattle.kernel_test.proofs.surpluses.Surpluses.write_row.Given as goal

abbrev pub invariant-loop-j : goal.invariant-loop-j
invariant-loop-j l = record {
  row : (a k : ℕ) → a < 16 → k < 16
      → number_at l.self.greatest a k
      ≡ raised_where (nat_eq a l.i && (nat_lt k l.j && not (has_player l.s k))) (number_at l.fn.self.greatest a k)
      l.excess;
  floor : IsFloor l.self.greatest l.i l.j l.least;
  kept : l.self.least ≡ l.fn.self.least;
}
