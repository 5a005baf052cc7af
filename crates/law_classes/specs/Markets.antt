-- Markets of buyers and sellers (Shapley and Shubik 1971). Each law is the contract of a function of this crate.
--
--   NucleolusIsBetween   the nucleolus gives each player no less than the core point that is best for the other side,
--                        and no more than the one that is best for its own
--   better_for test x z  of two allocations the greater share for who passes the test, and the lesser for the others
--   CoreIsALattice       of two core points the greater share for each buyer, and the lesser for each seller, make a
--                        core point; and the other way round
use Rattle.std.specs.Prelude.{ℕ, ◌<◌, Bool, not, nat_lt, map, length, if◌then◌else◌, ◌*ℤ◌, ◌≤ℤ◌}
use Rattle.std.specs.Int.{int_max, int_min}
use Rattle.std.specs.List.{range_with_len}
use Rattle.definitions.specs.Classes.{Matrix, IsAssignmentGame}
use Rattle.definitions.specs.Games.{Game, Allocation, share, IsNucleolus, InCore}
use Rattle.definitions.specs.Measures.{IsMeasurable}
use Rattle.definitions.specs.Sides.{IsBestFor, IsBuyer, IsSeller}
use Rattle.definitions.specs.declared.Family.{Family}
use Rattle.definitions.specs.declared.Measure.{Measure}

-- the nucleolus, and the prenucleolus, plain and per head
abbrev pub NucleolusIsBetween : Type 0
NucleolusIsBetween =
    (family : Family) (measure : Measure) (matrix : Matrix) (buyers : ℕ) (g : Game) (x b c : Allocation) (i : ℕ) →
    IsMeasurable measure g.players → IsAssignmentGame matrix buyers g → IsNucleolus family measure g x →
    i < g.players → IsBestFor g (IsBuyer buyers) b → IsBestFor g (IsSeller buyers) c →
    (IsBuyer buyers i →
    ((share c i *ℤ x.den) ≤ℤ (share x i *ℤ c.den)) × ((share x i *ℤ b.den) ≤ℤ (share b i *ℤ x.den)))
    × (IsSeller buyers i →
    ((share b i *ℤ x.den) ≤ℤ (share x i *ℤ b.den)) × ((share x i *ℤ c.den) ≤ℤ (share c i *ℤ x.den)))

-- over the product of the two denominators
abbrev pub better_for : (ℕ → Bool) → Allocation → Allocation → Allocation
better_for test x z = record {
  shares = map
      (λ i. if test i then int_max (z.den *ℤ share x i) (x.den *ℤ share z i)
      else int_min (z.den *ℤ share x i) (x.den *ℤ share z i)) (range_with_len 0 (length x.shares));
  den = x.den *ℤ z.den;
}

abbrev pub CoreIsALattice : Type 0
CoreIsALattice =
    (matrix : Matrix) (buyers : ℕ) (g : Game) (x z : Allocation) → IsAssignmentGame matrix buyers g →
    InCore g x → InCore g z →
    InCore g (better_for (λ i. nat_lt i buyers) x z) × InCore g (better_for (λ i. not (nat_lt i buyers)) x z)
