-- What the definitions imply for shares that are real numbers, or numbers of any linearly ordered abelian group. Each
-- statement is the contract of a function of this crate. The lemmas behind the contracts are for numbers of any set.
--
--   SoundOverGroups              a certificate that meets its conditions certifies the nucleolus over every such group
--   SoundForReals                and, written as real numbers, that among real shares
--   RealsAreOrdered              the real numbers are a linearly ordered abelian group with a unit above zero
--   RealsAreThere                by excluded middle there are such numbers
--   fractions_over q             the fractions over q, by their numerators
--   FractionsAreOrdered          they are such a group too
--   FractionsAreShares           the nucleolus over these groups is that of Games.antt
--   pairs                        pairs of integers, by the first and then by the second, with the unit (0, 1)
--   PairsAreOrdered              they are such a group, in which (1, 0) stands above all multiples of the unit
--   CollectionsBlockOverGroups   no core point over a group stands beside a balanced collection of excess worth
--   CollectionsBlockForReals     and none in real shares
--   CorePointsForReals           a core point in fractions, written as real numbers, is a core point in real shares
--   PrekernelForReals            and so it is with the prekernel
--   OneAmongReals                a game has at most one nucleolus among real shares
--   UnbeatenIsSame               a member of the family over a group that the nucleolus doesn't beat has its shares
use Rattle.std.specs.Prelude.{◌⊎◌, ◌&&◌, ◌||◌, nat_eq, if◌then◌else◌, int_lt, int_le, ℕ, ℤ, pos}
use Rattle.std.specs.Prelude.{◌+ℤ◌, ◌-ℤ◌, ◌≤ℤ◌}
use Rattle.std.specs.Prelude.{◌↔◌, List}
use Rattle.definitions.specs.Measures.{IsMeasurable}
use Rattle.definitions.specs.Games.{Game, Allocation, InCore, IsNucleolus}
use Rattle.definitions.specs.Balanced.{IsBalancedOfExcessWorth}
use Rattle.definitions.specs.Prekernel.{InPrekernel}
use Rattle.definitions.specs.Certificates.{Level, HasForm, Certifies}
use Rattle.definitions.specs.declared.Family.{Family}
use Rattle.definitions.specs.declared.Measure.{Measure}
use Rattle.definitions.specs.declared.Mode.{Mode}
use Rattle.real_shares.specs.Numbers.{Numbers, Less, times, IsOrderedGroup}
use Rattle.real_shares.specs.Shares.{InFamilyOver, HaveSameShares, IsNucleolusAmong, BeatsOver, IsSameOver}
use Rattle.real_shares.specs.Shares.{IsNucleolusOver, InCoreOver}
use Rattle.real_shares.specs.Reals.{Real, IsAtMost, AreReals}
use Rattle.real_shares.specs.Claims.{IsNucleolusOverGroups, IsNucleolusForReals, InCoreForReals}
use Rattle.real_shares.specs.Claims.{InPrekernelForReals, HasNoCoreForReals}

abbrev pub SoundOverGroups : Type 0
SoundOverGroups =
    (mode : Mode) (family : Family) (measure : Measure) (g : Game) (x : Allocation) (levels : List Level)
    → IsMeasurable measure g.players → HasForm mode g.players levels → Certifies mode family measure g x levels
    → IsNucleolusOverGroups family measure g x

abbrev pub SoundForReals : Type 0
SoundForReals =
    (mode : Mode) (family : Family) (measure : Measure) (g : Game) (x : Allocation) (levels : List Level)
    → IsMeasurable measure g.players → HasForm mode g.players levels → Certifies mode family measure g x levels
    → IsNucleolusForReals family measure g x

abbrev pub RealsAreOrdered : Type 0
RealsAreOrdered = (N : Numbers Real) → AreReals N → IsOrderedGroup N

-- if excluded middle holds of the order of each two real numbers, there are such numbers
abbrev pub RealsAreThere : Type 0
RealsAreThere =
    ((a b : Real) → (¬ IsAtMost a b) ⊎ (¬ (¬ IsAtMost a b))) → (N : Numbers Real) × AreReals N

abbrev pub fractions_over : ℤ → Numbers ℤ
fractions_over q =
    record { zero = pos 0; unit = q; plus = λ a b. a +ℤ b; minus = λ a. pos 0 -ℤ a; at_most = int_le }

-- the fractions over q are a linearly ordered abelian group with a unit above zero
abbrev pub FractionsAreOrdered : Type 0
FractionsAreOrdered = (q : ℤ) → pos 1 ≤ℤ q → IsOrderedGroup (fractions_over q)

-- the nucleolus of Games.antt is that over the fractions
abbrev pub FractionsAreShares : Type 0
FractionsAreShares =
    (family : Family) (measure : Measure) (g : Game) (x : Allocation)
    → IsNucleolus family measure g x
    ↔ ((q : ℤ) → pos 1 ≤ℤ q → IsNucleolusOver (fractions_over q) family measure g x)

-- pairs of integers, by the first and then by the second; the pair of f is f 0 and f 1
abbrev pub pairs : Numbers (ℕ → ℤ)
pairs = record {
  zero = λ k. pos 0;
  unit = λ k. if nat_eq k 1 then pos 1 else pos 0;
  plus = λ f h k. f k +ℤ h k;
  minus = λ f k. pos 0 -ℤ f k;
  at_most = λ f h. int_lt (f 0) (h 0) || (int_le (f 0) (h 0) && int_le (f 1) (h 1));
}

-- the pairs are a linearly ordered abelian group with a unit above zero, and (1, 0) is above each multiple of the unit
abbrev pub PairsAreOrdered : Type 0
PairsAreOrdered =
    IsOrderedGroup pairs
    × ((k : ℕ) → Less pairs (times pairs (pos k) pairs.unit) (λ i. if nat_eq i 0 then pos 1 else pos 0))

abbrev pub CollectionsBlockOverGroups : Type 0
CollectionsBlockOverGroups =
    (g : Game) (ps : List (ℕ × ℤ)) (k : ℤ) → IsBalancedOfExcessWorth g ps k
    → (N : Numbers (ℕ → ℤ)) → IsOrderedGroup N → (y : List (ℕ → ℤ)) → ¬ InCoreOver N g y

abbrev pub CollectionsBlockForReals : Type 0
CollectionsBlockForReals =
    (g : Game) (ps : List (ℕ × ℤ)) (k : ℤ) → IsBalancedOfExcessWorth g ps k → HasNoCoreForReals g

abbrev pub CorePointsForReals : Type 0
CorePointsForReals = (g : Game) (x : Allocation) → InCore g x → InCoreForReals g x

-- shares in fractions that lie in the prekernel lie there among real shares
abbrev pub PrekernelForReals : Type 0
PrekernelForReals = (g : Game) (x : Allocation) → InPrekernel g x → InPrekernelForReals g x

abbrev pub OneAmongReals : Type 0
OneAmongReals =
    (N : Numbers Real) → AreReals N → (family : Family) (measure : Measure) (g : Game) (y z : List Real)
    → IsNucleolusAmong N family measure g y → IsNucleolusAmong N family measure g z → HaveSameShares N g y z

abbrev pub UnbeatenIsSame : Type 0
UnbeatenIsSame =
    (N : Numbers (ℕ → ℤ)) (family : Family) (measure : Measure) (g : Game) (x : Allocation) (y : List (ℕ → ℤ))
    → IsNucleolusOver N family measure g x → InFamilyOver N family g y → (¬ BeatsOver N measure g x y)
    → IsSameOver N g x y
