-- The worth of a coalition in each class of games, from what the class keeps.
-- Sources: Littlechild 1974 (airport games); O'Neill 1982 (bankruptcy games); Bird 1976 (tree games); Shapley and
-- Shubik 1971 (assignment games), 1954 (voting games).
--
--   table_worth worths s               the listed worth
--   negated_worth v s                  minus the worth in another game: a game of costs
--   greatest_cost                      the greatest cost among the members
--   airport_worth costs s              minus the greatest cost among the members
--   bankruptcy_worth estate claims s   O'Neill 1982: what the claims of the others leave of the estate
--   voting_worth quota weights s       1 if the members' weights sum to at least the quota, and 0 otherwise
--   Matrix, entry                      an entry for each row and column
--   joined, removed                    what passes a test, with one more point; without one
--   is_point_of, is_source             the points of the members; the source alone
--   IsAttachment, IsPlan               pairs of a connected end and a new point, until no point waits; those that
--                                      connect a coalition to the source
--   plan_cost, IsLeastCost             the entries of the pairs, added; the least cost of a plan
--   IsNoLater                          triples compare by entry, then end, then player
--   IsBirdFrom                         each pair is the least of those that lead from a connected point to a waiting
--                                      one
--   IsBirdPlan, IsBirdShares           the plan of least pairs, and what each player pays in it
--   IsSymmetric                        a matrix that is the same in both directions
--   IsTreeGame matrix g                each worth is minus the least cost of an attachment plan
--   IsMatching                         pairs of a row and a column whose players are members, no member twice
--   matching_value, IsGreatestValue    the entries of the pairs, added; the greatest value of a matching
--   IsAssignmentGame matrix rows g     each worth is the greatest value of a matching
use Rattle.std.specs.Prelude.{◌≡◌, ◌⊎◌, ℕ, zero, suc, ◌+◌, ◌-◌, ◌^◌, ◌<◌, ◌≤◌}
use Rattle.std.specs.Prelude.{IsTrue, Bool, false, not}
use Rattle.std.specs.Prelude.{◌&&◌, ◌||◌, nat_eq, List, [], ◌∷◌, length, ℤ, pos, ◌-ℤ◌}
use Rattle.std.specs.Prelude.{neg_ℤ}
use Rattle.std.specs.Prelude.{slice_index, slice_index_or, if◌then◌else◌, max, int_le}
use Rattle.std.specs.List.{AllByRecursion}
use Rattle.std.specs.Int.{int_max}
use Rattle.definitions.specs.Coalitions.{has_player, grand_coalition, sum_over}
use Rattle.definitions.specs.Games.{Game, Allocation, share}

-- the listed worth, in mask order from 1
abbrev pub table_worth : List ℤ → ℕ → ℤ
table_worth worths s = if nat_eq s 0 then pos 0 else slice_index_or worths (s - 1) (pos 0)

abbrev pub negated_worth : (ℕ → ℤ) → ℕ → ℤ
negated_worth v s = neg_ℤ (v s)

-- the greatest cost among the members, 0 for nobody
abbrev pub greatest_cost : ℕ → (ℕ → ℕ) → ℕ → ℕ
greatest_cost zero cost s = 0
greatest_cost (suc n) cost s = max (greatest_cost n cost s) (if has_player s n then cost n else 0)

-- Littlechild 1974
abbrev pub airport_worth : List ℕ → ℕ → ℤ
airport_worth costs s = neg_ℤ (pos (greatest_cost (length costs) (slice_index costs) s))

abbrev pub bankruptcy_worth : ℕ → List ℕ → ℕ → ℤ
bankruptcy_worth estate claims s =
    int_max (pos 0)
    (pos estate
    -ℤ sum_over (length claims) (λ i. pos (slice_index claims i)) (grand_coalition (length claims) - s))

-- Shapley and Shubik 1954: 1 if the members' weights sum to at least the quota
abbrev pub voting_worth : ℕ → List ℕ → ℕ → ℤ
voting_worth quota weights s =
    if int_le (pos quota) (sum_over (length weights) (λ i. pos (slice_index weights i)) s) then pos 1 else pos 0

-- an entry for each row and column
abbrev pub Matrix : Type 0
Matrix = ℕ → ℕ → ℕ

-- the entry of row i and column j
abbrev pub entry : Matrix → ℕ → ℕ → ℕ
entry matrix i j = matrix i j

-- ---- sets of points or players, as tests
--
-- A set is a test on numbers, and a matrix a function of row and column: so matrices kept flat and matrices kept as
-- lists of rows are served alike.

-- p and what passes the test
abbrev pub joined : (ℕ → Bool) → ℕ → ℕ → Bool
joined test p j = nat_eq j p || test j

-- what passes the test, but for p
abbrev pub removed : (ℕ → Bool) → ℕ → ℕ → Bool
removed test p j = not (nat_eq j p) && test j

-- ---- trees (Bird 1976): point 0 is the source, and point i + 1 is player i

-- the points of the members of s
abbrev pub is_point_of : ℕ → ℕ → Bool
is_point_of s zero = false
is_point_of s (suc i) = has_player s i

-- the source alone
abbrev pub is_source : ℕ → Bool
is_source j = nat_eq j 0

-- pairs of an end and a new point, from the connected points to all that wait: each end is connected before, and
-- each waiting point comes once
abbrev pub IsAttachment : (ℕ → Bool) → (ℕ → Bool) → List (ℕ × ℕ) → Type 0
IsAttachment connected waiting [] = (j : ℕ) → waiting j ≡ false
IsAttachment connected waiting (p ∷ plan) =
    IsTrue (connected p.0) × IsTrue (waiting p.1) × IsAttachment (joined connected p.1) (removed waiting p.1) plan

-- an attachment plan of the coalition s begins with the source alone
abbrev pub IsPlan : ℕ → List (ℕ × ℕ) → Type 0
IsPlan s plan = IsAttachment is_source (is_point_of s) plan

-- the entries of the pairs, added
abbrev pub plan_cost : Matrix → List (ℕ × ℕ) → ℕ
plan_cost matrix [] = 0
plan_cost matrix (p ∷ plan) = entry matrix p.0 p.1 + plan_cost matrix plan

-- cost is the least cost of an attachment plan of s
pub record IsLeastCost (matrix : Matrix) (s : ℕ) (cost : ℕ) : Type 0 where
  pub reached : (plan : List (ℕ × ℕ)) × IsPlan s plan × (cost ≡ plan_cost matrix plan)
  pub least : (plan : List (ℕ × ℕ)) → IsPlan s plan → cost ≤ plan_cost matrix plan

abbrev pub IsNoLater : Matrix → ℕ × ℕ → ℕ × ℕ → Type 0
IsNoLater matrix p r =
    (entry matrix p.0 p.1 < entry matrix r.0 r.1)
    ⊎ ((entry matrix p.0 p.1 ≡ entry matrix r.0 r.1) × ((p.0 < r.0) ⊎ ((p.0 ≡ r.0) × (p.1 ≤ r.1))))

abbrev pub IsBirdFrom : Matrix → (ℕ → Bool) → (ℕ → Bool) → List (ℕ × ℕ) → Type 0
IsBirdFrom matrix connected waiting [] = (j : ℕ) → waiting j ≡ false
IsBirdFrom matrix connected waiting (p ∷ plan) =
    IsTrue (connected p.0)
    × IsTrue (waiting p.1)
    × ((r : ℕ × ℕ) → IsTrue (connected r.0) → IsTrue (waiting r.1) → IsNoLater matrix p r)
    × IsBirdFrom matrix (joined connected p.1) (removed waiting p.1) plan

-- the Bird plan of the coalition s
abbrev pub IsBirdPlan : Matrix → ℕ → List (ℕ × ℕ) → Type 0
IsBirdPlan matrix s plan = IsBirdFrom matrix is_source (is_point_of s) plan

-- each player pays the entry of its pair
abbrev pub IsBirdShares : Matrix → List (ℕ × ℕ) → Allocation → Type 0
IsBirdShares matrix plan x =
    (x.den ≡ pos 1) × AllByRecursion (λ p. share x (p.1 - 1) ≡ neg_ℤ (pos (entry matrix p.0 p.1))) plan

-- the entry of a pair doesn't change if its points are swapped
abbrev pub IsSymmetric : Matrix → Type 0
IsSymmetric matrix = (i j : ℕ) → entry matrix i j ≡ entry matrix j i

abbrev pub IsTreeGame : Matrix → Game → Type 0
IsTreeGame matrix g =
    (s : ℕ) → s < 2 ^ g.players → (cost : ℕ) × (g.worth s ≡ neg_ℤ (pos cost)) × IsLeastCost matrix s cost

-- ---- assignments (Shapley and Shubik 1971): row i is player i, and column j is player rows + j

abbrev pub IsMatching : ℕ → (ℕ → Bool) → List (ℕ × ℕ) → Type 0
IsMatching rows member [] = Unit {0}
IsMatching rows member (p ∷ ps) =
    (p.0 < rows) × IsTrue (member p.0) × IsTrue (member (rows + p.1))
    × IsMatching rows (removed (removed member p.0) (rows + p.1)) ps

-- the entries of the pairs, added
abbrev pub matching_value : Matrix → List (ℕ × ℕ) → ℕ
matching_value matrix [] = 0
matching_value matrix (p ∷ ps) = entry matrix p.0 p.1 + matching_value matrix ps

-- value is the greatest value of a matching within s
pub record IsGreatestValue (matrix : Matrix) (rows : ℕ) (s : ℕ) (value : ℕ) : Type 0 where
  pub reached : (ps : List (ℕ × ℕ)) × IsMatching rows (has_player s) ps × (value ≡ matching_value matrix ps)
  pub greatest : (ps : List (ℕ × ℕ)) → IsMatching rows (has_player s) ps → matching_value matrix ps ≤ value

abbrev pub IsAssignmentGame : Matrix → ℕ → Game → Type 0
IsAssignmentGame matrix rows g =
    (s : ℕ) → s < 2 ^ g.players → (value : ℕ) × (g.worth s ≡ pos value) × IsGreatestValue matrix rows s value
