-- The sizes of sums that may be missing.
use Rattle.std.proofs.Common.{◌≡◌, ◌⊎◌, ℕ, ◌+◌, ◌^◌, ◌<◌, ◌≤◌, ℤ, Bool, true}
use Rattle.std.proofs.Common.{false, cond, int_lt}
use Rattle.std.proofs.Common.{Option, Some, None, unsigned_abs, refl, arith, inl, inr}
use Rattle.std.proofs.lemmas.Int.{ints}
use Rattle.std.specs.Int.{int_max}
use Rattle.worth_core.specs.SplitKinds.{IsSmallSum, greater_sum, longer_sum}

either : (m k : ℤ) → (int_max m k ≡ m) ⊎ (int_max m k ≡ k)
either m k =
    let step : (t : Bool) → (cond t m k ≡ m) ⊎ (cond t m k ≡ k) = elim [ true ↦ inl refl | false ↦ inr refl ] in
    step (int_lt k m)

pub IsSmallSum-greater : (count : ℕ) (x y : Option ℤ) → IsSmallSum count x → IsSmallSum count y
    → IsSmallSum count (greater_sum x y)
IsSmallSum-greater count None y h k = k
IsSmallSum-greater count (Some m) None h k = h
IsSmallSum-greater count (Some m) (Some l) h k = elim (either m l) [ inl e ↦ rw e h | inr e ↦ rw e k ]

pub IsSmallSum-longer : (count : ℕ) (x : Option ℤ) (weight : ℤ) → IsSmallSum count x → unsigned_abs weight < 2 ^ 112
    → IsSmallSum (count + 1) (longer_sum x weight)
IsSmallSum-longer count None weight h small = h
IsSmallSum-longer count (Some m) weight h small = omega (arith, ints)

pub IsSmallSum-up : (count more : ℕ) (x : Option ℤ) → count ≤ more → IsSmallSum count x → IsSmallSum more x
IsSmallSum-up count more None le h = h
IsSmallSum-up count more (Some m) le h = omega (arith, h)

pub IsSmallSum-either : (count : ℕ) (x y z : Option ℤ) → IsSmallSum count x → IsSmallSum count y
    → z ≡ greater_sum x y → IsSmallSum count z
IsSmallSum-either count x y z h k e = rw e (IsSmallSum-greater count x y h k)

-- the greater of a sum and a longer one
pub IsSmallSum-next : (count : ℕ) (x y z : Option ℤ) (weight : ℤ) → IsSmallSum count x
    → unsigned_abs weight < 2 ^ 112 → y ≡ longer_sum x weight → z ≡ greater_sum x y → IsSmallSum (count + 1) z
IsSmallSum-next count x y z weight h small longer greater =
    IsSmallSum-either (count + 1) x y z (IsSmallSum-up count (count + 1) x (omega arith) h)
    (rw longer (IsSmallSum-longer count x weight h small)) greater
