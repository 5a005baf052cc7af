-- For the private functions of this crate.
-- How the estate is divided: what the code keeps.
--
--   is_gain      whether what players get is divided by halves, and not what they lose
--   claim_sum    the sum of the claims
--   divided      what is divided by halves: the estate, or what the claims are above it
--   IsSplit      how many get half of their claims, and what is left for the others
--   IsSide       whether the estate is at most half of the claims
--   IsDivision   who gets half, and the bound for the others
--   award        the share of a claim
use Rattle.std.specs.Prelude.{◌≡◌, ℕ, ◌-◌, ◌*◌, ◌<◌, ◌≤◌, Bool, true, false, length}
use Rattle.std.specs.Prelude.{min, ℤ, pos}
use Rattle.std.specs.Prelude.{◌+ℤ◌, ◌-ℤ◌, ◌*ℤ◌, ◌<ℤ◌, ◌≤ℤ◌, slice_index, if◌then◌else◌}
use Rattle.definitions.specs.Sums.{sum_below}
use Rattle.orders.specs.Ordered.{OrderedNumbers, number_at}
use Rattle.talmud.specs.declared.division.Side.{Side}
use Rattle.talmud.specs.declared.division.Side.TheVariants.{Gain, Loss}

abbrev pub is_gain : Side → Bool
is_gain Gain = true
is_gain Loss = false

abbrev pub claim_sum : OrderedNumbers → ℤ
claim_sum c = sum_below (length c.numbers) (λ i. pos (slice_index c.numbers i))

abbrev pub divided : ℕ → OrderedNumbers → Bool → ℤ
divided estate c gain = if gain then pos estate else claim_sum c -ℤ pos estate

-- the claims at the first m places are taken from twice what there is to divide, and each of them times the places
-- behind is at most what is left
pub record IsSplit (n : ℕ) (claim : ℕ → ℕ) (double m left : ℕ) : Type 0 where
  pub within : m ≤ n
  pub sum : sum_below m (λ j. pos (claim j)) +ℤ pos left ≡ pos double
  pub most : left ≤ double
  pub under : (j : ℕ) → j < m → claim j * (n - m) ≤ left

pub record IsSide (estate : ℕ) (c : OrderedNumbers) (gain : Bool) : Type 0 where
  pub little : gain ≡ true → (pos estate +ℤ pos estate) ≤ℤ claim_sum c
  pub much : gain ≡ false → claim_sum c <ℤ (pos estate +ℤ pos estate)

-- the first m players get half of their claims, which is at most t over twice h; half of each other claim is more
-- than t; and the lesser of the two is the part of each in what is divided
pub record IsDivision (estate : ℕ) (c : OrderedNumbers) (gain : Bool) (m h t : ℕ) : Type 0 where
  pub within : m ≤ length c.numbers
  pub some : 1 ≤ h
  pub side : IsSide estate c gain
  pub half : (j : ℕ) → j < m → number_at c j * h ≤ t
  pub rest : (j : ℕ) → m ≤ j → j < length c.numbers → t < number_at c j * h
  pub sum : sum_below (length c.numbers) (λ i. pos (min (slice_index c.numbers i * h) t))
      ≡ (pos h +ℤ pos h) *ℤ divided estate c gain

-- the share of a claim over twice h: the lesser of half of it and t, or the claim less that
abbrev pub award : Bool → ℕ → ℕ → ℕ → ℕ
award gain h t claim = if gain then min (claim * h) t else 2 * (claim * h) - min (claim * h) t
