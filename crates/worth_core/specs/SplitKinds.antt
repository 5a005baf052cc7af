-- The sets of the players seen so far, told apart by what they hold and lack of some players f, and the greatest
-- sum of each kind.
--
--   holds_some n f s           s holds some player of f
--   lacks_some n f seen s      s lacks some player of f that is seen
--   IsSeenSet                  a set of seen players that passes a test of these two
--   IsGreatestSum              the greatest sum of the members' numbers over these sets, and none if there is none
--   Sums                       a sum for each kind of sets, and the number of players seen
--   AreSplitSums               the greatest sums of the four kinds
--   IsOneMore                  the sums with one more player seen
--   IsSmallSum, AreSmallSums   a sum over at most so many players; each sum is such a one
--   greater_sum                the greater of two sums, if there are any
--   longer_sum                 a sum and one more number
use Rattle.std.specs.Prelude.{◌≡◌, ℕ, ◌+◌, ◌*◌, ◌^◌, ◌<◌, ◌≤◌, Bool, true, false}
use Rattle.std.specs.Prelude.{not, ◌&&◌, IsTrue, ℤ}
use Rattle.std.specs.Prelude.{◌+ℤ◌, Option, None, Some, IfSome, MatchOption, unsigned_abs}
use Rattle.std.specs.Int.{int_max}
use Rattle.definitions.specs.Sums.{IsGreatest}
use Rattle.definitions.specs.Coalitions.{has_player, some_below, sum_over}

abbrev pub holds_some : ℕ → ℕ → ℕ → Bool
holds_some n f s = some_below n (λ i. has_player f i && has_player s i)

abbrev pub lacks_some : ℕ → ℕ → ℕ → ℕ → Bool
lacks_some n f seen s = some_below n (λ i. (has_player f i && has_player seen i) && not (has_player s i))

-- a set of seen players that passes a test of whether it holds some of f, and whether it lacks some
abbrev pub IsSeenSet : ℕ → ℕ → ℕ → (Bool → Bool → Bool) → ℕ → Type 0
IsSeenSet n f seen test s =
    (s < 2 ^ n) × ((i : ℕ) → has_player s i ≡ true → has_player seen i ≡ true)
    × IsTrue (test (holds_some n f s) (lacks_some n f seen s))

-- the greatest sum of the members' numbers over these sets, and none if there is no such set
abbrev pub IsGreatestSum : ℕ → (ℕ → ℤ) → ℕ → ℕ → (Bool → Bool → Bool) → Option ℤ → Type 0
IsGreatestSum n a f seen test sum =
    MatchOption sum ((s : ℕ) → ¬ IsSeenSet n f seen test s)
    (λ m. IsGreatest (IsSeenSet n f seen test) (sum_over n a) m)

pub record Sums : Type 0 where
  pub neither : Option ℤ
  pub holding : Option ℤ
  pub lacking : Option ℤ
  pub both : Option ℤ
  pub count : ℕ

-- the greatest sums over the sets that hold none of f and lack none, that only hold some, that only lack some, and
-- that do both
pub record AreSplitSums (n : ℕ) (a : ℕ → ℤ) (f seen : ℕ) (sums : Sums) : Type 0 where
  pub neither : IsGreatestSum n a f seen (λ holds lacks. not holds && not lacks) sums.neither
  pub holding : IsGreatestSum n a f seen (λ holds lacks. holds && not lacks) sums.holding
  pub lacking : IsGreatestSum n a f seen (λ holds lacks. not holds && lacks) sums.lacking
  pub both : IsGreatestSum n a f seen (λ holds lacks. holds && lacks) sums.both

-- whatever was seen before, the sums with one more player seen, of this number and in f or not
abbrev pub IsOneMore : Sums → Bool → ℤ → Sums → Type 0
IsOneMore before is_free weight after =
    (n : ℕ) (a : ℕ → ℤ) (f seen i : ℕ) → i < n → has_player seen i ≡ false → has_player f i ≡ is_free → a i ≡ weight
    → AreSplitSums n a f seen before → AreSplitSums n a f (seen + 2 ^ i) after

-- ---- limits

-- a sum over at most so many players
abbrev pub IsSmallSum : ℕ → Option ℤ → Type 0
IsSmallSum count sum = IfSome sum (λ m. unsigned_abs m ≤ count * 2 ^ 112)

-- at most 64 players are seen, and each sum is as small as their number allows
pub record AreSmallSums (sums : Sums) : Type 0 where
  pub few : sums.count ≤ 64
  pub neither : IsSmallSum sums.count sums.neither
  pub holding : IsSmallSum sums.count sums.holding
  pub lacking : IsSmallSum sums.count sums.lacking
  pub both : IsSmallSum sums.count sums.both

-- ---- sums that may be missing

abbrev pub greater_sum : Option ℤ → Option ℤ → Option ℤ
greater_sum None k = k
greater_sum (Some m) None = Some m
greater_sum (Some m) (Some k) = Some (int_max m k)

abbrev pub longer_sum : Option ℤ → ℤ → Option ℤ
longer_sum None weight = None
longer_sum (Some m) weight = Some (m +ℤ weight)
