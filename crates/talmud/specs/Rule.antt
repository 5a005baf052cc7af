-- The Talmud rule for an estate and the claims to it (O'Neill 1982, Aumann and Maschler 1985).
--
--   cut_claims estate claims   the claims, each cut to the estate
--   cut estate claims i        the cut claim of player i
--   cut_sum estate claims      their sum
--   loss estate claims x i     what player i gets less than its cut claim, over the denominator
--   is_little estate claims    the estate is at most half of the cut claims
--   part estate claims x i     what player i gets, if the estate is at most half of them; otherwise what it loses
--   IsTalmud estate claims x   the shares are those of the rule
use Rattle.std.specs.Prelude.{◌≡◌, ℕ, ◌<◌, Bool, List, length, map, min, ℤ, pos}
use Rattle.std.specs.Prelude.{◌+ℤ◌, ◌-ℤ◌}
use Rattle.std.specs.Prelude.{◌*ℤ◌, ◌≤ℤ◌, int_le, slice_index, if◌then◌else◌}
use Rattle.std.specs.Int.{int_min}
use Rattle.definitions.specs.Sums.{sum_below}
use Rattle.definitions.specs.Games.{Allocation, share}

abbrev pub cut_claims : ℕ → List ℕ → List ℕ
cut_claims estate claims = map (λ c. min c estate) claims

abbrev pub cut : ℕ → List ℕ → ℕ → ℕ
cut estate claims i = slice_index (cut_claims estate claims) i

-- the sum of the cut claims
abbrev pub cut_sum : ℕ → List ℕ → ℤ
cut_sum estate claims = sum_below (length claims) (λ i. pos (cut estate claims i))

abbrev pub loss : ℕ → List ℕ → Allocation → ℕ → ℤ
loss estate claims x i = x.den *ℤ pos (cut estate claims i) -ℤ share x i

abbrev pub is_little : ℕ → List ℕ → Bool
is_little estate claims = int_le (pos estate +ℤ pos estate) (cut_sum estate claims)

-- what player i gets, if the estate is at most half of the cut claims, and otherwise what it loses
abbrev pub part : ℕ → List ℕ → Allocation → ℕ → ℤ
part estate claims x i = if is_little estate claims then share x i else loss estate claims x i

-- shares of the whole estate, of which each player's part is the lesser of half of its cut claim and a bound t for all
pub record IsTalmud (estate : ℕ) (claims : List ℕ) (x : Allocation) : Type 0 where
  pub players : length x.shares ≡ length claims
  pub positive : pos 1 ≤ℤ x.den
  pub all : sum_below (length claims) (share x) ≡ x.den *ℤ pos estate
  pub parts : (t : ℤ) × (pos 0 ≤ℤ t)
      × ((i : ℕ) → i < length claims
      → part estate claims x i +ℤ part estate claims x i ≡ int_min (x.den *ℤ pos (cut estate claims i)) (t +ℤ t))
