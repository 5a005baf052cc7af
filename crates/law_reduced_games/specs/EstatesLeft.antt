-- An estate when some claimants take their shares and go (O'Neill 1982; Aumann and Maschler 1985).
--
--   IsEstateLeft          what is left of the estate, and the claims of those who stay
--   AreAwards             shares of the whole estate, of nobody above the claim nor below nothing
--   EstatesAreLeft        there is such an estate
--   ReducedEstate         the reduced game of an estate is the game of the estate that is left
--   EstateByNucleolus     the nucleolus gives those who stay of it what they had
--   TalmudIsConsistent    and so does the Talmud rule
--   heirs                 shares of 50, 75 and 75
--   HeirsLeft             an example that meets these definitions, and one that doesn't
use Rattle.std.specs.Prelude.{◌≡◌, ℕ, suc, ◌<◌, List, [], ◌∷◌, length, pos, ◌-ℤ◌, ◌*ℤ◌, ◌≤ℤ◌, slice_index}
use Rattle.definitions.specs.Sums.{sum_below}
use Rattle.definitions.specs.Coalitions.{grand_coalition}
use Rattle.definitions.specs.Games.{Allocation, share, IsAllocation, IsEfficient, IsNucleolus}
use Rattle.definitions.specs.declared.Family.{Family}
use Rattle.definitions.specs.declared.Measure.TheVariants.{Plain}
use Rattle.law_answers.specs.ClassGames.{bankruptcy_game}
use Rattle.law_answers.specs.TalmudRule.{claimed}
use Rattle.talmud.specs.Rule.{IsTalmud}
use Rattle.law_reduced_games.specs.ReducedGames.{AreSome, staying_shares, amount_leaving, IsReducedGame}

-- In units of 1 over the denominator of x, what is left of the estate when those who go are paid, and the claims of
-- those who stay
pub record IsEstateLeft (m : ℕ) (who : ℕ → ℕ) (estate : ℕ) (claims : List ℕ) (x : Allocation) (left : ℕ)
    (left_claims : List ℕ) : Type 0 where
  pub paid : pos left ≡ x.den *ℤ pos estate -ℤ amount_leaving m who x (grand_coalition (length claims))
  pub players : length left_claims ≡ m
  pub same : (k : ℕ) → k < m → pos (slice_index left_claims k) ≡ claimed claims x (who k)

-- awards (Thomson 2003): the shares divide the whole estate, and nobody gets more than the claim, nor less than nothing
pub record AreAwards (estate : ℕ) (claims : List ℕ) (x : Allocation) : Type 0 where
  pub all : IsAllocation (bankruptcy_game estate claims) x × IsEfficient (bankruptcy_game estate claims) x
  pub each : (i : ℕ) → i < length claims → (pos 0 ≤ℤ share x i) × (share x i ≤ℤ claimed claims x i)

-- if those who go got their awards, there is an estate left
abbrev pub EstatesAreLeft : Type 0
EstatesAreLeft =
    (m : ℕ) (who : ℕ → ℕ) (estate : ℕ) (claims : List ℕ) (x : Allocation) →
    AreSome (length claims) m who → AreAwards estate claims x →
    (left : ℕ) × (left_claims : List ℕ) × IsEstateLeft m who estate claims x left left_claims

-- and its game is the reduced game of the estate's
abbrev pub ReducedEstate : Type 0
ReducedEstate =
    (m : ℕ) (who : ℕ → ℕ) (estate left : ℕ) (claims left_claims : List ℕ) (x : Allocation) →
    AreSome (length claims) m who → AreAwards estate claims x →
    IsEstateLeft m who estate claims x left left_claims →
    IsReducedGame m who (bankruptcy_game estate claims) x (bankruptcy_game left left_claims)

-- so by the nucleolus, and the prenucleolus, each who stays gets of it what it had
abbrev pub EstateByNucleolus : Type 0
EstateByNucleolus =
    (family : Family) (m : ℕ) (who : ℕ → ℕ) (estate left : ℕ) (claims left_claims : List ℕ) (x : Allocation) →
    pos estate ≤ℤ sum_below (length claims) (λ i. pos (slice_index claims i)) →
    AreSome (length claims) m who → IsEstateLeft m who estate claims x left left_claims →
    IsNucleolus family Plain (bankruptcy_game estate claims) x →
    IsNucleolus family Plain (bankruptcy_game left left_claims) (staying_shares m who x)

-- if some claimants take what the Talmud rule gives them and go, the rule divides what is left so that each of the
-- others gets what it had
abbrev pub TalmudIsConsistent : Type 0
TalmudIsConsistent =
    (m : ℕ) (who : ℕ → ℕ) (estate left : ℕ) (claims left_claims : List ℕ) (x : Allocation) →
    AreSome (length claims) m who → IsEstateLeft m who estate claims x left left_claims →
    IsTalmud estate claims x → IsTalmud left left_claims (staying_shares m who x)

-- ---- an example that meets these definitions, and one that doesn't

-- who claim 100, 200 and 300 get 50, 75 and 75 of 200
abbrev pub heirs : Allocation
heirs = record { shares = pos 50 ∷ (pos 75 ∷ (pos 75 ∷ [])); den = pos 1 }

-- These are awards, and 150, 25 and 25 aren't, since the first gets more than its claim. If the first goes, 150 and
-- the claims of 200 and 300 are left, and the whole estate isn't
abbrev pub HeirsLeft : Type 0
HeirsLeft =
    AreAwards 200 (100 ∷ (200 ∷ (300 ∷ []))) heirs
    × ¬ AreAwards 200 (100 ∷ (200 ∷ (300 ∷ []))) (record { shares = pos 150 ∷ (pos 25 ∷ (pos 25 ∷ [])); den = pos 1 })
    × IsEstateLeft 2 (λ k. suc k) 200 (100 ∷ (200 ∷ (300 ∷ []))) heirs 150 (200 ∷ (300 ∷ []))
    × ¬ IsEstateLeft 2 (λ k. suc k) 200 (100 ∷ (200 ∷ (300 ∷ []))) heirs 200 (200 ∷ (300 ∷ []))
