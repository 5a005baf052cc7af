-- What the Talmud rule promises if somebody else claims as well, or claims more (Aumann and Maschler 1985; Thomson
-- 2003). Each law is the contract of a function of this crate.
--
--   FurtherClaimantsGiveNobodyMore   of one estate nobody gets more if others claim as well
--   ARisenClaim                      whose claim rises gets no less, and nobody else gets more
--   AGreaterWhole                    if all together are worth more, and each other coalition what it was, nobody
--                                    gets less (aggregate monotonicity: Megiddo 1974)
--   of_ten, of_eleven                what claims of 6, 7 and 8 get of 10, and claims of 7, 8 and 9 of 11
--   AllOfThreeAreWorthMore           an example of that: there all together alone are worth more
use Rattle.std.specs.Prelude.{◌≡◌, ◌≢◌, ℕ, ◌<◌, ◌≤◌, List, [], ◌∷◌, length, ◌++◌, pos, ◌*ℤ◌, ◌≤ℤ◌, slice_index}
use Rattle.definitions.specs.Classes.{bankruptcy_worth}
use Rattle.definitions.specs.Coalitions.{grand_coalition}
use Rattle.definitions.specs.Games.{Allocation, share}
use Rattle.talmud.specs.Rule.{IsTalmud}

-- those who claim as well stand behind the others in the list
abbrev pub FurtherClaimantsGiveNobodyMore : Type 0
FurtherClaimantsGiveNobodyMore =
    (estate : ℕ) (claims further : List ℕ) (x y : Allocation) (i : ℕ) →
    IsTalmud estate claims x → IsTalmud estate (claims ++ further) y → i < length claims →
    (share y i *ℤ x.den) ≤ℤ (share x i *ℤ y.den)

-- player i comes to claim more, and the others claim what they claimed
abbrev pub ARisenClaim : Type 0
ARisenClaim =
    (estate : ℕ) (claims risen : List ℕ) (x y : Allocation) (i : ℕ) → i < length claims →
    length risen ≡ length claims → slice_index claims i ≤ slice_index risen i →
    ((k : ℕ) → k < length claims → k ≢ i → slice_index risen k ≡ slice_index claims k) →
    IsTalmud estate claims x → IsTalmud estate risen y →
    ((share x i *ℤ y.den) ≤ℤ (share y i *ℤ x.den))
    × ((j : ℕ) → j < length claims → j ≢ i → (share y j *ℤ x.den) ≤ℤ (share x j *ℤ y.den))

-- All claimants are worth the estate together. So if the estate is greater, and each other coalition worth what it was,
-- the claims differ too
abbrev pub AGreaterWhole : Type 0
AGreaterWhole =
    (estate more : ℕ) (claims others : List ℕ) (x y : Allocation) (i : ℕ) → estate ≤ more →
    length others ≡ length claims →
    ((s : ℕ) → s < grand_coalition (length claims) →
    bankruptcy_worth estate claims s ≡ bankruptcy_worth more others s) →
    IsTalmud estate claims x → IsTalmud more others y → i < length claims →
    (share x i *ℤ y.den) ≤ℤ (share y i *ℤ x.den)

-- ---- an example in which all together alone are worth more

-- 3, 7/2 and 7/2
abbrev pub of_ten : Allocation
of_ten = record { shares = pos 6 ∷ (pos 7 ∷ (pos 7 ∷ [])); den = pos 2 }

-- 7/2, 15/4 and 15/4
abbrev pub of_eleven : Allocation
of_eleven = record { shares = pos 14 ∷ (pos 15 ∷ (pos 15 ∷ [])); den = pos 4 }

-- Of 10 with claims of 6, 7 and 8, and of 11 with claims of 7, 8 and 9, each coalition but that of all is worth the
-- same. Each two claims cover the estate: of three or more claimants, all together alone can be worth more only then
abbrev pub AllOfThreeAreWorthMore : Type 0
AllOfThreeAreWorthMore =
    ((s : ℕ) → s < grand_coalition 3 →
    bankruptcy_worth 10 (6 ∷ (7 ∷ (8 ∷ []))) s ≡ bankruptcy_worth 11 (7 ∷ (8 ∷ (9 ∷ []))) s)
    × IsTalmud 10 (6 ∷ (7 ∷ (8 ∷ []))) of_ten
    × IsTalmud 11 (7 ∷ (8 ∷ (9 ∷ []))) of_eleven
