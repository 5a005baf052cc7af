-- What the Talmud rule promises to the claimants (Aumann and Maschler 1985). Each statement is the contract of a
-- function of this crate.
--
--   unclaimed             what of an amount a claim leaves
--   IsGarment             two shares divide what they are together as the contested garment
--   claimed               the claim of player i, over the denominator of the shares
--   EachTwoAreAGarment    each two claimants divide what they get together as the contested garment
--   IsConsistent          shares of the estate in which each two claimants do
--   NoOtherIsConsistent   the rule's shares are the only ones of this kind
--   TalmudSharesExist     each estate of at most the claims has shares of the rule
--   BalanceIsTheGarment   in the core, to balance every two players is to be consistent
--   EveryNucleolus        every nucleolus of the game has the rule's shares
--   LossesAreAlike        what is missing is divided as an estate is (self-duality)
--   MoreEstate            of a greater estate nobody gets less
--   NobodyGetsMore        nobody gets more than the claim, nor less than nothing
--   WhoClaimsMore         who claims no less gets no less, and loses no less
use Rattle.std.specs.Prelude.{◌≢◌, ◌≡◌, ℕ, ◌<◌, ◌≤◌, List, length, ℤ, pos, ◌+ℤ◌}
use Rattle.std.specs.Prelude.{◌-ℤ◌, ◌*ℤ◌, ◌≤ℤ◌, slice_index}
use Rattle.std.specs.Int.{int_max}
use Rattle.definitions.specs.Sums.{sum_below}
use Rattle.definitions.specs.Games.{Allocation, share, InCore, IsNucleolus}
use Rattle.definitions.specs.Prekernel.{InPrekernel}
use Rattle.definitions.specs.declared.Family.{Family}
use Rattle.definitions.specs.declared.Measure.TheVariants.{Plain}
use Rattle.law_answers.specs.ClassGames.{bankruptcy_game}
use Rattle.talmud.specs.Rule.{IsTalmud}

-- ---- the contested garment

-- what of an amount a claim leaves: the amount above the claim, and nothing of less
abbrev pub unclaimed : ℤ → ℤ → ℤ
unclaimed amount claim = int_max (amount -ℤ claim) (pos 0)

-- The shares of two claims divide what they are together as the contested garment (Mishnah, Bava Metzia 2a): each first
-- gets what the other claim leaves of it, and of the rest both get the same.
abbrev pub IsGarment : ℤ → ℤ → ℤ → ℤ → Type 0
IsGarment claim other_claim got other_got =
    got -ℤ unclaimed (got +ℤ other_got) other_claim ≡ other_got -ℤ unclaimed (got +ℤ other_got) claim

abbrev pub claimed : List ℕ → Allocation → ℕ → ℤ
claimed claims x i = x.den *ℤ pos (slice_index claims i)

abbrev pub EachTwoAreAGarment : Type 0
EachTwoAreAGarment =
    (estate : ℕ) (claims : List ℕ) (x : Allocation) (i j : ℕ) → IsTalmud estate claims x →
    i < length claims → j < length claims → i ≢ j →
    IsGarment (claimed claims x i) (claimed claims x j) (share x i) (share x j)

-- shares of the whole estate in which each two claimants divide what they get together as the contested garment
pub record IsConsistent (estate : ℕ) (claims : List ℕ) (x : Allocation) : Type 0 where
  pub players : length x.shares ≡ length claims
  pub positive : pos 1 ≤ℤ x.den
  pub all : sum_below (length claims) (share x) ≡ x.den *ℤ pos estate
  pub each_two : (i j : ℕ) → i < length claims → j < length claims → i ≢ j
      → IsGarment (claimed claims x i) (claimed claims x j) (share x i) (share x j)

abbrev pub NoOtherIsConsistent : Type 0
NoOtherIsConsistent =
    (estate : ℕ) (claims : List ℕ) (x y : Allocation) → IsTalmud estate claims x → IsConsistent estate claims y →
    (i : ℕ) → i < length claims → share x i *ℤ y.den ≡ share y i *ℤ x.den

-- ---- that there are such shares

abbrev pub TalmudSharesExist : Type 0
TalmudSharesExist =
    (estate : ℕ) (claims : List ℕ) → pos estate ≤ℤ sum_below (length claims) (λ k. pos (slice_index claims k)) →
    (x : Allocation) × IsTalmud estate claims x

-- ---- the nucleolus

-- an allocation of the core that balances every two players, as the nucleolus does, is consistent
abbrev pub BalanceIsTheGarment : Type 0
BalanceIsTheGarment =
    (estate : ℕ) (claims : List ℕ) (x : Allocation) →
    InCore (bankruptcy_game estate claims) x → InPrekernel (bankruptcy_game estate claims) x
    → IsConsistent estate claims x

-- every nucleolus of the game of an estate and claims has the rule's shares, and so has the prenucleolus
abbrev pub EveryNucleolus : Type 0
EveryNucleolus =
    (family : Family) (estate : ℕ) (claims : List ℕ) (x y : Allocation) →
    IsTalmud estate claims x → IsNucleolus family Plain (bankruptcy_game estate claims) y →
    (i : ℕ) → i < length claims → share x i *ℤ y.den ≡ share y i *ℤ x.den

-- ---- gains and losses

abbrev pub LossesAreAlike : Type 0
LossesAreAlike =
    (estate missing : ℕ) (claims : List ℕ) (x y : Allocation) (i : ℕ) →
    sum_below (length claims) (λ k. pos (slice_index claims k)) ≡ pos estate +ℤ pos missing →
    IsTalmud estate claims x → IsTalmud missing claims y →
    i < length claims → share y i *ℤ x.den ≡ y.den *ℤ (claimed claims x i -ℤ share x i)

-- of a greater estate, with the same claims, nobody gets less
abbrev pub MoreEstate : Type 0
MoreEstate =
    (estate more : ℕ) (claims : List ℕ) (x y : Allocation) (i : ℕ) → estate ≤ more →
    IsTalmud estate claims x → IsTalmud more claims y →
    i < length claims → (share x i *ℤ y.den) ≤ℤ (share y i *ℤ x.den)

abbrev pub NobodyGetsMore : Type 0
NobodyGetsMore =
    (estate : ℕ) (claims : List ℕ) (x : Allocation) (i : ℕ) → IsTalmud estate claims x →
    i < length claims → (pos 0 ≤ℤ share x i) × (share x i ≤ℤ claimed claims x i)

abbrev pub WhoClaimsMore : Type 0
WhoClaimsMore =
    (estate : ℕ) (claims : List ℕ) (x : Allocation) (i j : ℕ) → IsTalmud estate claims x →
    i < length claims → j < length claims → slice_index claims i ≤ slice_index claims j →
    (share x i ≤ℤ share x j) × ((claimed claims x i -ℤ share x i) ≤ℤ (claimed claims x j -ℤ share x j))
