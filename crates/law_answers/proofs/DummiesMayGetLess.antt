-- Per head the prenucleolus may give a player less than the worth alone that it adds everywhere: in a vote by majority
-- of three beside a fourth who adds nothing. Two of the three are alike.
use Rattle.std.proofs.Common.{◌≡◌, ℕ, zero, suc, ◌+◌, ◌<◌, Bool, true, false, ◌||◌, if◌then◌else◌, List, [], ◌∷◌, ℤ}
use Rattle.std.proofs.Common.{pos, negsuc, ◌+ℤ◌, ◌*ℤ◌, ◌<ℤ◌, int_le, refl, inr, inl, arith, rules}
use Rattle.std.proofs.lemmas.Int.{ints}
use Rattle.std.specs.Ordering.{int_eq}
use Rattle.theorems.proofs.Forms.{HasForm-from_test}
use Rattle.theorems.proofs.Certified.{from_int_eq, balances}
use Rattle.theorems.proofs.Soundness.{IsNucleolus-from_certificate}
use Rattle.definitions.specs.Classes.{table_worth}
use Rattle.definitions.specs.Coalitions.{has_player, singleton, weight_at, members}
use Rattle.definitions.specs.Measures.{measured_den}
use Rattle.definitions.specs.Games.{Game, Allocation, share, measured_excess, IsNucleolus}
use Rattle.definitions.specs.Certificates.{Level, HasForm, LevelHolds, Certifies, HasAtMostExcess, IsFixedVector}
use Rattle.definitions.specs.Certificates.{InSpan}
use Rattle.definitions.specs.declared.Family.TheVariants.{Preimputations}
use Rattle.definitions.specs.declared.Measure.TheVariants.{PerHead}
use Rattle.definitions.specs.declared.Mode.TheVariants.{Span}
use Rattle.definitions.specs.Players.{IsDummy}
use Rattle.definitions.proofs.Splits.{passes_below-at}
use Rattle.law_answers.specs.Nucleolus.{DummiesMayGetLess}

-- ---- two of three who vote by majority

either : (b c : Bool) (u v : ℤ) → (b || (c || int_eq u v)) ≡ true → b ≡ false → c ≡ false → u ≡ v
either b c u v h e f = grind (arith, from_int_eq)

-- ---- the same vote beside a player who adds nothing

abbrev beside : Game
beside = record {
  players = 4;
  worth =
      table_worth
      (pos 0
      ∷ (pos 0
      ∷ (pos 1
      ∷ (pos 0
      ∷ (pos 1
      ∷ (pos 1
      ∷ (pos 1
      ∷ (pos 0 ∷ (pos 0 ∷ (pos 0 ∷ (pos 1 ∷ (pos 0 ∷ (pos 1 ∷ (pos 1 ∷ (pos 1 ∷ [])))))))))))))));
}

adds_nothing : IsDummy beside 3
adds_nothing s h e =
    either _ false _ _
    (passes_below-at 16
    (λ s. has_player s 3 || (false || int_eq (beside.worth (s + 8)) (beside.worth s +ℤ beside.worth 8))) refl s
    h) e refl

-- shares 3/8, 3/8, 3/8, -1/8
abbrev shared : Allocation
shared = record { shares = pos 3 ∷ (pos 3 ∷ (pos 3 ∷ (negsuc 0 ∷ []))); den = pos 8 }

abbrev only_level : Level
only_level = record {
  excess_num = pos 1;
  excess_den = pos 8;
  coalitions = (3, pos 1) ∷ ((5, pos 1) ∷ ((6, pos 1) ∷ ((8, pos 2) ∷ [])));
  earlier = [];
  bounds = [];
  total = pos 2;
}

low : (s : ℕ) → s < 16 → HasAtMostExcess PerHead beside shared only_level s
unfolding members
low s h =
    let e = passes_below-at 16
    (λ s. int_le (measured_excess PerHead beside shared s *ℤ pos 8) (pos 1 *ℤ measured_den PerHead (pos 8)))
    refl s h in
    omega (arith, ints, e)

holds : LevelHolds Span Preimputations PerHead beside shared [] only_level
unfolding members
holds = record {
  excesses = (refl, (refl, (refl, (refl, tt))));
  weights = search rules;
  bound_weights = tt;
  balanced = λ i h. from_int_eq _ _ (passes_below-at 4 (balances only_level) refl i h);
  tight = tt;
  outside = λ s h out. low s h;
}

-- each player alone is a sum of the level's coalitions
abbrev spans : ℕ → ℤ → List (ℕ × ℤ) → ℕ → Bool
spans s m ps i = int_eq (weight_at ps i) (if has_player s i then m else pos 0)

first : InSpan 4 (IsFixedVector 4 (only_level ∷ [])) 1
first = (
  pos 2,
  λ e. omega (arith, ints, e),
  (3, pos 1) ∷ ((5, pos 1) ∷ ((6, negsuc 0) ∷ [])),
  (inr (inl refl), (inr (inl refl), (inr (inl refl), tt))),
  λ i h. from_int_eq _ _
      (passes_below-at 4 (spans 1 (pos 2) ((3, pos 1) ∷ ((5, pos 1) ∷ ((6, negsuc 0) ∷ [])))) refl i h),
)

second : InSpan 4 (IsFixedVector 4 (only_level ∷ [])) 2
second = (
  pos 2,
  λ e. omega (arith, ints, e),
  (3, pos 1) ∷ ((5, negsuc 0) ∷ ((6, pos 1) ∷ [])),
  (inr (inl refl), (inr (inl refl), (inr (inl refl), tt))),
  λ i h. from_int_eq _ _
      (passes_below-at 4 (spans 2 (pos 2) ((3, pos 1) ∷ ((5, negsuc 0) ∷ ((6, pos 1) ∷ [])))) refl i h),
)

third : InSpan 4 (IsFixedVector 4 (only_level ∷ [])) 4
third = (
  pos 2,
  λ e. omega (arith, ints, e),
  (3, negsuc 0) ∷ ((5, pos 1) ∷ ((6, pos 1) ∷ [])),
  (inr (inl refl), (inr (inl refl), (inr (inl refl), tt))),
  λ i h. from_int_eq _ _
      (passes_below-at 4 (spans 4 (pos 2) ((3, negsuc 0) ∷ ((5, pos 1) ∷ ((6, pos 1) ∷ [])))) refl i h),
)

fourth : InSpan 4 (IsFixedVector 4 (only_level ∷ [])) 8
fourth = (
  pos 1,
  λ e. omega (arith, ints, e),
  (8, pos 1) ∷ [],
  (inr (inl refl), tt),
  λ i h. from_int_eq _ _ (passes_below-at 4 (spans 8 (pos 1) ((8, pos 1) ∷ [])) refl i h),
)

all_fixed : (i : ℕ) → i < 4 → InSpan 4 (IsFixedVector 4 (only_level ∷ [])) (singleton i)
all_fixed zero h = first
all_fixed (suc zero) h = second
all_fixed (suc (suc zero)) h = third
all_fixed (suc (suc (suc zero))) h = fourth
all_fixed (suc (suc (suc (suc i)))) h = absurd (omega arith)

certified : Certifies Span Preimputations PerHead beside shared (only_level ∷ [])
certified = (((refl, search rules), refl), (holds, all_fixed))

form : HasForm Span 4 (only_level ∷ [])
form = HasForm-from_test Span 4 (only_level ∷ []) (inr (omega arith)) refl

shared_prenucleolus : IsNucleolus Preimputations PerHead beside shared
shared_prenucleolus =
    IsNucleolus-from_certificate Span Preimputations PerHead beside shared (only_level ∷ []) (inr (omega arith))
    form
    certified

-- the player gets -1/8, and is worth 0 alone
gets_less : share shared 3 <ℤ (shared.den *ℤ beside.worth (singleton 3))
gets_less = search rules

pub dummies_may_get_less : DummiesMayGetLess
dummies_may_get_less = (beside, shared, 3, shared_prenucleolus, omega arith, adds_nothing, gets_less)
