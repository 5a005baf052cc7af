-- What a table of surpluses says of the balance of two players.
use Rattle.std.proofs.Common.{◌≡◌, ◌≢◌, ℕ, ◌^◌, ◌<◌, true, ℤ, List, Option, Some}
use Rattle.std.proofs.Common.{IsSome}
use Rattle.std.proofs.Common.{arith, refl, sym, ap, subst, ◌∙◌, inl, inr}
use Rattle.definitions.proofs.Cases.{less_or_greater}
use Rattle.definitions.proofs.Scans.{IsGreatest-unique}
use Rattle.definitions.specs.Games.{Game, Allocation, excess, IsAllocation, IsEfficient}
use Rattle.definitions.specs.Prekernel.{holds_without, IsSurplus, AreBalanced, InPrekernel}
use Rattle.definitions.specs.Prekernel.{IsEarlierPair, IsFirstUnbalanced}
use Rattle.kernel_test.specs.Tables.{number_at, AreSurpluses}

pub found_in : (g : Game) (x : Allocation) (table : List (Option ℤ)) → AreSurpluses g x table → (i j : ℕ)
    → i < g.players → j < g.players → i ≢ j → IsSome (number_at table i j)
found_in g x table h i j hi hj ne = rw (h i j hi hj ne).1 refl

-- the number that is found is the surplus
pub surplus_in : (g : Game) (x : Allocation) (table : List (Option ℤ)) → AreSurpluses g x table → (i j : ℕ) (m : ℤ)
    → i < g.players → j < g.players → i ≢ j → number_at table i j ≡ Some m → IsSurplus g x i j m
surplus_in g x table h i j m hi hj ne e =
    let found = h i j hi hj ne in
    let same : found.0 ≡ m = same_number found.0 m (sym found.1 ∙ e) in
    subst (IsSurplus g x i j) same found.2
  where
    same_number : (k m : ℤ) → Some k ≡ Some m → k ≡ m
    same_number k m e = cc

pub balanced_in : (g : Game) (x : Allocation) (table : List (Option ℤ)) → AreSurpluses g x table → (i j : ℕ)
    → i < g.players → j < g.players → i ≢ j → number_at table i j ≡ number_at table j i → AreBalanced g x i j
balanced_in g x table h i j hi hj ne e =
    let found = h i j hi hj ne in
    (found.0, found.2, surplus_in g x table h j i found.0 hj hi (λ k. ne (sym k)) (sym e ∙ found.1))

pub unbalanced_in : (g : Game) (x : Allocation) (table : List (Option ℤ)) → AreSurpluses g x table → (i j : ℕ)
    → i < g.players → j < g.players → i ≢ j → number_at table i j ≢ number_at table j i → ¬ AreBalanced g x i j
unbalanced_in g x table h i j hi hj ne differ balanced =
    let one = h i j hi hj ne in
    let other = h j i hj hi (λ k. ne (sym k)) in
    let first =
    IsGreatest-unique (λ s. (s < 2 ^ g.players) × (holds_without i j s ≡ true)) (excess g x) one.0 balanced.0 one.2
    balanced.1 in
    let second =
    IsGreatest-unique (λ s. (s < 2 ^ g.players) × (holds_without j i s ≡ true)) (excess g x) other.0 balanced.0
    other.2 balanced.2 in
    differ (one.1 ∙ ap Some (first ∙ sym second) ∙ sym other.1)

-- where the numbers of each two players are equal
pub all_balanced : (g : Game) (x : Allocation) (table : List (Option ℤ)) → AreSurpluses g x table
    → ((i j : ℕ) → i < j → j < g.players → number_at table i j ≡ number_at table j i) → (i j : ℕ) → i < g.players
    → j < g.players → i ≢ j → AreBalanced g x i j
all_balanced g x table h same i j hi hj ne =
    balanced_in g x table h i j hi hj ne
    (elim (less_or_greater i j ne) [ inl lt ↦ same i j lt hj | inr lt ↦ sym (same j i lt hi) ])

pub first_in : (g : Game) (x : Allocation) (table : List (Option ℤ)) → AreSurpluses g x table → (i j : ℕ) → i < j
    → j < g.players → number_at table i j ≢ number_at table j i
    → ((a b : ℕ) → a < b → b < g.players → IsEarlierPair a b i j → number_at table a b ≡ number_at table b a)
    → IsFirstUnbalanced g x i j
first_in g x table h i j lt hj differ earlier = record {
  ordered = lt;
  player = hj;
  unbalanced = unbalanced_in g x table h i j (omega arith) hj (λ e. omega arith) differ;
  first = λ a b less within before. balanced_in g x table h a b (omega arith) within (λ e. omega arith)
      (earlier a b less within before);
}

pub not_in_prekernel : (g : Game) (x : Allocation) (i j : ℕ) → IsFirstUnbalanced g x i j → InPrekernel g x → ⊥
not_in_prekernel g x i j h k =
    let lt = h.ordered in
    let within = h.player in
    h.unbalanced (k.2 i j (omega arith) within (λ e. omega arith))

pub prekernel_from_table : (g : Game) (x : Allocation) (table : List (Option ℤ)) → IsAllocation g x
    → IsEfficient g x → AreSurpluses g x table
    → ((i j : ℕ) → i < j → j < g.players → number_at table i j ≡ number_at table j i) → InPrekernel g x
prekernel_from_table g x table h e surpluses same = (h, e, all_balanced g x table surpluses same)
