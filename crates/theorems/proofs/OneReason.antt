-- A certificate has at most one first failure.
--
-- The tests of a certificate are a chain of stages. A reason says at which stage the chain fails first, and where: at
-- the least player, the first pair or the greatest excess. Two first failures are at one stage, and there each of these
-- is one thing (`failures_same`).
use Rattle.std.proofs.Common.{◌≡◌, ◌⊎◌, ℕ, ◌+◌, ◌^◌, ◌<◌, List, [], ◌∷◌, ◌++◌, ℤ, pos, ◌*ℤ◌, ◌≤ℤ◌, refl, sym, ap, ◌∙◌}
use Rattle.std.proofs.Common.{inl, inr, arith}
use Rattle.std.specs.List.{AllByRecursion}
use Rattle.definitions.proofs.Families.{efficient_of, individual_of}
use Rattle.definitions.proofs.Scans.{IsGreatest-unique}
use Rattle.theorems.proofs.OneVerdict.{none_failing, level_fails_not}
use Rattle.definitions.specs.Sums.{IsGreatest}
use Rattle.definitions.specs.Coalitions.{singleton}
use Rattle.definitions.specs.Games.{Game, Allocation, share, measured_excess, IsEfficient, InFamily}
use Rattle.definitions.specs.Certificates.{Level, HasExcess, IsOutside}
use Rattle.definitions.specs.Failures.{Reason, not_efficient, not_individual, wrong_excess, coalition_sign, player_sign}
use Rattle.definitions.specs.Failures.{unbalanced, bound_not_tight, outside_above, not_all, IsLeastFailing}
use Rattle.definitions.specs.Failures.{IsFirstFailing, BoundWeighs, Balances, IsTight, Excesses, Weights, BoundWeights}
use Rattle.definitions.specs.Failures.{IsBalanced, AreTight, LevelFails, IsLeastUnfixed, NotAllFixed, LevelsFail}
use Rattle.definitions.specs.Failures.{IsFirstFailure}
use Rattle.definitions.specs.declared.Family.{Family}
use Rattle.definitions.specs.declared.Family.TheVariants.{Imputations}
use Rattle.definitions.specs.declared.Measure.{Measure}
use Rattle.definitions.specs.declared.Mode.{Mode}

-- ---- what fails first is one thing

first_same : (P : ℕ × ℤ → Type 0) (ps : List (ℕ × ℤ)) (i j : ℕ) → IsFirstFailing P ps i → IsFirstFailing P ps j
    → i ≡ j
first_same P [] i j f h = absurd f
first_same P (p ∷ ps) i j (inl f) (inl h) = f.1 ∙ sym h.1
first_same P (p ∷ ps) i j (inl f) (inr h) = absurd (f.0 h.0)
first_same P (p ∷ ps) i j (inr f) (inl h) = absurd (h.0 f.0)
first_same P (p ∷ ps) i j (inr f) (inr h) = first_same P ps i j f.1 h.1

-- two numbers are equal where neither is below the other
neither_below : (i j : ℕ) → (i < j → ⊥) → (j < i → ⊥) → i ≡ j
neither_below i j h k = grind arith

least_same : (n : ℕ) (P : ℕ → Type 0) (i j : ℕ) → IsLeastFailing n P i → IsLeastFailing n P j → i ≡ j
least_same n P i j f h = neither_below i j (λ lt. f.1 (h.2 i lt)) (λ lt. h.1 (f.2 j lt))

unfixed_same : (mode : Mode) (n : ℕ) (levels : List Level) (i j : ℕ) → IsLeastUnfixed mode n levels i
    → IsLeastUnfixed mode n levels j → i ≡ j
unfixed_same mode n levels i j f h = grind (arith, least_same, neither_below)

-- ---- the stages of the tests

-- the reason r is of a form whose number is the one that fails first
abbrev Names : {X : Type 0} → (X → Reason) → (X → Type 0) → Reason → Type 0
Names {X} of Fails r = (y : X) × (r ≡ of y) × Fails y

-- this stage fails, or all of it holds and a later one fails
abbrev Stage : Type 0 → Type 0 → Type 0 → Type 0
Stage Fails Holds Later = Fails ⊎ (Holds × Later)

named_same : {X : Type 0} (of : X → Reason) (Fails : X → Type 0) (r s : Reason)
    → ((y z : X) → Fails y → Fails z → y ≡ z) → Names of Fails r → Names of Fails s → r ≡ s
named_same of Fails r s one (y, e, f) (z, k, h) = e ∙ ap of (one y z f h) ∙ sym k

stage_same : {F H Holds L M : Type 0} (r s : Reason) → (F → H → r ≡ s) → (F → Holds → ⊥) → (H → Holds → ⊥)
    → (L → M → r ≡ s) → Stage F Holds L → Stage H Holds M → r ≡ s
stage_same r s one no_f no_h later h k = grind arith

-- a stage that goes through a list of pairs
list_same : {L M : Type 0} (of : ℕ → Reason) (P : ℕ × ℤ → Type 0) (ps : List (ℕ × ℤ)) (r s : Reason)
    → (L → M → r ≡ s) → Stage (Names of (IsFirstFailing P ps) r) (AllByRecursion P ps) L
    → Stage (Names of (IsFirstFailing P ps) s) (AllByRecursion P ps) M → r ≡ s
list_same of P ps r s later =
    stage_same r s
    (named_same of (IsFirstFailing P ps) r s (first_same P ps))
    (λ f all. none_failing P ps f.0 all f.2)
    (λ h all. none_failing P ps h.0 all h.2)
    later

-- a stage that goes through the players
players_same : {L M : Type 0} (of : ℕ → Reason) (n : ℕ) (P : ℕ → Type 0) (r s : Reason) → (L → M → r ≡ s)
    → Stage (Names of (IsLeastFailing n P) r) ((i : ℕ) → i < n → P i) L
    → Stage (Names of (IsLeastFailing n P) s) ((i : ℕ) → i < n → P i) M → r ≡ s
players_same of n P r s later =
    stage_same r s
    (named_same of (IsLeastFailing n P) r s (least_same n P))
    (λ f all. f.2.1 (all f.0 f.2.0))
    (λ h all. h.2.1 (all h.0 h.2.0))
    later

-- ---- a level

abbrev LevelStages : Mode → Family → Measure → Game → Allocation → ℕ → List Level → Level → Reason → Type 0
LevelStages mode family measure g x k front l r =
    Stage (Names (wrong_excess k) (IsFirstFailing (λ c. HasExcess measure g x l c.0) l.coalitions) r)
    (Excesses measure g x l)
    (Stage (Names (coalition_sign k) (IsFirstFailing (λ c. pos 1 ≤ℤ c.1) l.coalitions) r) (Weights l)
    (Stage (Names (player_sign k) (IsFirstFailing (BoundWeighs front) l.bounds) r) (BoundWeights front l)
    (Stage (Names (unbalanced k) (IsLeastFailing g.players (Balances l)) r) (IsBalanced g l)
    (Stage (Names (bound_not_tight k) (IsFirstFailing (IsTight family g x) l.bounds) r) (AreTight family g x l)
    (Names (outside_above k)
    (IsGreatest (λ s. (s < 2 ^ g.players) × IsOutside mode g.players front s) (measured_excess measure g x))
    r)))))

level_stages : (mode : Mode) (family : Family) (measure : Measure) (g : Game) (x : Allocation) (k : ℕ)
    (front : List Level) (l : Level) (r : Reason) → LevelFails mode family measure g x k front l r
    → LevelStages mode family measure g x k front l r
level_stages mode family measure g x k front l not_efficient f = absurd f
level_stages mode family measure g x k front l (not_individual i) f = absurd f
level_stages mode family measure g x k front l (wrong_excess j s) f =
    inl (s, ap (λ (j : ℕ). wrong_excess j s) f.0, f.1)
level_stages mode family measure g x k front l (coalition_sign j s) f =
    inr (f.1, inl (s, ap (λ (j : ℕ). coalition_sign j s) f.0, f.2))
level_stages mode family measure g x k front l (player_sign j i) f =
    inr (f.1, inr (f.2, inl (i, ap (λ (j : ℕ). player_sign j i) f.0, f.3)))
level_stages mode family measure g x k front l (unbalanced j i) f =
    inr (f.1, inr (f.2, inr (f.3, inl (i, ap (λ (j : ℕ). unbalanced j i) f.0, f.4))))
level_stages mode family measure g x k front l (bound_not_tight j i) f =
    inr (f.1, inr (f.2, inr (f.3, inr (f.4, inl (i, ap (λ (j : ℕ). bound_not_tight j i) f.0, f.5)))))
level_stages mode family measure g x k front l (outside_above j e) f =
    inr (f.1, inr (f.2, inr (f.3, inr (f.4, inr (f.5, (e, ap (λ (j : ℕ). outside_above j e) f.0, f.7))))))
level_stages mode family measure g x k front l (not_all i) f = absurd f

level_same : (mode : Mode) (family : Family) (measure : Measure) (g : Game) (x : Allocation) (k : ℕ)
    (front : List Level) (l : Level) (r s : Reason) → LevelStages mode family measure g x k front l r
    → LevelStages mode family measure g x k front l s → r ≡ s
level_same mode family measure g x k front l r s =
    list_same (wrong_excess k) (λ c. HasExcess measure g x l c.0) l.coalitions r s
    (list_same (coalition_sign k) (λ c. pos 1 ≤ℤ c.1) l.coalitions r s
    (list_same (player_sign k) (BoundWeighs front) l.bounds r s
    (players_same (unbalanced k) g.players (Balances l) r s
    (list_same (bound_not_tight k) (IsTight family g x) l.bounds r s
    (named_same (outside_above k)
    (IsGreatest (λ t. (t < 2 ^ g.players) × IsOutside mode g.players front t) (measured_excess measure g x)) r s
    (IsGreatest-unique (λ t. (t < 2 ^ g.players) × IsOutside mode g.players front t) (measured_excess measure g x)))))))

-- ---- all levels

unfixed_named : (mode : Mode) (g : Game) (front : List Level) (r : Reason) → NotAllFixed mode g front r
    → Names not_all (IsLeastUnfixed mode g.players front) r
unfixed_named mode g front not_efficient f = absurd f
unfixed_named mode g front (not_individual i) f = absurd f
unfixed_named mode g front (wrong_excess j s) f = absurd f
unfixed_named mode g front (coalition_sign j s) f = absurd f
unfixed_named mode g front (player_sign j i) f = absurd f
unfixed_named mode g front (unbalanced j i) f = absurd f
unfixed_named mode g front (bound_not_tight j i) f = absurd f
unfixed_named mode g front (outside_above j e) f = absurd f
unfixed_named mode g front (not_all i) f = (i, refl, f.1)

levels_same : (mode : Mode) (family : Family) (measure : Measure) (g : Game) (x : Allocation) (k : ℕ)
    (front levels : List Level) (r s : Reason) → LevelsFail mode family measure g x k front levels r
    → LevelsFail mode family measure g x k front levels s → r ≡ s
levels_same mode family measure g x k front [] r s f h =
    named_same not_all (IsLeastUnfixed mode g.players front) r s (unfixed_same mode g.players front)
    (unfixed_named mode g front r f) (unfixed_named mode g front s h)
levels_same mode family measure g x k front (l ∷ levels) r s f h =
    stage_same r s
    (λ a b. level_same mode family measure g x k front l r s (level_stages mode family measure g x k front l r a)
    (level_stages mode family measure g x k front l s b))
    (λ a holds. level_fails_not mode family measure g x k front l r holds a)
    (λ b holds. level_fails_not mode family measure g x k front l s holds b)
    (levels_same mode family measure g x (k + 1) (front ++ l ∷ []) levels r s)
    f
    h

-- ---- the whole certificate

-- player i is the least that gets less than it is worth alone, where that counts
abbrev IsLeastShort : Family → Game → Allocation → ℕ → Type 0
IsLeastShort family g x i =
    (family ≡ Imputations) × IsLeastFailing g.players (λ i. (x.den *ℤ g.worth (singleton i)) ≤ℤ share x i) i

short_same : (family : Family) (g : Game) (x : Allocation) (i j : ℕ) → IsLeastShort family g x i
    → IsLeastShort family g x j → i ≡ j
short_same family g x i j f h = least_same g.players (λ i. (x.den *ℤ g.worth (singleton i)) ≤ℤ share x i) i j f.1 h.1

abbrev Stages : Mode → Family → Measure → Game → Allocation → List Level → Reason → Type 0
Stages mode family measure g x levels r =
    Stage ((r ≡ not_efficient) × ¬ IsEfficient g x) (IsEfficient g x)
    (Stage (Names not_individual (IsLeastShort family g x) r) (InFamily family g x)
    (LevelsFail mode family measure g x 1 [] levels r))

stages : (mode : Mode) (family : Family) (measure : Measure) (g : Game) (x : Allocation) (levels : List Level)
    (r : Reason) → IsFirstFailure mode family measure g x levels r → Stages mode family measure g x levels r
stages mode family measure g x levels not_efficient f = inl (refl, f)
stages mode family measure g x levels (not_individual i) f = inr (f.0, inl (i, refl, (f.1, f.2)))
stages mode family measure g x levels (wrong_excess j s) f = inr (efficient_of family g x f.0, inr f)
stages mode family measure g x levels (coalition_sign j s) f = inr (efficient_of family g x f.0, inr f)
stages mode family measure g x levels (player_sign j i) f = inr (efficient_of family g x f.0, inr f)
stages mode family measure g x levels (unbalanced j i) f = inr (efficient_of family g x f.0, inr f)
stages mode family measure g x levels (bound_not_tight j i) f = inr (efficient_of family g x f.0, inr f)
stages mode family measure g x levels (outside_above j e) f = inr (efficient_of family g x f.0, inr f)
stages mode family measure g x levels (not_all i) f = inr (efficient_of family g x f.0, inr f)

not_short : (family : Family) (g : Game) (x : Allocation) (r : Reason)
    → Names not_individual (IsLeastShort family g x) r → InFamily family g x → ⊥
not_short family g x r f member = f.2.1.1 (individual_of family g x member f.2.0 f.0 f.2.1.0)

pub failures_same : (mode : Mode) (family : Family) (measure : Measure) (g : Game) (x : Allocation)
    (levels : List Level) (r s : Reason) → IsFirstFailure mode family measure g x levels r
    → IsFirstFailure mode family measure g x levels s → r ≡ s
failures_same mode family measure g x levels r s f h =
    stage_same r s (λ a b. a.0 ∙ sym b.0) (λ a holds. a.1 holds) (λ b holds. b.1 holds)
    (stage_same r s (named_same not_individual (IsLeastShort family g x) r s (short_same family g x))
    (not_short family g x r) (not_short family g x s)
    (levels_same mode family measure g x 1 [] levels r s))
    (stages mode family measure g x levels r f)
    (stages mode family measure g x levels s h)
