-- Failures and verdicts.
--
-- One function for each condition gives the first place that fails, and they are joined in the order of the tests. So
-- `check` says yes if all hold, and otherwise names the first that fails. An excess is compared with that of a level as
-- a fraction in lowest terms: `IsValueOf` says that it is the measured excess over its denominator, and
-- `same_from_value`, `some_above` and `none_above` carry the order over.
use Rattle.std.proofs.Common.{◌≡◌, ℕ, ◌+◌, true, false, List, [], ◌∷◌, ◌++◌, Option}
use Rattle.std.proofs.Common.{Some}
use Rattle.std.proofs.Common.{None, MatchOption, is_some, ℤ, pos, ◌*ℤ◌, ◌<ℤ◌, ◌≤ℤ◌, sym, ap}
use Rattle.std.proofs.Common.{◌∙◌, arith, inl, inr}
use Rattle.std.proofs.lemmas.Bool.{false≢true}
use Rattle.std.proofs.lemmas.Int.{by_lt_z}
use Rattle.definitions.proofs.Ring.{linear, mul-leℤ, mul-ltℤ, mul-le_cancelℤ}
use Rattle.definitions.proofs.Ring.{mul-cancelℤ, mul_assocℤ, mul_left_commℤ}
use Rattle.definitions.proofs.Measured.{measured_den-above}
use Rattle.fractions.specs.Fraction.{Fraction}
use Rattle.definitions.specs.Measures.{measured_den}
use lib.IntN.{*ℤ_comm}
use Rattle.theorems.proofs.OneVerdict.{fails_not}
use Rattle.definitions.specs.Games.{Game, Allocation, measured_excess, InFamily}
use Rattle.definitions.specs.Certificates.{Level, LevelHolds, LevelsHold, OutsideIsLow, Certifies}
use Rattle.definitions.specs.Failures.{Reason as Failure, not_efficient, not_individual, wrong_excess}
use Rattle.definitions.specs.Failures.{coalition_sign, player_sign, unbalanced, bound_not_tight}
use Rattle.definitions.specs.Failures.{outside_above, not_all, LevelFails, LevelsFail, IsFirstFailure}
use Rattle.definitions.specs.declared.Family.{Family}
use Rattle.definitions.specs.declared.Measure.{Measure}
use Rattle.definitions.specs.declared.Mode.{Mode}
use Rattle.kohlberg.specs.declared.verdicts.Place.TheVariants.{Coalition, Player}
use Rattle.kohlberg.specs.declared.verdicts.Reason.{Reason}
use Rattle.kohlberg.specs.declared.verdicts.Reason.TheVariants.{NotEfficient, NotIndividual, WrongExcess}
use Rattle.kohlberg.specs.declared.verdicts.Reason.TheVariants.{WeightSign, Unbalanced, BoundNotTight, OutsideAbove}
use Rattle.kohlberg.specs.declared.verdicts.Reason.TheVariants.{NotAll}
use Rattle.checker.specs.Meaning.{Means, IsGreatestOutside}

-- ---- values

-- p/q is the value of m over c, so it is above n/d, or the same, as m is
value_sides : (m c p q n d : ℤ) → p *ℤ c ≡ m *ℤ q
    → (q *ℤ (m *ℤ d) ≡ c *ℤ (p *ℤ d)) × (q *ℤ (n *ℤ c) ≡ c *ℤ (n *ℤ q))
value_sides m c p q n d same = (
  sym (mul_assocℤ q m d) ∙ ap (λ (z : ℤ). z *ℤ d) (*ℤ_comm q m ∙ sym same) ∙ ap (λ (z : ℤ). z *ℤ d) (*ℤ_comm p c)
      ∙ mul_assocℤ c p d,
  mul_left_commℤ q n c ∙ ap (λ (z : ℤ). n *ℤ z) (*ℤ_comm q c) ∙ mul_left_commℤ n c q,
)

value_above : (m c p q n d : ℤ) → pos 0 <ℤ c → pos 0 <ℤ q → p *ℤ c ≡ m *ℤ q → (n *ℤ q) <ℤ (p *ℤ d)
    → (m *ℤ d) ≤ℤ (n *ℤ c) → ⊥
value_above m c p q n d c_positive q_positive same above low =
    let sides = value_sides m c p q n d same in
    let scaled = mul-leℤ q (m *ℤ d) (n *ℤ c) (omega (arith, linear)) low in
    let more = mul-ltℤ c (n *ℤ q) (p *ℤ d) c_positive above in
    omega (arith, linear, sides.0, sides.1, scaled, more)

value_below : (m c p q n d : ℤ) → pos 0 <ℤ c → pos 0 <ℤ q → p *ℤ c ≡ m *ℤ q → ((n *ℤ q) <ℤ (p *ℤ d) → ⊥)
    → (m *ℤ d) ≤ℤ (n *ℤ c)
value_below m c p q n d c_positive q_positive same no_more =
    by_lt_z (n *ℤ q) (p *ℤ d) (λ lt. absurd (no_more lt)) (λ low.
    let sides = value_sides m c p q n d same in
    let scaled = mul-leℤ c (p *ℤ d) (n *ℤ q) (omega (arith, linear)) low in
    mul-le_cancelℤ q (m *ℤ d) (n *ℤ c) q_positive (omega (arith, linear, sides.0, sides.1, scaled)))

-- and so where they are the same
pub same_from_value : (m c p q n d : ℤ) → pos 0 <ℤ q → p *ℤ c ≡ m *ℤ q → p *ℤ d ≡ n *ℤ q → m *ℤ d ≡ n *ℤ c
same_from_value m c p q n d positive same equal =
    let sides = value_sides m c p q n d same in
    mul-cancelℤ q (m *ℤ d) (n *ℤ c) positive (sides.0 ∙ ap (λ (z : ℤ). c *ℤ z) equal ∙ sym sides.1)

pub value_from_same : (m c p q n d : ℤ) → pos 0 <ℤ c → p *ℤ c ≡ m *ℤ q → m *ℤ d ≡ n *ℤ c → p *ℤ d ≡ n *ℤ q
value_from_same m c p q n d positive same equal =
    let sides = value_sides m c p q n d same in
    mul-cancelℤ c (p *ℤ d) (n *ℤ q) positive (sym sides.0 ∙ ap (λ (z : ℤ). q *ℤ z) equal ∙ sides.1)

-- ---- condition 7

pub some_above : (mode : Mode) (measure : Measure) (g : Game) (x : Allocation) (front : List Level) (l : Level)
    (f : Fraction) → pos 1 ≤ℤ x.den → pos 1 ≤ℤ f.den → IsGreatestOutside mode measure g x front (Some f)
    → (l.excess_num *ℤ f.den) <ℤ (f.num *ℤ l.excess_den) → ¬ OutsideIsLow mode measure g x front l
some_above mode measure g x front l f den positive (m, top, value) above low =
    let t = top.0.0 in
    let here = low t top.0.1.0 top.0.1.1 in
    value_above m (measured_den measure x.den) f.num f.den l.excess_num l.excess_den
    (measured_den-above measure x.den den) (omega (arith, linear, positive)) value above (rw top.0.2 here)

pub none_above : (mode : Mode) (measure : Measure) (g : Game) (x : Allocation) (front : List Level) (l : Level)
    (f : Fraction) → pos 1 ≤ℤ x.den → pos 1 ≤ℤ f.den → pos 1 ≤ℤ l.excess_den
    → IsGreatestOutside mode measure g x front (Some f) → ¬ ((l.excess_num *ℤ f.den) <ℤ (f.num *ℤ l.excess_den))
    → OutsideIsLow mode measure g x front l
none_above mode measure g x front l f den positive fraction (m, top, value) no_more s within out =
    let most =
    value_below m (measured_den measure x.den) f.num f.den l.excess_num l.excess_den
    (measured_den-above measure x.den den) (omega (arith, linear, positive)) value no_more in
    let less =
    mul-leℤ l.excess_den (measured_excess measure g x s) m (omega (arith, linear, fraction))
    (top.1 s (within, out)) in
    omega (arith, linear, most, less, *ℤ_comm l.excess_den (measured_excess measure g x s), *ℤ_comm l.excess_den m)

-- ---- reasons

pub Means-map : (measure : Measure) (x : Allocation) (P Q : Failure → Type 0) (r : Reason)
    → ((f : Failure) → P f → Q f) → Means measure x P r → Means measure x Q r
Means-map measure x P Q NotEfficient h m = h _ m
Means-map measure x P Q (NotIndividual i) h m = h _ m
Means-map measure x P Q (WrongExcess j s) h m = h _ m
Means-map measure x P Q (WeightSign j (Coalition s)) h m = h _ m
Means-map measure x P Q (WeightSign j (Player i)) h m = h _ m
Means-map measure x P Q (Unbalanced j i) h m = h _ m
Means-map measure x P Q (BoundNotTight j i) h m = h _ m
Means-map measure x P Q (OutsideAbove j f) h m = (m.0, m.1, h _ m.2)
Means-map measure x P Q (NotAll i) h m = h _ m

pub Means-none : (measure : Measure) (x : Allocation) (P : Failure → Type 0) (r : Reason)
    → ((f : Failure) → P f → ⊥) → Means measure x P r → ⊥
Means-none measure x P NotEfficient h m = h _ m
Means-none measure x P (NotIndividual i) h m = h _ m
Means-none measure x P (WrongExcess j s) h m = h _ m
Means-none measure x P (WeightSign j (Coalition s)) h m = h _ m
Means-none measure x P (WeightSign j (Player i)) h m = h _ m
Means-none measure x P (Unbalanced j i) h m = h _ m
Means-none measure x P (BoundNotTight j i) h m = h _ m
Means-none measure x P (OutsideAbove j f) h m = h _ m.2
Means-none measure x P (NotAll i) h m = h _ m

pub level_failed : (mode : Mode) (family : Family) (measure : Measure) (g : Game) (x : Allocation)
    (levels : List Level) (i : ℕ) (front : List Level) (l : Level) (o : Option Reason)
    → ((r : Failure) → LevelFails mode family measure g x (i + 1) front l r
    → LevelsFail mode family measure g x 1 [] levels r)
    → is_some o ≡ true
    → MatchOption o (LevelHolds mode family measure g x front l)
    (Means measure x (LevelFails mode family measure g x (i + 1) front l))
    → MatchOption o (LevelsHold mode family measure g x [] levels)
    (Means measure x (LevelsFail mode family measure g x 1 [] levels))
level_failed mode family measure g x levels i front l None here e m = absurd (false≢true e)
level_failed mode family measure g x levels i front l (Some r) here e m =
    Means-map measure x (LevelFails mode family measure g x (i + 1) front l)
    (LevelsFail mode family measure g x 1 [] levels) r here m

not_by_levels : (mode : Mode) (family : Family) (measure : Measure) (g : Game) (x : Allocation) (k : ℕ)
    (front levels : List Level) → LevelsFail mode family measure g x k front levels not_efficient → ⊥
not_by_levels mode family measure g x k front [] h = h
not_by_levels mode family measure g x k front (l ∷ levels) (inl h) = h
not_by_levels mode family measure g x k front (l ∷ levels) (inr h) =
    not_by_levels mode family measure g x (k + 1) (front ++ l ∷ []) levels h.1

nor_by_levels : (mode : Mode) (family : Family) (measure : Measure) (g : Game) (x : Allocation) (i k : ℕ)
    (front levels : List Level) → LevelsFail mode family measure g x k front levels (not_individual i) → ⊥
nor_by_levels mode family measure g x i k front [] h = h
nor_by_levels mode family measure g x i k front (l ∷ levels) (inl h) = h
nor_by_levels mode family measure g x i k front (l ∷ levels) (inr h) =
    nor_by_levels mode family measure g x i (k + 1) (front ++ l ∷ []) levels h.1

first_by_levels : (mode : Mode) (family : Family) (measure : Measure) (g : Game) (x : Allocation)
    (levels : List Level) → InFamily family g x → (r : Failure) → LevelsFail mode family measure g x 1 [] levels r
    → IsFirstFailure mode family measure g x levels r
first_by_levels mode family measure g x levels member not_efficient h =
    absurd (not_by_levels mode family measure g x 1 [] levels h)
first_by_levels mode family measure g x levels member (not_individual i) h =
    absurd (nor_by_levels mode family measure g x i 1 [] levels h)
first_by_levels mode family measure g x levels member (wrong_excess j s) h = (member, h)
first_by_levels mode family measure g x levels member (coalition_sign j s) h = (member, h)
first_by_levels mode family measure g x levels member (player_sign j i) h = (member, h)
first_by_levels mode family measure g x levels member (unbalanced j i) h = (member, h)
first_by_levels mode family measure g x levels member (bound_not_tight j i) h = (member, h)
first_by_levels mode family measure g x levels member (outside_above j e) h = (member, h)
first_by_levels mode family measure g x levels member (not_all i) h = (member, h)

pub levels_judged : (mode : Mode) (family : Family) (measure : Measure) (g : Game) (x : Allocation)
    (levels : List Level) (o : Option Reason) → InFamily family g x
    → MatchOption o (LevelsHold mode family measure g x [] levels)
    (Means measure x (LevelsFail mode family measure g x 1 [] levels))
    → MatchOption o (Certifies mode family measure g x levels)
    (Means measure x (IsFirstFailure mode family measure g x levels))
levels_judged mode family measure g x levels None member h = (member, h)
levels_judged mode family measure g x levels (Some r) member h =
    Means-map measure x (LevelsFail mode family measure g x 1 [] levels)
    (IsFirstFailure mode family measure g x levels) r (first_by_levels mode family measure g x levels member) h

pub family_judged : (mode : Mode) (family : Family) (measure : Measure) (g : Game) (x : Allocation)
    (levels : List Level) (o : Option Reason) → is_some o ≡ true
    → MatchOption o (InFamily family g x)
    (λ r. (mode : Mode) (measure : Measure) (levels : List Level)
    → Means measure x (IsFirstFailure mode family measure g x levels) r)
    → MatchOption o (Certifies mode family measure g x levels)
    (Means measure x (IsFirstFailure mode family measure g x levels))
family_judged mode family measure g x levels None e h = absurd (false≢true e)
family_judged mode family measure g x levels (Some r) e h = h mode measure levels

pub no_failure : (P : Type 0) (Q : Reason → Type 0) (o : Option Reason) → is_some o ≡ false → MatchOption o P Q → P
no_failure P Q None e h = h
no_failure P Q (Some r) e h = absurd (false≢true (sym e))

pub member_of : (family : Family) (g : Game) (x : Allocation) (o : Option Reason) (Q : Reason → Type 0)
    → is_some o ≡ false → MatchOption o (InFamily family g x) Q → InFamily family g x
member_of family g x None Q e h = h
member_of family g x (Some r) Q e h = absurd (false≢true (sym e))

pub not_certified : (mode : Mode) (family : Family) (measure : Measure) (g : Game) (x : Allocation)
    (levels : List Level) (r : Reason) → Means measure x (IsFirstFailure mode family measure g x levels) r
    → Certifies mode family measure g x levels → ⊥
not_certified mode family measure g x levels r m h =
    Means-none measure x (IsFirstFailure mode family measure g x levels) r
    (λ f k. fails_not mode family measure g x levels f h k) m
