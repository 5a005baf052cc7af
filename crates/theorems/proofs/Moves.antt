-- Over twice the denominator, some units more for one player and as many less for another, and when the excesses
-- then come first.
--
-- Let m be the greatest measured excess over the coalitions that hold i and lack j. Say c units go from j to i, and
-- each coalition with j and without i ends below 2m. Then the new shares beat the old ones, so at a nucleolus there is
-- no such move.
use Rattle.std.proofs.Common.{◌≡◌, ◌≢◌, ◌⊎◌, ℕ, ◌+◌, ◌-◌, ◌^◌, ◌<◌, ◌≤◌, Bool, true, false, ◌&&◌, not, cond, length}
use Rattle.std.proofs.Common.{map, ℤ, pos, ◌+ℤ◌, ◌-ℤ◌, ◌*ℤ◌, ◌≤ℤ◌, ◌<ℤ◌, refl, sym, ap, ◌∙◌, inl, inr, arith}
use Rattle.std.specs.List.{range_with_len}
use Rattle.std.proofs.lemmas.Bool.{false≢true}
use Rattle.std.proofs.lemmas.Int.{ints}
use Rattle.std.proofs.lemmas.List.FromFn.{get_or-map-range_with_len, length-map-range_with_len}
use Rattle.definitions.proofs.Cases.{same_or_other}
use Rattle.definitions.proofs.Families.{allocation_of}
use Rattle.definitions.proofs.Measured.{weight, measured-weight, weight-positive}
use Rattle.definitions.proofs.Members.{has_player-empty, has_player-grand_coalition, has_player-singleton}
use Rattle.definitions.proofs.Members.{has_player-singleton_other, sum_below-same, sum_over-combined}
use Rattle.definitions.proofs.Members.{sum_over-singleton}
use Rattle.definitions.proofs.Parts.{part}
use Rattle.definitions.proofs.Ring.{linear, mul-leℤ, mul-positiveℤ}
use Rattle.theorems.proofs.OneWay.{beats_one_way}
use Rattle.theorems.proofs.SortedLemmas.{ComesBefore-sorted}
use Rattle.theorems.proofs.Soundness.{SameOrLow-range, SomeAbove-range}
use Rattle.definitions.specs.Sums.{IsGreatest}
use Rattle.definitions.specs.Coalitions.{has_player, singleton, grand_coalition, proper_coalitions, sum_over}
use Rattle.definitions.specs.Measures.{measured, IsMeasurable}
use Rattle.definitions.specs.Games.{Game, Allocation, share, amount, excess, measured_excess, Beats, IsSame}
use Rattle.definitions.specs.Games.{IsAllocation, IsEfficient, IsIndividuallyRational, InFamily, IsNucleolus}
use Rattle.definitions.specs.Prekernel.{holds_without}
use Rattle.definitions.specs.declared.Family.{Family}
use Rattle.definitions.specs.declared.Family.TheVariants.{Imputations, Preimputations}
use Rattle.definitions.specs.declared.Measure.{Measure}
use Rattle.theorems.proofs.Products.{products}

-- ---- the move

abbrev pub c_if : ℤ → Bool → ℤ
c_if c b = cond b c (pos 0)

-- c for player i, 0 for the others
abbrev pub units : ℤ → ℕ → ℕ → ℤ
units c i l = c_if c (has_player (singleton i) l)

-- over twice the denominator, c more for i and c less for j
abbrev pub moved_share : ℤ → Allocation → ℕ → ℕ → ℕ → ℤ
moved_share c x i j l = pos 2 *ℤ share x l -ℤ pos 1 *ℤ (pos 1 *ℤ units c j l -ℤ pos 1 *ℤ units c i l)

abbrev pub moved : ℤ → Allocation → ℕ → ℕ → Allocation
moved c x i j =
    record { shares = map (moved_share c x i j) (range_with_len 0 (length x.shares)); den = x.den +ℤ x.den }

sum_over-units : (c : ℤ) (n i s : ℕ) → i < n → sum_over n (units c i) s ≡ c_if c (has_player s i)
sum_over-units c n i s lt =
    sum_below-same n (part (units c i) s) (part (λ l. c_if c (has_player s l)) (singleton i))
    (λ l k. swap (has_player s l) (has_player (singleton i) l))
    ∙ sum_over-singleton n i (λ l. c_if c (has_player s l)) lt
  where
    swap : (a b : Bool) → cond a (c_if c b) (pos 0) ≡ cond b (c_if c a) (pos 0)
    swap a b = grind arith

share-moved : (c : ℤ) (x : Allocation) (i j l : ℕ) → l < length x.shares
    → share (moved c x i j) l ≡ moved_share c x i j l
share-moved c x i j l lt =
    get_or-map-range_with_len (moved_share c x i j) 0 (length x.shares) l l (pos 0) lt (omega arith)

length-moved : (c : ℤ) (x : Allocation) (i j : ℕ) → length (moved c x i j).shares ≡ length x.shares
length-moved c x i j = length-map-range_with_len (moved_share c x i j) 0 (length x.shares)

twice : (z : ℤ) → pos 2 *ℤ z ≡ z +ℤ z
twice z = omega (arith, ints)

plain_share : (c : ℤ) (x : Allocation) (i j l : ℕ)
    → moved_share c x i j l ≡ share x l +ℤ share x l +ℤ units c i l -ℤ units c j l
plain_share c x i j l = omega (products, twice (share x l))

amount-moved : (c : ℤ) (x : Allocation) (i j s : ℕ) → i < length x.shares → j < length x.shares
    → amount (moved c x i j) s ≡ amount x s +ℤ amount x s +ℤ c_if c (has_player s i) -ℤ c_if c (has_player s j)
amount-moved c x i j s hi hj =
    let n = length x.shares in
    let a = ap (λ (k : ℕ). sum_over k (share (moved c x i j)) s) (length-moved c x i j) in
    let b : sum_over n (share (moved c x i j)) s ≡ sum_over n (moved_share c x i j) s =
    sum_below-same n (part (share (moved c x i j)) s) (part (moved_share c x i j) s)
    (λ l lt. ap (λ (z : ℤ). cond (has_player s l) z (pos 0)) (share-moved c x i j l lt)) in
    let d = sum_over-combined n (share x) (λ l. pos 1 *ℤ units c j l -ℤ pos 1 *ℤ units c i l) (pos 2) (pos 1) s in
    let e = sum_over-combined n (units c j) (units c i) (pos 1) (pos 1) s in
    omega (products, a, b, d, e, sum_over-units c n i s hi, sum_over-units c n j s hj, twice (sum_over n (share x) s))

pub excess-moved : (c : ℤ) (g : Game) (x : Allocation) (i j s : ℕ) → IsAllocation g x → i < g.players
    → j < g.players
    → excess g (moved c x i j) s
    ≡ excess g x s +ℤ excess g x s +ℤ c_if c (has_player s j) -ℤ c_if c (has_player s i)
excess-moved c g x i j s h hi hj =
    let ki : i < length x.shares = rw h.0 hi in
    let kj : j < length x.shares = rw h.0 hj in
    omega (products, amount-moved c x i j s ki kj)

-- tests of which the first passes and the second doesn't
pub parted : (b c : Bool) → (b && not c) ≡ true → (b ≡ true) × (not c ≡ true)
parted b c e = grind arith

pub joined : (b c : Bool) → b ≡ true → not c ≡ true → (b && not c) ≡ true
joined b c e h = rw (e, h) refl

none_of : (c : ℤ) (b : Bool) → not b ≡ true → c_if c b ≡ pos 0
none_of c b e = grind arith

-- over twice the denominator, the excess of a coalition that holds j and lacks i rises
pub excess-raised : (c : ℤ) (g : Game) (x : Allocation) (i j s : ℕ) → IsAllocation g x → i < g.players
    → j < g.players → holds_without j i s ≡ true → excess g (moved c x i j) s ≡ excess g x s +ℤ excess g x s +ℤ c
excess-raised c g x i j s h hi hj e =
    let both = parted (has_player s j) (has_player s i) e in
    omega (arith, linear, excess-moved c g x i j s h hi hj, ap (c_if c) both.0, none_of c (has_player s i) both.1)

-- the excess of a coalition that holds i and lacks j falls
pub excess-lowered : (c : ℤ) (g : Game) (x : Allocation) (i j s : ℕ) → IsAllocation g x → i < g.players
    → j < g.players → holds_without i j s ≡ true → excess g (moved c x i j) s ≡ excess g x s +ℤ excess g x s -ℤ c
excess-lowered c g x i j s h hi hj e =
    let both = parted (has_player s i) (has_player s j) e in
    omega (arith, linear, excess-moved c g x i j s h hi hj, ap (c_if c) both.0, none_of c (has_player s j) both.1)

-- ---- the family

IsAllocation-moved : (c : ℤ) (g : Game) (x : Allocation) (i j : ℕ) → IsAllocation g x
    → IsAllocation g (moved c x i j)
IsAllocation-moved c g x i j h = (length-moved c x i j ∙ h.0, omega (arith, linear, h.1))

IsEfficient-moved : (c : ℤ) (g : Game) (x : Allocation) (i j : ℕ) → IsAllocation g x → i < g.players → j < g.players
    → IsEfficient g x → IsEfficient g (moved c x i j)
IsEfficient-moved c g x i j h hi hj e =
    let all = grand_coalition g.players in
    let ki : i < length x.shares = rw h.0 hi in
    let kj : j < length x.shares = rw h.0 hj in
    let bi = ap (c_if c) (has_player-grand_coalition g.players i hi) in
    omega (products, amount-moved c x i j all ki kj, bi, ap (c_if c) (has_player-grand_coalition g.players j hj), e)

-- what j keeps is at least its worth alone
abbrev pub CanGive : ℤ → Game → Allocation → ℕ → Type 0
CanGive c g x j = (x.den *ℤ g.worth (singleton j) +ℤ x.den *ℤ g.worth (singleton j) +ℤ c) ≤ℤ (share x j +ℤ share x j)

IsIndividuallyRational-moved : (c : ℤ) (g : Game) (x : Allocation) (i j : ℕ) → pos 1 ≤ℤ c → IsAllocation g x
    → IsIndividuallyRational g x → CanGive c g x j → IsIndividuallyRational g (moved c x i j)
IsIndividuallyRational-moved c g x i j one h r give l lt =
    let y = share-moved c x i j l (rw h.0 lt) ∙ plain_share c x i j l in
    let up : pos 0 ≤ℤ units c i l = at_least (has_player (singleton i) l) in
    elim (same_or_other l j) [
      | inl same ↦
          let full = ap (c_if c) (ap (has_player (singleton j)) same ∙ has_player-singleton j) in
          omega (products, y, up, full, ap (share x) same, ap (λ (k : ℕ). x.den *ℤ g.worth (singleton k)) same, give)
      | inr other ↦
          omega (products, y, up, ap (c_if c) (has_player-singleton_other j l other), r l lt)
    ]
  where
    at_least : (b : Bool) → pos 0 ≤ℤ c_if c b
    at_least b = grind (arith, linear)

-- of an imputation the giver must be able to give
pub InFamily-moved : (family : Family) (c : ℤ) (g : Game) (x : Allocation) (i j : ℕ) → pos 1 ≤ℤ c → i < g.players
    → j < g.players → InFamily family g x → (family ≡ Imputations → CanGive c g x j)
    → InFamily family g (moved c x i j)
InFamily-moved Imputations c g x i j one hi hj h give = (
  IsAllocation-moved c g x i j h.0,
  IsEfficient-moved c g x i j h.0 hi hj h.1,
  IsIndividuallyRational-moved c g x i j one h.0 h.2 (give refl),
)
InFamily-moved Preimputations c g x i j one hi hj h give =
    (IsAllocation-moved c g x i j h.0, IsEfficient-moved c g x i j h.0 hi hj h.1)

differs-moved : (c : ℤ) (g : Game) (x : Allocation) (i j : ℕ) → pos 1 ≤ℤ c → IsAllocation g x → i < g.players
    → i ≢ j → ¬ IsSame g x (moved c x i j)
differs-moved c g x i j one h hi ne same =
    let y = share-moved c x i j i (rw h.0 hi) ∙ plain_share c x i j i in
    let ui = ap (c_if c) (has_player-singleton i) in
    let uj = ap (c_if c) (has_player-singleton_other j i ne) in
    let q = x.den in
    let a = share x i in
    let more : share (moved c x i j) i ≡ a +ℤ a +ℤ c = omega (arith, linear, y, ui, uj) in
    let e : a *ℤ (q +ℤ q) ≡ (a +ℤ a +ℤ c) *ℤ q = same i hi ∙ ap (λ (z : ℤ). z *ℤ q) more in
    omega (products, e, mul-positiveℤ c q (omega (arith, linear, one)) (omega (arith, linear, h.1)))

-- ---- the excesses

-- a coalition that holds one player and lacks another is neither empty nor that of all
pub proper_of : (n i j s : ℕ) → j < n → s < 2 ^ n → holds_without i j s ≡ true → (1 ≤ s) × (s < 1 + (2 ^ n - 2))
proper_of n i j s lt within h = (some s both.0, less)
  where
    both : (has_player s i ≡ true) × (not (has_player s j) ≡ true)
    both = parted (has_player s i) (has_player s j) h

    some : (t : ℕ) → has_player t i ≡ true → 1 ≤ t
    some t e = grind (arith, has_player-empty)

    not_all : s ≡ grand_coalition n → ⊥
    not_all e =
        false≢true
        (sym (ap (λ (t : ℕ). not (has_player t j)) e ∙ ap not (has_player-grand_coalition n j lt)) ∙ both.1)

    less : s < 1 + (2 ^ n - 2)
    less = let few = within in let one = some s both.0 in omega (arith, not_all)

-- m is the greatest measured excess over the coalitions that hold i and lack j
abbrev pub IsMeasuredSurplus : Measure → Game → Allocation → ℕ → ℕ → ℤ → Type 0
IsMeasuredSurplus measure g x i j m =
    IsGreatest (λ s. (s < 2 ^ g.players) × (holds_without i j s ≡ true)) (measured_excess measure g x) m

-- twice a measured excess, less the units
pub measured-less : (measure : Measure) (n s : ℕ) (e c m : ℤ) → IsMeasurable measure n → 0 < s → s < 2 ^ n
    → pos 1 ≤ℤ c → measured measure s e ≤ℤ m → measured measure s (e +ℤ e -ℤ c) ≤ℤ (m +ℤ m -ℤ pos 1)
measured-less measure n s e c m can some within one le =
    let w = weight measure s in
    let up = mul-positiveℤ w c (weight-positive measure n s can some within) (omega (arith, linear, one)) in
    omega (products, up, le, measured-weight measure s e, measured-weight measure s (e +ℤ e -ℤ c))

measured-twice : (measure : Measure) (s : ℕ) (e : ℤ)
    → measured measure s (e +ℤ e) ≡ measured measure s e +ℤ measured measure s e
measured-twice measure s e =
    let w = weight measure s in
    omega (products, measured-weight measure s e, measured-weight measure s (e +ℤ e))

-- where what rises stays below twice the surplus of i against j, the excesses after the move come before those of x
moved_beats : (measure : Measure) (c : ℤ) (g : Game) (x : Allocation) (i j : ℕ) (m : ℤ)
    → IsMeasurable measure g.players → pos 1 ≤ℤ c → IsAllocation g x → i < g.players → j < g.players
    → IsMeasuredSurplus measure g x i j m
    → ((s : ℕ) → s < 2 ^ g.players → holds_without j i s ≡ true
    → measured_excess measure g (moved c x i j) s ≤ℤ (m +ℤ m -ℤ pos 1)) → Beats measure g (moved c x i j) x
moved_beats measure c g x i j m can one hx hi hj most rising =
    let n = g.players in
    let q = x.den in
    let bound = q *ℤ (m +ℤ m -ℤ pos 1) in
    let f : ℕ → ℤ = λ s. q *ℤ measured_excess measure g (moved c x i j) s in
    let h : ℕ → ℤ = λ s. (q +ℤ q) *ℤ measured_excess measure g x s in
    let t = most.0.0 in
    let both = parted (has_player t i) (has_player t j) most.0.1.1 in
    let proper = proper_of n i j t hj most.0.1.0 most.0.1.1 in
    ComesBefore-sorted bound (map f (proper_coalitions n)) (map h (proper_coalitions n))
    (SameOrLow-range bound f h 1 (2 ^ n - 2)
    (λ s lo hi. each s (omega arith) (omega arith) (has_player s i) (has_player s j) refl refl))
    (SomeAbove-range bound f h 1 (2 ^ n - 2) t proper.0 proper.1
    (low t (omega (arith, proper.0)) most.0.1.0 both.0 both.1) (above (measured_excess measure g x t) most.0.2))
  where
    low : (s : ℕ) → 0 < s → s < 2 ^ g.players → has_player s i ≡ true → not (has_player s j) ≡ true
        → (x.den *ℤ measured_excess measure g (moved c x i j) s) ≤ℤ (x.den *ℤ (m +ℤ m -ℤ pos 1))
    low s some within a b =
        let e = excess g x s in
        let here = joined (has_player s i) (has_player s j) a b in
        let same = ap (measured measure s) (excess-lowered c g x i j s hx hi hj here) in
        let less = measured-less measure g.players s e c m can some within one (most.1 s (within, here)) in
        mul-leℤ x.den (measured_excess measure g (moved c x i j) s) (m +ℤ m -ℤ pos 1) (omega (arith, linear, hx.1))
        (omega (arith, linear, same, less))

    still : (s : ℕ) → excess g (moved c x i j) s ≡ excess g x s +ℤ excess g x s
        → x.den *ℤ measured_excess measure g (moved c x i j) s ≡ (x.den +ℤ x.den) *ℤ measured_excess measure g x s
    still s same =
        let u = measured_excess measure g x s in
        omega (products, ap (◌*ℤ◌ x.den) (ap (measured measure s) same ∙ measured-twice measure s (excess g x s)))

    each : (s : ℕ) → 0 < s → s < 2 ^ g.players → (b d : Bool) → has_player s i ≡ b → has_player s j ≡ d
        → (x.den *ℤ measured_excess measure g (moved c x i j) s ≡ (x.den +ℤ x.den) *ℤ measured_excess measure g x s)
        ⊎ ((x.den *ℤ measured_excess measure g (moved c x i j) s) ≤ℤ (x.den *ℤ (m +ℤ m -ℤ pos 1)))
    each s some within true true a b =
        inl (still s (omega (arith, linear, excess-moved c g x i j s hx hi hj, ap (c_if c) a, ap (c_if c) b)))
    each s some within false false a b =
        inl (still s (omega (arith, linear, excess-moved c g x i j s hx hi hj, ap (c_if c) a, ap (c_if c) b)))
    each s some within true false a b = inr (low s some within a (ap not b))
    each s some within false true a b =
        inr
        (mul-leℤ x.den (measured_excess measure g (moved c x i j) s) (m +ℤ m -ℤ pos 1)
        (omega (arith, linear, hx.1)) (rising s within (joined (has_player s j) (has_player s i) b (ap not a))))

    above : (u : ℤ) → m ≡ u → (x.den *ℤ (m +ℤ m -ℤ pos 1)) <ℤ ((x.den +ℤ x.den) *ℤ u)
    above u same =
        let q = x.den in
        omega (products, hx.1, ap (◌*ℤ◌ ((q +ℤ q))) same)

-- so at the nucleolus no such move is left within the family
pub no_gain : (family : Family) (measure : Measure) (c : ℤ) (g : Game) (x : Allocation) (i j : ℕ) (m : ℤ)
    → IsMeasurable measure g.players → IsNucleolus family measure g x → pos 1 ≤ℤ c → i < g.players → j < g.players
    → i ≢ j → (family ≡ Imputations → CanGive c g x j) → IsMeasuredSurplus measure g x i j m
    → ((s : ℕ) → s < 2 ^ g.players → holds_without j i s ≡ true
    → measured_excess measure g (moved c x i j) s ≤ℤ (m +ℤ m -ℤ pos 1)) → ⊥
no_gain family measure c g x i j m can h one hi hj ne give most rising =
    let hx = allocation_of family g x h.0 in
    beats_one_way measure g x (moved c x i j)
    (h.1 (moved c x i j) (InFamily-moved family c g x i j one hi hj h.0 give)
    (differs-moved c g x i j one hx hi ne))
    (moved_beats measure c g x i j m can one hx hi hj most rising)
