-- A certificate that meets its conditions certifies the nucleolus over every linearly ordered abelian group.
--
-- Take another member z of the family. For player i, `gap` x i is the difference between x and z over the denominator
-- of x, as a column: integers that say how often the unit and each share of z are taken. Level by level, either the
-- level differs by nothing, or x comes before z.
--
-- 1. `Settled` (Settled.antt) says that the coalitions of the levels so far, and the players with a bound weight there,
--    differ by nothing.
-- 2. The weighted differences of a level add to its total times the difference of all players, which is nothing
--    (`level-sum`). Terms of earlier levels are nothing (`earlier_zero`). Those of bounds have a known sign.
-- 3. If no coalition of the level gets less at z, all terms have one sign and add to nothing. So each is nothing, and
--    the level is settled too (`Settled-more`).
-- 4. Otherwise some coalition has an excess at z above e, the level's excess. A coalition that isn't outside has one
--    excess at both (`inside_zero`), and one outside has at most e at x. That is `Rises`, so x comes first
--    (`ComesBefore-sorted` in Sorted.antt).
-- 5. After the last level no player differs (`all_fixed_zero`).
--
-- Weights balance players, so step 2 is on plain differences. A measured excess moves as the plain one does
-- (`excess-differs`).
use Rattle.std.proofs.Common.{◌≡◌, ◌⊎◌, ℕ, zero, suc, ◌+◌, ◌-◌, ◌^◌, ◌<◌, ◌≤◌, List, [], ◌∷◌, ◌++◌, length, map, ℤ, pos}
use Rattle.std.proofs.Common.{◌+ℤ◌, ◌-ℤ◌, ◌*ℤ◌, ◌≤ℤ◌, ◌<ℤ◌, IsTrue, refl, sym, subst, inl, inr, arith}
use Rattle.std.specs.List.{AllByRecursion, range_with_len}
use Rattle.std.proofs.lemmas.Int.{by_lt_z}
use lib.IntN.{*ℤ_comm}
use Rattle.definitions.proofs.Ring.{linear, mul-le_cancelℤ}
use Rattle.definitions.proofs.Alls.{all_both}
use Rattle.definitions.proofs.Families.{allocation_of, efficient_of}
use Rattle.definitions.proofs.Measured.{weight, weight-positive}
use Rattle.definitions.proofs.Cases.{same_or_later}
use Rattle.definitions.specs.Sums.{weighted_sum}
use Rattle.definitions.specs.Coalitions.{grand_coalition, proper_coalitions}
use Rattle.definitions.specs.Measures.{measured_den, IsMeasurable}
use Rattle.definitions.specs.Games.{Game, Allocation, share, measured_excess, InFamily}
use Rattle.definitions.specs.Certificates.{Level, is_listed, LevelsForm, HasForm, LevelHolds, LevelsHold, HasExcess}
use Rattle.definitions.specs.Certificates.{IsOutside, IsTight, BoundWeighs, Certifies}
use Rattle.definitions.specs.declared.Family.{Family}
use Rattle.definitions.specs.declared.Family.TheVariants.{Imputations, Preimputations}
use Rattle.definitions.specs.declared.Measure.{Measure}
use Rattle.definitions.specs.declared.Mode.{Mode}
use Rattle.real_shares.specs.Numbers.{Numbers, IsOrderedGroup, AtMost, Less, Equal, times, sorted_by, ComesBeforeBy}
use Rattle.real_shares.specs.Shares.{number_of, excess_of, measured_of, InFamilyOver, IsEfficientOver}
use Rattle.real_shares.specs.Shares.{IsIndividuallyRationalOver, IsSameOver, IsNucleolusOver}
use Rattle.real_shares.specs.Claims.{IsNucleolusOverGroups}
use Rattle.real_shares.proofs.Orders.{at_most-same}
use Rattle.real_shares.proofs.Multiples.{chain, back, plus-equal, from_difference, added-low, times-at_most, through}
use Rattle.real_shares.proofs.Sorted.{SameOrLow, SomeAbove, ComesBefore-sorted}
use Rattle.real_shares.proofs.Cones.{Zero, Weighs, low-plus, zero-minus, zero-times, low-divided, weighted-low}
use Rattle.real_shares.proofs.Cones.{weighted-all_zero, weighted-zero_terms, some_rises}
use Rattle.real_shares.proofs.Combined.{combined, IsLow, cone, from_zero, combined-player}
use Rattle.real_shares.proofs.Settled.{over, level-sum, Settled, Settled-none, Settled-more, earlier_zero, inside_zero}
use Rattle.real_shares.proofs.Settled.{all_fixed_zero}
use Rattle.real_shares.proofs.Differences.{gap, excess-differs, all-zero, bound-low}

-- ---- lists over the masks

pub SameOrLow-range : {C : Type 0} (N : Numbers C) (e : C) (f h : ℕ → C) (a k : ℕ)
    → ((s : ℕ) → a ≤ s → s < a + k → Equal N (f s) (h s) ⊎ AtMost N (f s) e)
    → SameOrLow N e (map f (range_with_len a k)) (map h (range_with_len a k))
SameOrLow-range N e f h a zero each = tt
SameOrLow-range N e f h a (suc k) each = (
  each a (omega arith) (omega arith),
  SameOrLow-range N e f h (a + 1) k (λ s low high. each s (omega arith) (omega arith)),
)

pub SomeAbove-range : {C : Type 0} (N : Numbers C) (e : C) (f h : ℕ → C) (a k c : ℕ) → a ≤ c → c < a + k
    → AtMost N (f c) e → Less N e (h c) → SomeAbove N e (map f (range_with_len a k)) (map h (range_with_len a k))
SomeAbove-range N e f h a zero c low high at above = absurd (omega arith)
SomeAbove-range N e f h a (suc k) c low high at above = elim (same_or_later a c low) [
  | inl same ↦ inl (subst (λ (i : ℕ). AtMost N (f i) e × Less N e (h i)) (sym same) (at, above))
  | inr later ↦ inr (SomeAbove-range N e f h (a + 1) k c later (omega arith) at above)
]

-- ---- what is asked of a level's form: nothing of the size of its numbers

pub record LevelFits (n : ℕ) (front : List Level) (l : Level) : Type 0 where
  pub fraction : pos 1 ≤ℤ l.excess_den
  pub proper : AllByRecursion (λ c. (0 < c.0) × (c.0 < grand_coalition n)) l.coalitions
  pub listed : AllByRecursion (λ c. IsTrue (is_listed front c.0)) l.earlier
  pub players : AllByRecursion (λ b. b.0 < n) l.bounds

abbrev pub LevelsFit : ℕ → List Level → List Level → Type 0
LevelsFit n front [] = Unit {0}
LevelsFit n front (l ∷ levels) = LevelFits n front l × LevelsFit n (front ++ l ∷ []) levels

pub form_fits : (n : ℕ) (front levels : List Level) → LevelsForm n front levels → LevelsFit n front levels
form_fits n front [] form = tt
form_fits n front (l ∷ levels) form = (
  record {
    fraction = form.0.fraction;
    proper = form.0.proper;
    listed = form.0.listed;
    players = form.0.players;
  },
  form_fits n (front ++ l ∷ []) levels form.1,
)

-- ---- the members of a family

pub length_over : {C : Type 0} (N : Numbers C) (family : Family) (g : Game) (y : List C) → InFamilyOver N family g y
    → length y ≡ g.players
length_over N Imputations g y h = h.0
length_over N Preimputations g y h = h.0

pub efficient_over : {C : Type 0} (N : Numbers C) (family : Family) (g : Game) (y : List C)
    → InFamilyOver N family g y → IsEfficientOver N g y
efficient_over N Imputations g y h = h.1
efficient_over N Preimputations g y h = h.1

pub individual_over : {C : Type 0} (N : Numbers C) (family : Family) (g : Game) (y : List C)
    → InFamilyOver N family g y → family ≡ Imputations → IsIndividuallyRationalOver N g y
individual_over N Imputations g y h e = h.2
individual_over N Preimputations g y h e = absurd (cc)

-- what has at most the level's excess has at most that of a coalition which has it
at_most : (u c den r : ℤ) → pos 1 ≤ℤ den → (u *ℤ den) ≤ℤ r → c *ℤ den ≡ r → u ≤ℤ c
at_most u c den r one le e =
    mul-le_cancelℤ den u c (omega (arith, linear)) (omega (arith, linear, *ℤ_comm u den, *ℤ_comm c den))

-- the measured excess of s at the fractions, and at the numbers, times the denominator
abbrev pub at_fractions : {C : Type 0} → Numbers C → Measure → Game → Allocation → ℕ → C
at_fractions N measure g x s = times N (measured_excess measure g x s) N.unit

abbrev pub at_numbers : {C : Type 0} → Numbers C → Measure → Game → Allocation → List C → ℕ → C
at_numbers N measure g x y s = times N x.den (measured_of N measure s (excess_of N g y s))

-- some coalition c gets less at the numbers, and each with a greater excess than c at the fractions gets the same
pub record Rises {C : Type 0} (N : Numbers C) (measure : Measure) (g : Game) (x : Allocation) (y : List C) : Type 0
  where
    pub c : ℕ
    pub some : 1 ≤ c
    pub proper : c < 1 + (2 ^ g.players - 2)
    pub each : (s : ℕ) → 1 ≤ s → s < 1 + (2 ^ g.players - 2)
        → Equal N (at_fractions N measure g x s) (at_numbers N measure g x y s)
        ⊎ AtMost N (at_fractions N measure g x s) (at_fractions N measure g x c)
    pub above : Less N (at_fractions N measure g x c) (at_numbers N measure g x y c)

-- two lists of the proper coalitions' numbers
pub before-from : {C : Type 0} (N : Numbers C) → IsOrderedGroup N → (n : ℕ) (f h : ℕ → C) (c : ℕ) → 1 ≤ c
    → c < 1 + (2 ^ n - 2) → ((s : ℕ) → 1 ≤ s → s < 1 + (2 ^ n - 2) → Equal N (f s) (h s) ⊎ AtMost N (f s) (f c))
    → Less N (f c) (h c)
    → ComesBeforeBy N (sorted_by N (map f (proper_coalitions n))) (sorted_by N (map h (proper_coalitions n)))
before-from N L n f h c some proper each above =
    ComesBefore-sorted N L (f c) (map f (proper_coalitions n)) (map h (proper_coalitions n))
    (SameOrLow-range N (f c) f h 1 (2 ^ n - 2) each)
    (SomeAbove-range N (f c) f h 1 (2 ^ n - 2) c some proper (at_most-same N L (f c)) above)

module _ {C : Type 0} (N : Numbers C) (L : IsOrderedGroup N) (family : Family) (measure : Measure) (g : Game)
    (x : Allocation) (y : List C) (m : IsMeasurable measure g.players) (hx : InFamily family g x)
    (hy : InFamilyOver N family g y) where
  abbrev Low : (ℕ → ℤ) → Type 0
  Low f = IsLow N g.players (number_of N y) f

  all : Zero Low (over g.players (gap x) (grand_coalition g.players))
  all =
      all-zero N L g x y (allocation_of family g x hx) (length_over N family g y hy) (efficient_of family g x hx)
      (efficient_over N family g y hy)

  -- a bound player gets no more from x than from another member
  bounds_low : (ps : List (ℕ × ℤ)) → AllByRecursion (λ b. b.0 < g.players) ps
      → AllByRecursion (IsTight family g x) ps → AllByRecursion (λ p. Low (gap x p.0)) ps
  bounds_low [] within tight = tt
  bounds_low (p ∷ ps) within tight =
      let least = individual_over N family g y hy tight.0.1 p.0 within.0 in (
        bound-low N L g x y (allocation_of family g x hx) (length_over N family g y hy) p.0 within.0 tight.0.0
            least,
        bounds_low ps within.1 tight.1,
      )

  bounds_weigh : (front : List Level) → Settled Low g.players (gap x) front → (ps : List (ℕ × ℤ))
      → AllByRecursion (λ b. b.0 < g.players) ps → AllByRecursion (BoundWeighs front) ps
      → AllByRecursion (Weighs Low (gap x)) ps
  bounds_weigh front settled [] within h = tt
  bounds_weigh front settled (p ∷ ps) within h = (
    elim h.0 [ inl a ↦ inl a | inr a ↦ inr (settled.bounded p.0 within.0 a) ],
    bounds_weigh front settled ps within.1 h.1,
  )

  coalitions_weigh : (ps : List (ℕ × ℤ)) → AllByRecursion (λ c. pos 1 ≤ℤ c.1) ps
      → AllByRecursion (Weighs Low (over g.players (gap x))) ps
  coalitions_weigh [] h = tt
  coalitions_weigh (p ∷ ps) h = (inl h.0, coalitions_weigh ps h.1)

  -- where a coalition of the level gets less
  rising : (mode : Mode) (front : List Level) (l : Level) → LevelFits g.players front l
      → LevelHolds mode family measure g x front l → Settled Low g.players (gap x) front → (c : ℕ)
      → HasExcess measure g x l c → 0 < c → c < grand_coalition g.players → (¬ Low (over g.players (gap x) c))
      → Rises N measure g x y
  rising mode front l form holds settled c here low high up =
      let n = g.players in
      let ax = allocation_of family g x hx in
      let len = length_over N family g y hy in
      let f : ℕ → C = at_fractions N measure g x in
      let h : ℕ → C = at_numbers N measure g x y in
      let e = f c in
      let part : ℕ → ℕ → ℤ = λ s k. weight measure s *ℤ over n (gap x) s k in
      let inside : (s : ℕ) → 1 ≤ s → s < 1 + (2 ^ n - 2)
      → measured_excess measure g x c <ℤ measured_excess measure g x s → ¬ IsOutside mode n front s =
      λ s lo hi above outside.
      let most = holds.outside s (omega arith) outside in
      let less = at_most (measured_excess measure g x s) (measured_excess measure g x c) l.excess_den
      (l.excess_num *ℤ measured_den measure x.den) form.fraction most here in
      omega (arith, linear, above, less) in
      let each : (s : ℕ) → 1 ≤ s → s < 1 + (2 ^ n - 2) → Equal N (f s) (h s) ⊎ AtMost N (f s) e = λ s lo hi.
      by_lt_z (measured_excess measure g x c) (measured_excess measure g x s) (λ above.
      let nothing =
      inside_zero (cone N L n (number_of N y)) mode n (gap x) front settled all s (omega arith) (omega arith)
      (inside s lo hi above) in
      let none = from_zero N L n (number_of N y) (part s)
      (zero-times (cone N L n (number_of N y)) (weight measure s) (over n (gap x) s) nothing) in
      inl (back N L (chain N L (excess-differs N L g x y ax len measure s)
      (chain N L (plus-equal N L (at_most-same N L (f s), at_most-same N L (f s)) none) (L.neutral (f s))))))
      (λ le. inr (times-at_most N L (measured_excess measure g x s) (measured_excess measure g x c) le)) in
      let above : Less N e (h c) = λ less.
      let sum = N.plus (f c) (combined N n (number_of N y) (part c)) in
      let sum_low = through N L (excess-differs N L g x y ax len measure c).1 less in
      up (low-divided (cone N L n (number_of N y)) (weight measure c) (over n (gap x) c)
      (weight-positive measure n c m low (omega arith))
      (added-low N L (f c) (combined N n (number_of N y) (part c)) sum_low)) in
      record { c = c; some = omega arith; proper = omega arith; each = each; above = above }

  -- a level that no coalition rises in is settled
  level_step : (mode : Mode) (front : List Level) (l : Level) → LevelFits g.players front l
      → LevelHolds mode family measure g x front l → Settled Low g.players (gap x) front
      → Rises N measure g x y ⊎ Settled Low g.players (gap x) (front ++ l ∷ [])
  level_step mode front l form holds settled =
      let n = g.players in
      let K = cone N L n (number_of N y) in
      let D = gap x in
      let known : AllByRecursion (λ c. HasExcess measure g x l c.0 × ((0 < c.0) × (c.0 < grand_coalition n)))
      l.coalitions =
      all_both (λ c. HasExcess measure g x l c.0) (λ c. (0 < c.0) × (c.0 < grand_coalition n)) l.coalitions
      holds.excesses form.proper in
      elim
      (some_rises K (over n D) (λ c. HasExcess measure g x l c.0 × ((0 < c.0) × (c.0 < grand_coalition n)))
      l.coalitions known) [
        | inl found ↦ inl
            (rising mode front l form holds settled found.0.0 found.1.0 found.1.1.0 found.1.1.1 found.2)
        | inr none ↦
            let a : ℕ → ℤ = λ k. weighted_sum (λ s. over n D s k) l.coalitions in
            let b : ℕ → ℤ = λ k. weighted_sum (λ s. over n D s k) l.earlier in
            let c : ℕ → ℤ = λ k. weighted_sum (λ i. D i k) l.bounds in
            let total : ℕ → ℤ = λ k. l.total *ℤ over n D (grand_coalition n) k in
            let earlier = weighted-zero_terms K (over n D) l.earlier
            (earlier_zero K n D front settled l.earlier form.listed) in
            let rest = zero-minus K total b (λ k. total k -ℤ b k) (λ k. refl)
            (zero-times K l.total (over n D (grand_coalition n)) all) earlier in
            let sums : (k : ℕ) → a k +ℤ b k +ℤ c k ≡ total k =
            λ k. level-sum n (λ i. D i k) l form.players holds.balanced in
            let weigh = coalitions_weigh l.coalitions holds.weights in
            let bound_weigh = bounds_weigh front settled l.bounds form.players holds.bound_weights in
            let bound_low = bounds_low l.bounds form.players holds.tight in
            let first = weighted-low K (over n D) l.coalitions weigh none in
            let second = weighted-low K D l.bounds bound_weigh bound_low in
            inr (Settled-more K n D front l settled
            (weighted-all_zero K (over n D) l.coalitions weigh none
            (low-plus K (λ k. pos 0 -ℤ (total k -ℤ b k)) c (λ k. pos 0 -ℤ a k)
            (λ k. omega (arith, linear, sums k)) rest.1 second))
            (weighted-all_zero K D l.bounds bound_weigh bound_low
            (low-plus K (λ k. pos 0 -ℤ (total k -ℤ b k)) a (λ k. pos 0 -ℤ c k)
            (λ k. omega (arith, linear, sums k)) rest.1 first)))
      ]

  pub levels_sound : (mode : Mode) (front levels : List Level) → LevelsFit g.players front levels
      → LevelsHold mode family measure g x front levels → Settled Low g.players (gap x) front
      → Rises N measure g x y ⊎ IsSameOver N g x y
  levels_sound mode front [] form holds settled =
      let n = g.players in
      let K = cone N L n (number_of N y) in
      inr (λ i h. from_difference N L (times N (share x i) N.unit) (times N x.den (number_of N y i))
      (chain N L (back N L (combined-player N L n (number_of N y) (share x i) x.den i h))
      (from_zero N L n (number_of N y) (gap x i) (all_fixed_zero K mode n (gap x) front settled all holds i h))))
  levels_sound mode front (l ∷ levels) form holds settled =
      elim (level_step mode front l form.0 holds.0 settled) [
        | inl rises ↦ inl rises
        | inr more ↦ levels_sound mode (front ++ l ∷ []) levels form.1 holds.1 more
      ]

pub IsNucleolusOver-from_levels : {C : Type 0} (N : Numbers C) → IsOrderedGroup N
    → (mode : Mode) (family : Family) (measure : Measure) (g : Game) (x : Allocation) (levels : List Level)
    → IsMeasurable measure g.players → LevelsFit g.players [] levels → Certifies mode family measure g x levels
    → IsNucleolusOver N family measure g x
IsNucleolusOver-from_levels N L mode family measure g x levels m fits certifies = (
  certifies.0,
  λ y hy differs. elim
      (levels_sound N L family measure g x y m certifies.0 hy mode [] levels fits certifies.1
      (Settled-none (cone N L g.players (number_of N y)) g.players (gap x))) [
        | inl r ↦ before-from N L g.players (at_fractions N measure g x) (at_numbers N measure g x y) r.c r.some
            r.proper r.each r.above
        | inr same ↦ absurd (differs same)
      ],
)

pub IsNucleolusOver-from_certificate : {C : Type 0} (N : Numbers C) → IsOrderedGroup N
    → (mode : Mode) (family : Family) (measure : Measure) (g : Game) (x : Allocation) (levels : List Level)
    → IsMeasurable measure g.players → HasForm mode g.players levels → Certifies mode family measure g x levels
    → IsNucleolusOver N family measure g x
IsNucleolusOver-from_certificate N L mode family measure g x levels m form certifies =
    IsNucleolusOver-from_levels N L mode family measure g x levels m (form_fits g.players [] levels form.each)
    certifies

pub IsNucleolusOverGroups-from_certificate : (mode : Mode) (family : Family) (measure : Measure) (g : Game)
    (x : Allocation) (levels : List Level) → IsMeasurable measure g.players → HasForm mode g.players levels
    → Certifies mode family measure g x levels → IsNucleolusOverGroups family measure g x
IsNucleolusOverGroups-from_certificate mode family measure g x levels m form certifies N L =
    IsNucleolusOver-from_certificate N L mode family measure g x levels m form certifies
