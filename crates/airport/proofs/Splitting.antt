-- A scan over the players from the least cost keeps a bound of the excesses of the splitting coalitions of the
-- players seen, which some coalition reaches.
--
-- At each place, take the greatest payment of a splitting coalition of the players seen, less the cost at that place.
-- That is at most the coalition's excess, since its cost is at most the cost there. It is at least the excess of every
-- splitting coalition whose last player is at that place. So the greatest of these numbers is attained and bounds all.
use Rattle.std.proofs.Common.{◌≡◌, ℕ, zero, suc, ◌+◌, ◌^◌, ◌<◌, Bool, true, false}
use Rattle.std.proofs.Common.{not, ◌&&◌, ◌||◌}
use Rattle.std.proofs.Common.{cond, nat_eq, IsSome, ℤ, ◌-ℤ◌, ◌≤ℤ◌, Option, Some, None, MatchOption}
use Rattle.std.proofs.Common.{int_lt, refl, sym, ap, ◌∙◌, inl, inr, arith}
use Rattle.std.proofs.lemmas.Bool.{false≢true}
use Rattle.std.proofs.lemmas.Bool.Decides.{nat_tests}
use Rattle.std.proofs.lemmas.Int.{ints}
use Rattle.std.proofs.Math.Pow.{pow-lt}
use Rattle.definitions.proofs.Ring.{linear}
use Rattle.definitions.proofs.Members.{has_player-empty}
use Rattle.definitions.proofs.Parts.{has_player-more_same, has_player-more_other, has_player-past, same_coalition}
use Rattle.definitions.specs.Coalitions.{has_player, singleton, some_below, splits, sum_over}
use Rattle.definitions.specs.Games.{Game, Allocation, excess, IsSplitMaximum, HasTwo}
use Rattle.worth_core.specs.Greatest.{max_so_far}
use Rattle.worth_core.specs.SplitKinds.{holds_some, lacks_some, IsGreatestSum}
use Rattle.worth_core.proofs.SplitScan.{is_split, is_split-singleton}
use Rattle.airport.proofs.Within.{IsWithin, IsWithin-cases, IsWithin-nobody}
use Rattle.airport.proofs.Blocking.{IsNextPlayer}
use Rattle.definitions.proofs.Cases.{below_or_above, and_false, same_or_other}
use Rattle.definitions.proofs.Splits.{some_below-same, some_below-false, some_below-none}

-- ---- whether some player passes a test

some_below-or : (n : ℕ) (p q : ℕ → Bool) → some_below n (λ i. p i || q i) ≡ (some_below n p || some_below n q)
some_below-or zero p q = refl
some_below-or (suc n) p q =
    ap (λ (b : Bool). (p n || q n) || b) (some_below-or n p q) ∙ law (p n) (q n) (some_below n p) (some_below n q)
  where
    law : (a b c d : Bool) → ((a || b) || (c || d)) ≡ ((a || c) || (b || d))
    law true b c d = refl
    law false true true d = refl
    law false true false d = refl
    law false false c d = refl

-- ---- the free players that aren't seen

-- some player of f isn't seen
abbrev pub some_unseen : ℕ → ℕ → ℕ → Bool
some_unseen n f seen = some_below n (λ i. has_player f i && not (has_player seen i))

-- by the coalition of those
pub some_unseen-is : (n f seen u : ℕ) → f < 2 ^ n
    → ((i : ℕ) → has_player u i ≡ (has_player f i && not (has_player seen i)))
    → not (nat_eq u 0) ≡ some_unseen n f seen
some_unseen-is n f seen u lt h = decide (some_unseen n f seen) refl
  where
    empty_if_none : some_unseen n f seen ≡ false → u ≡ 0
    empty_if_none e = same_coalition u 0 (λ i. elim (below_or_above i n) [
      | inl below ↦ h i ∙ some_below-false n (λ i. has_player f i && not (has_player seen i)) e i below
          ∙ sym (has_player-empty i)
      | inr past ↦ h i ∙ ap (λ (b : Bool). b && not (has_player seen i)) (has_player-past n f i lt past)
          ∙ sym (has_player-empty i)
    ])

    test : (u : ℕ) → u ≡ 0 → not (nat_eq u 0) ≡ false
    test u e = grind (arith, nat_tests)

    other : (u : ℕ) → (u ≡ 0 → ⊥) → not (nat_eq u 0) ≡ true
    other u ne = grind (arith, nat_tests)

    empty : u ≡ 0 → some_unseen n f seen ≡ false
    empty e =
        some_below-none n (λ i. has_player f i && not (has_player seen i))
        (λ i k. sym (h i) ∙ ap (λ (m : ℕ). has_player m i) e ∙ has_player-empty i)

    decide : (b : Bool) → some_unseen n f seen ≡ b → not (nat_eq u 0) ≡ some_unseen n f seen
    decide true e = other u (λ z. false≢true (sym (empty z) ∙ e)) ∙ sym e
    decide false e = test u (empty_if_none e) ∙ sym e

-- where nobody is seen
pub unseen-start : (f i : ℕ) → has_player f i ≡ (has_player f i && not (has_player 0 i))
unseen-start f i = law (has_player f i) (has_player 0 i) (has_player-empty i)
  where
    law : (b c : Bool) → c ≡ false → b ≡ (b && not c)
    law true c e = rw e refl
    law false c e = refl

-- where one more player is seen
pub unseen-more : (f seen p u v : ℕ) → has_player seen p ≡ false
    → ((j : ℕ) → has_player u j ≡ (has_player f j && not (has_player seen j)))
    → ((j : ℕ) → has_player v j ≡ (not (nat_eq j p) && has_player u j)) → (j : ℕ)
    → has_player v j ≡ (has_player f j && not (has_player (seen + 2 ^ p) j))
unseen-more f seen p u v new h k j = elim (same_or_other j p) [
  | inl same ↦ k j ∙ here j same
  | inr other ↦ k j ∙ there j other
]
  where
    itself : (j p : ℕ) → j ≡ p → not (nat_eq j p) ≡ false
    itself j p e = grind (arith, nat_tests)

    another : (j p : ℕ) → (j ≡ p → ⊥) → not (nat_eq j p) ≡ true
    another j p ne = grind (arith, nat_tests)

    here : (j : ℕ) → j ≡ p
        → (not (nat_eq j p) && has_player u j) ≡ (has_player f j && not (has_player (seen + 2 ^ p) j))
    here j e =
        ap (λ (b : Bool). b && has_player u j) (itself j p e)
        ∙ sym
        (ap (λ (b : Bool). has_player f j && not b)
        (ap (has_player (seen + 2 ^ p)) e ∙ has_player-more_same seen p new) ∙ and_false (has_player f j))

    there : (j : ℕ) → (j ≡ p → ⊥)
        → (not (nat_eq j p) && has_player u j) ≡ (has_player f j && not (has_player (seen + 2 ^ p) j))
    there j ne =
        ap (λ (b : Bool). b && has_player u j) (another j p ne) ∙ h j
        ∙ sym (ap (λ (b : Bool). has_player f j && not b) (has_player-more_other seen p j new ne))

-- ---- splitting coalitions of the players seen

pub splits-seen : (n f seen s : ℕ) → ((i : ℕ) → has_player s i ≡ true → has_player seen i ≡ true)
    → splits n (has_player f) s ≡ (holds_some n f s && (lacks_some n f seen s || some_unseen n f seen))
splits-seen n f seen s within =
    ap (λ (b : Bool). holds_some n f s && b) (
    some_below-same n (λ i. has_player f i && not (has_player s i))
    (λ i. ((has_player f i && has_player seen i) && not (has_player s i))
    || (has_player f i && not (has_player seen i)))
    (λ i k. law (has_player f i) (has_player s i) (has_player seen i) (within i))
    ∙ some_below-or n (λ i. (has_player f i && has_player seen i) && not (has_player s i))
    (λ i. has_player f i && not (has_player seen i))
    )
  where
    law : (f s seen : Bool) → (s ≡ true → seen ≡ true) → (f && not s) ≡ (((f && seen) && not s) || (f && not seen))
    law false s seen h = refl
    law true false true h = refl
    law true false false h = refl
    law true true true h = refl
    law true true false h = absurd (false≢true (h refl))

-- the greatest payment of a splitting coalition of the players seen
abbrev pub IsBestPayment : ℕ → ℕ → (ℕ → Bool) → (ℕ → ℤ) → Option ℤ → Type 0
IsBestPayment n seen split pay best =
    MatchOption best
    ((s : ℕ) → IsWithin n seen s → split s ≡ true → ⊥)
    (λ m. ((s : ℕ) × IsWithin n seen s × (split s ≡ true) × (m ≡ pay s))
    × ((s : ℕ) → IsWithin n seen s → split s ≡ true → pay s ≤ℤ m))

pub IsBestPayment-from_sums : (n f seen : ℕ) (a pay : ℕ → ℤ) (others : Bool) (best : Option ℤ)
    → ((s : ℕ) → sum_over n a s ≡ pay s) → others ≡ some_unseen n f seen
    → IsGreatestSum n a f seen (λ holds lacks. holds && (lacks || others)) best
    → IsBestPayment n seen (splits n (has_player f)) pay best
IsBestPayment-from_sums n f seen a pay others None same unseen h =
    λ s within split. h s (
      within.0,
      within.1,
      sym
          (splits-seen n f seen s within.1
          ∙ ap (λ (b : Bool). holds_some n f s && (lacks_some n f seen s || b)) (sym unseen)) ∙ split,
    )
IsBestPayment-from_sums n f seen a pay others (Some m) same unseen h = (
  (
    h.0.0,
    (h.0.1.0, h.0.1.1),
    splits-seen n f seen h.0.0 h.0.1.1
        ∙ ap (λ (b : Bool). holds_some n f h.0.0 && (lacks_some n f seen h.0.0 || b)) (sym unseen) ∙ h.0.1.2,
    h.0.2 ∙ same h.0.0,
  ),
  λ s within split. rw (← same)
      (h.1 s (
        within.0,
        within.1,
        sym
            (splits-seen n f seen s within.1
            ∙ ap (λ (b : Bool). holds_some n f s && (lacks_some n f seen s || b)) (sym unseen)) ∙ split,
      )),
)

-- ---- the scan

-- no splitting coalition of the players seen has a greater excess, and some splitting coalition has as great a one
pub record IsFrontBound (n seen : ℕ) (split : ℕ → Bool) (e : ℕ → ℤ) (most : Option ℤ) : Type 0 where
  pub found : MatchOption most ((s : ℕ) → IsWithin n seen s → split s ≡ true → ⊥)
      (λ m. ((s : ℕ) × (s < 2 ^ n) × (split s ≡ true) × (m ≤ℤ e s))
      × ((s : ℕ) → IsWithin n seen s → split s ≡ true → e s ≤ℤ m))

pub IsFrontBound-start : (n f : ℕ) (e : ℕ → ℤ) → IsFrontBound n 0 (splits n (has_player f)) e None
IsFrontBound-start n f e =
    record {
      found =
          λ s within cut. false≢true (sym (ap (splits n (has_player f)) (IsWithin-nobody n s within) ∙ whole) ∙ cut);
    }
  where
    whole : splits n (has_player f) 0 ≡ false
    whole =
        ap (λ (b : Bool). b && some_below n (λ i. has_player f i && not (has_player 0 i)))
        (some_below-none n (λ i. has_player f i && has_player 0 i)
        (λ i k. ap (λ (b : Bool). has_player f i && b) (has_player-empty i) ∙ and_false (has_player f i)))

-- no coalition of the players seen splits
pub IsFrontBound-kept : (n seen next : ℕ) (split : ℕ → Bool) (pay e : ℕ → ℤ) (most : Option ℤ)
    → IsFrontBound n seen split e most → IsBestPayment n next split pay None → IsFrontBound n next split e most
IsFrontBound-kept n seen next split pay e None h none = record { found = none }
IsFrontBound-kept n seen next split pay e (Some m) h none =
    record { found = (h.found.0, λ s within cut. absurd (none s within cut)) }

module _ (n seen p : ℕ) (split : ℕ → Bool) (pay e : ℕ → ℤ) (w c m value : ℤ)
    (next : IsNextPlayer n seen p pay e w c) (best : IsBestPayment n (seen + 2 ^ p) split pay (Some m))
    (is : value ≡ m -ℤ c) where
  -- a coalition with the new player
  new-e : (s t : ℕ) → IsWithin n seen t → s ≡ t + 2 ^ p → e s ≡ pay s -ℤ c
  new-e s t within place =
      omega (arith, linear, ap e place, next.exceeds t within, ap pay place, next.pays t within)

  reached : (s : ℕ) → IsWithin n (seen + 2 ^ p) s → m ≡ pay s → value ≤ℤ e s
  reached s within same = elim (IsWithin-cases n seen p s next.player next.new within) [
    | inl old ↦ omega (arith, linear, next.cheaper s old)
    | inr (t, part, place) ↦ omega (arith, linear, new-e s t part place)
  ]

  bounded : (b : ℤ) → value ≤ℤ b → ((s : ℕ) → IsWithin n seen s → split s ≡ true → e s ≤ℤ b) → (s : ℕ)
      → IsWithin n (seen + 2 ^ p) s → split s ≡ true → e s ≤ℤ b
  bounded b le before s within cut = elim (IsWithin-cases n seen p s next.player next.new within) [
    | inl old ↦ before s old cut
    | inr (t, part, place) ↦ omega (arith, linear, new-e s t part place, best.1 s within cut)
  ]

  at_best : (s : ℕ) × (s < 2 ^ n) × (split s ≡ true) × (value ≤ℤ e s)
  at_best = (best.0.0, best.0.1.0, best.0.2, reached best.0.0 best.0.1 best.0.3)

  pub IsFrontBound-more : (most : Option ℤ) → IsFrontBound n seen split e most
      → IsFrontBound n (seen + 2 ^ p) split e (Some (max_so_far most value))
  IsFrontBound-more None h =
      record
      { found = (at_best, bounded value (omega (arith, linear)) (λ s within cut. absurd (h.found s within cut))) }
  IsFrontBound-more (Some old) h = record { found = pick (int_lt old value) refl }
    where
      pick : (b : Bool) → int_lt old value ≡ b
          → ((s : ℕ) × (s < 2 ^ n) × (split s ≡ true) × (cond b value old ≤ℤ e s))
          × ((s : ℕ) → IsWithin n (seen + 2 ^ p) s → split s ≡ true → e s ≤ℤ cond b value old)
      pick true q = (
        at_best,
        bounded value (omega (arith, linear)) (λ s within cut. omega (arith, ints, h.found.1 s within cut, q)),
      )
      pick false q =
          (h.found.0, bounded old (omega (arith, ints, q)) (λ s within cut. h.found.1 s within cut))

-- ---- at the end of the scan

pub IsSplitMaximum-from_bound : (g : Game) (x : Allocation) (f seen : ℕ) (most : Option ℤ) (m : ℤ)
    → IsFrontBound g.players seen (is_split g f) (excess g x) most
    → ((s : ℕ) → s < 2 ^ g.players → IsWithin g.players seen s) → most ≡ Some m → IsSplitMaximum g x f m
IsSplitMaximum-from_bound g x f seen most m h every is = at_some m (rw is at h)
  where
    at_some : (m : ℤ) → IsFrontBound g.players seen (is_split g f) (excess g x) (Some m) → IsSplitMaximum g x f m
    at_some m h =
        let s = h.found.0.0 in
        let high = h.found.1 s (every s h.found.0.1) h.found.0.2 in
        let same : m ≡ excess g x s = omega (arith, linear, high, h.found.0.3) in
        ((s, (h.found.0.1, h.found.0.2), same), λ t k. h.found.1 t (every t k.0) k.1)

pub some-from_bound : (g : Game) (x : Allocation) (f seen : ℕ) (most : Option ℤ)
    → IsFrontBound g.players seen (is_split g f) (excess g x) most
    → ((s : ℕ) → s < 2 ^ g.players → IsWithin g.players seen s) → HasTwo g.players f → IsSome most
some-from_bound g x f seen None h every (i, j, lt, within, hi, hj) =
    let low : i < g.players = omega arith in
    absurd (h.found (singleton i) (every (singleton i) (pow-lt low)) (is_split-singleton g f i j lt within hi hj))
some-from_bound g x f seen (Some m) h every two = refl
