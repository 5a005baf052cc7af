-- The sets of the seen players of a kind, with one more player seen.
use Rattle.std.proofs.Common.{◌≡◌, ◌≢◌, ◌⊎◌, ℕ, zero, suc, ◌+◌, ◌-◌, ◌*◌, ◌/◌}
use Rattle.std.proofs.Common.{◌%◌, ◌^◌, ◌<◌, Bool, true, false}
use Rattle.std.proofs.Common.{not, ◌&&◌, ◌||◌, IsTrue, refl, sym, ap, subst, ◌∙◌, inl}
use Rattle.std.proofs.Common.{inr, arith}
use Rattle.std.proofs.lemmas.Bool.{false≢true}
use Rattle.std.proofs.lemmas.Nat.Bits.{bit_at-suc, bit_at_lowest}
use Rattle.std.proofs.Math.Nat.{pow-suc, mul_comm}
use Rattle.std.specs.Int.{bit_at}
use Rattle.definitions.proofs.Parts.{has_player-more_same, has_player-more_other, more-lt}
use Rattle.definitions.specs.Coalitions.{has_player, some_below}
use Rattle.worth_core.specs.SplitKinds.{holds_some, lacks_some, IsSeenSet}
use Rattle.definitions.proofs.Cases.{or_false, less_or_last, same_or_other, from_nat_eq, nat_eq-other}
use Rattle.definitions.proofs.Splits.{some_below-same}

-- ---- a set with a player is a set without it, and that player

bit_less : (s j : ℕ) → bit_at s j ≡ 1 → (t : ℕ) × (s ≡ t + 2 ^ j) × (bit_at t j ≡ 0)
bit_less s zero h = (s - 1, omega (arith, bit_at_lowest s), omega (arith, bit_at_lowest s, bit_at_lowest (s - 1)))
bit_less s (suc j) h =
    let ih = bit_less (s / 2) j (sym (bit_at-suc s j) ∙ h) in
    rest ih.0 ih.1 ih.2
  where
    rest : (t : ℕ) → s / 2 ≡ t + 2 ^ j → bit_at t j ≡ 0 → (t : ℕ) × (s ≡ t + 2 ^ suc j) × (bit_at t (suc j) ≡ 0)
    rest t e z =
        let p : 2 ^ suc j ≡ 2 * 2 ^ j = pow-suc 2 j ∙ mul_comm (2 ^ j) 2 in
        let half : (2 * t + s % 2) / 2 ≡ t = omega arith in
        (2 * t + s % 2, omega arith, bit_at-suc (2 * t + s % 2) j ∙ ap (λ (m : ℕ). bit_at m j) half ∙ z)

has_player-less : (s j : ℕ) → has_player s j ≡ true → (t : ℕ) × (s ≡ t + 2 ^ j) × (has_player t j ≡ false)
has_player-less s j h =
    let l = bit_less s j (from_nat_eq (bit_at s j) 1 h) in
    (l.0, l.1, nat_eq-other (bit_at l.0 j) 1 (λ e. omega (arith, l.2)))

-- ---- whether some number passes a test

or_last : (x s b : Bool) → ((x || b) || s) ≡ ((x || s) || b)
or_last = elim [
  | true ↦ λ s b. refl
  | false ↦ elim [ true ↦ elim [ true ↦ refl | false ↦ refl ] | false ↦ elim [ true ↦ refl | false ↦ refl ] ]
]

or_inner : (x s b : Bool) → (x || (s || b)) ≡ ((x || s) || b)
or_inner = elim [ true ↦ λ s b. refl | false ↦ λ s b. refl ]

-- where the tests differ at i alone
some_below-more : (n i : ℕ) (p q : ℕ → Bool) (b : Bool) → i < n → ((j : ℕ) → j ≢ i → q j ≡ p j) → q i ≡ (p i || b)
    → some_below n q ≡ (some_below n p || b)
some_below-more zero i p q b lt h here = absurd (omega arith)
some_below-more (suc n) i p q b lt h here = elim (less_or_last i n lt) [
  | inl less ↦
      let ih = some_below-more n i p q b less h here in
      let top : q n ≡ p n = h n (λ e. omega arith) in
      let law = or_inner (p n) (some_below n p) b in
      cc
  | inr same ↦
      let low = some_below-same n q p (λ j k. h j (λ e. omega arith)) in
      let top : q n ≡ (p n || b) = subst (λ (k : ℕ). q k ≡ (p k || b)) same here in
      let law = or_last (p n) (some_below n p) b in
      cc
]

holds_some-more : (n f s i : ℕ) → i < n → has_player s i ≡ false
    → holds_some n f (s + 2 ^ i) ≡ (holds_some n f s || has_player f i)
holds_some-more n f s i lt lacks =
    some_below-more n i (λ j. has_player f j && has_player s j) (λ j. has_player f j && has_player (s + 2 ^ i) j)
    (has_player f i) lt
    (λ j ne. ap (λ (b : Bool). has_player f j && b) (has_player-more_other s i j lacks ne))
    (rw (has_player-more_same s i lacks, lacks) (law (has_player f i)))
  where
    law : (b : Bool) → (b && true) ≡ ((b && false) || b)
    law = elim [ true ↦ refl | false ↦ refl ]

-- the set goes without the new player
lacks_some-without : (n f seen s i : ℕ) → i < n → has_player seen i ≡ false → has_player s i ≡ false
    → lacks_some n f (seen + 2 ^ i) s ≡ (lacks_some n f seen s || has_player f i)
lacks_some-without n f seen s i lt new lacks =
    some_below-more n i (λ j. (has_player f j && has_player seen j) && not (has_player s j))
    (λ j. (has_player f j && has_player (seen + 2 ^ i) j) && not (has_player s j)) (has_player f i) lt
    (λ j ne. ap (λ (b : Bool). (has_player f j && b) && not (has_player s j))
    (has_player-more_other seen i j new ne))
    (rw (has_player-more_same seen i new, new, lacks) (law (has_player f i)))
  where
    law : (b : Bool) → ((b && true) && not false) ≡ (((b && false) && not false) || b)
    law = elim [ true ↦ refl | false ↦ refl ]

-- the set has it
lacks_some-with : (n f seen s i : ℕ) → i < n → has_player seen i ≡ false → has_player s i ≡ false
    → lacks_some n f (seen + 2 ^ i) (s + 2 ^ i) ≡ lacks_some n f seen s
lacks_some-with n f seen s i lt new lacks =
    some_below-more n i (λ j. (has_player f j && has_player seen j) && not (has_player s j))
    (λ j. (has_player f j && has_player (seen + 2 ^ i) j) && not (has_player (s + 2 ^ i) j)) false lt
    (λ j ne. rw (has_player-more_other seen i j new ne, has_player-more_other s i j lacks ne) refl)
    (rw (has_player-more_same seen i new, new, lacks, has_player-more_same s i lacks) (law (has_player f i)))
    ∙ or_false (lacks_some n f seen s)
  where
    law : (b : Bool) → ((b && true) && not true) ≡ (((b && false) && not false) || false)
    law = elim [ true ↦ refl | false ↦ refl ]

-- ---- sets of seen players

seen_before : (n : ℕ) (seen s i : ℕ) → has_player seen i ≡ false
    → ((j : ℕ) → has_player s j ≡ true → has_player seen j ≡ true) → has_player s i ≡ false
seen_before n seen s i new within = decide (has_player s i) refl
  where
    decide : (b : Bool) → has_player s i ≡ b → has_player s i ≡ false
    decide true h = absurd (false≢true (sym new ∙ within i h))
    decide false h = h

still_seen : (seen i j : ℕ) → has_player seen i ≡ false → has_player seen j ≡ true
    → has_player (seen + 2 ^ i) j ≡ true
still_seen seen i j new h = elim (same_or_other j i) [
  | inl same ↦ absurd (false≢true (sym new ∙ ap (has_player seen) (sym same) ∙ h))
  | inr other ↦ has_player-more_other seen i j new other ∙ h
]

pub IsSeenSet-without : (n f seen i : ℕ) (test : Bool → Bool → Bool) (s : ℕ) → i < n → has_player seen i ≡ false
    → IsSeenSet n f seen (λ h l. test h (l || has_player f i)) s → IsSeenSet n f (seen + 2 ^ i) test s
IsSeenSet-without n f seen i test s lt new (small, within, passes) = (
  small,
  λ j h. still_seen seen i j new (within j h),
  rw (lacks_some-without n f seen s i lt new (seen_before n seen s i new within)) passes,
)

-- a set of seen players lacks a player that isn't
pub IsSeenSet-lacks : (n f seen i : ℕ) (test : Bool → Bool → Bool) (s : ℕ) → has_player seen i ≡ false
    → IsSeenSet n f seen test s → has_player s i ≡ false
IsSeenSet-lacks n f seen i test s new k = seen_before n seen s i new k.1

with_seen : (seen s i j : ℕ) → has_player seen i ≡ false → has_player s i ≡ false
    → ((k : ℕ) → has_player s k ≡ true → has_player seen k ≡ true) → has_player (s + 2 ^ i) j ≡ true
    → has_player (seen + 2 ^ i) j ≡ true
with_seen seen s i j new lacks within h = elim (same_or_other j i) [
  | inl same ↦ rw same (has_player-more_same seen i new)
  | inr other ↦ has_player-more_other seen i j new other
      ∙ within j (sym (has_player-more_other s i j lacks other) ∙ h)
]

pub IsSeenSet-with : (n f seen i : ℕ) (test : Bool → Bool → Bool) (s : ℕ) → i < n → has_player seen i ≡ false
    → IsSeenSet n f seen (λ h l. test (h || has_player f i) l) s → IsSeenSet n f (seen + 2 ^ i) test (s + 2 ^ i)
IsSeenSet-with n f seen i test s lt new (small, within, passes) =
    let lacks = seen_before n seen s i new within in (
      more-lt n s i small lt lacks,
      λ j h. with_seen seen s i j new lacks within h,
      rw (holds_some-more n f s i lt lacks, lacks_some-with n f seen s i lt new lacks) passes,
    )

-- a set of the players seen now was there before, or is one that was, with the new player
pub IsSeenSet-cases : (n f seen i : ℕ) (test : Bool → Bool → Bool) (s : ℕ) → i < n → has_player seen i ≡ false
    → IsSeenSet n f (seen + 2 ^ i) test s
    → IsSeenSet n f seen (λ h l. test h (l || has_player f i)) s
    ⊎ ((t : ℕ) × IsSeenSet n f seen (λ h l. test (h || has_player f i) l) t × (s ≡ t + 2 ^ i))
IsSeenSet-cases n f seen i test s lt new (small, within, passes) = decide (has_player s i) refl
  where
    old : (t : ℕ) → has_player t i ≡ false → ((j : ℕ) → has_player t j ≡ true → has_player s j ≡ true) → (j : ℕ)
        → has_player t j ≡ true → has_player seen j ≡ true
    old t lacks part j h = elim (same_or_other j i) [
      | inl same ↦ absurd (false≢true (sym lacks ∙ ap (has_player t) (sym same) ∙ h))
      | inr other ↦ sym (has_player-more_other seen i j new other) ∙ within j (part j h)
    ]

    without : has_player s i ≡ false → IsSeenSet n f seen (λ h l. test h (l || has_player f i)) s
    without lacks = (small, old s lacks (λ j h. h), rw (lacks_some-without n f seen s i lt new lacks) at passes)

    with_it : (t : ℕ) → s ≡ t + 2 ^ i → has_player t i ≡ false
        → IsSeenSet n f seen (λ h l. test (h || has_player f i) l) t
    with_it t e lacks =
        let part : (j : ℕ) → has_player t j ≡ true → has_player s j ≡ true =
        λ j h. ap (λ (m : ℕ). has_player m j) e ∙ still_seen t i j lacks h in
        let here : IsTrue (test (holds_some n f (t + 2 ^ i)) (lacks_some n f (seen + 2 ^ i) (t + 2 ^ i))) =
        subst (λ (m : ℕ). IsTrue (test (holds_some n f m) (lacks_some n f (seen + 2 ^ i) m))) e passes in (
          omega arith,
          old t lacks part,
          rw (holds_some-more n f t i lt lacks, lacks_some-with n f seen t i lt new lacks) at here,
        )

    decide : (b : Bool) → has_player s i ≡ b
        → IsSeenSet n f seen (λ h l. test h (l || has_player f i)) s
        ⊎ ((t : ℕ) × IsSeenSet n f seen (λ h l. test (h || has_player f i) l) t × (s ≡ t + 2 ^ i))
    decide false lacks = inl (without lacks)
    decide true has = let l = has_player-less s i has in inr (l.0, with_it l.0 l.1 l.2, l.1)
