-- The sets of a kind with one player more.
--
-- A split bound has four layers of best sets: those that have to hold some seen free player or not, and to lack one or
-- not. With one free player more, a set with it has to hold no other, and one without it has to lack no other. So each
-- of the four follows from two of the four (`IsOfKind-cases`).
use Rattle.std.proofs.Common.{◌≡◌, ◌≢◌, ◌⊎◌, ℕ, ◌+◌, ◌^◌, ◌<◌, Bool, true, false}
use Rattle.std.proofs.Common.{not, ◌&&◌, ◌||◌}
use Rattle.std.proofs.Common.{ℤ, pos, ◌+ℤ◌, ◌≤ℤ◌, refl, sym, ap, ◌∙◌, inl}
use Rattle.std.proofs.Common.{inr, arith, add-one}
use Rattle.definitions.proofs.Ring.{linear}
use Rattle.definitions.proofs.Splits.{some_below-same}
use Rattle.definitions.proofs.Halves.{has_player-last}
use Rattle.definitions.proofs.Parts.{has_player-more_same, has_player-more_other, sum_over-more}
use Rattle.definitions.specs.Coalitions.{has_player, sum_over}
use Rattle.definitions.proofs.Masks.{low_or_high, masks-double}
use Rattle.voting.specs.SetKinds.{passes, holds_one_of, lacks_one_of, IsOfKind}

-- ---- what a set holds and lacks

below_other : (i j : ℕ) → j < i → j ≢ i
below_other i j lt e = omega arith

-- without the new player
holds-without : (f i s : ℕ) → s < 2 ^ i → holds_one_of f (i + 1) s ≡ holds_one_of f i s
holds-without f i s lt = rw (add-one i, has_player-last i s lt) (law (has_player f i) (holds_one_of f i s))
  where
    law : (b h : Bool) → ((b && false) || h) ≡ h
    law = elim [ true ↦ λ h. refl | false ↦ λ h. refl ]

lacks-without : (f i s : ℕ) → s < 2 ^ i → lacks_one_of f (i + 1) s ≡ (has_player f i || lacks_one_of f i s)
lacks-without f i s lt = rw (add-one i, has_player-last i s lt) (law (has_player f i) (lacks_one_of f i s))
  where
    law : (b h : Bool) → ((b && not false) || h) ≡ (b || h)
    law = elim [ true ↦ λ h. refl | false ↦ λ h. refl ]

-- with the new player
holds-with : (f i s : ℕ) → s < 2 ^ i → holds_one_of f (i + 1) (s + 2 ^ i) ≡ (has_player f i || holds_one_of f i s)
holds-with f i s lt =
    rw (
      add-one i,
      has_player-more_same s i (has_player-last i s lt),
      some_below-same i (λ j. has_player f j && has_player (s + 2 ^ i) j) (λ j. has_player f j && has_player s j)
          (λ j k. ap (λ (b : Bool). has_player f j && b)
          (has_player-more_other s i j (has_player-last i s lt) (below_other i j k))),
    )
    (law (has_player f i) (holds_one_of f i s))
  where
    law : (b h : Bool) → ((b && true) || h) ≡ (b || h)
    law = elim [ true ↦ λ h. refl | false ↦ λ h. refl ]

lacks-with : (f i s : ℕ) → s < 2 ^ i → lacks_one_of f (i + 1) (s + 2 ^ i) ≡ lacks_one_of f i s
lacks-with f i s lt =
    rw (
      add-one i,
      has_player-more_same s i (has_player-last i s lt),
      some_below-same i (λ j. has_player f j && not (has_player (s + 2 ^ i) j))
          (λ j. has_player f j && not (has_player s j))
          (λ j k. ap (λ (b : Bool). has_player f j && not b)
          (has_player-more_other s i j (has_player-last i s lt) (below_other i j k))),
    )
    (law (has_player f i) (lacks_one_of f i s))
  where
    law : (b h : Bool) → ((b && not true) || h) ≡ h
    law = elim [ true ↦ λ h. refl | false ↦ λ h. refl ]

-- what a player of f gives is needed no more
needed-less : (needed b answer : Bool) → passes needed (b || answer) ≡ passes (needed && not b) answer
needed-less = elim [
  | true ↦ elim [ true ↦ λ answer. refl | false ↦ λ answer. refl ]
  | false ↦ λ b answer. refl
]

-- ---- kinds

pub IsOfKind-without : (h l : Bool) (f i s : ℕ) → IsOfKind h (l && not (has_player f i)) f i s
    → IsOfKind h l f (i + 1) s
IsOfKind-without h l f i s k =
    let p = masks-double i in (
      omega arith,
      ap (passes h) (holds-without f i s k.0) ∙ k.1,
      ap (passes l) (lacks-without f i s k.0) ∙ needed-less l (has_player f i) (lacks_one_of f i s) ∙ k.2,
    )

pub IsOfKind-with : (h l : Bool) (f i s : ℕ) → IsOfKind (h && not (has_player f i)) l f i s
    → IsOfKind h l f (i + 1) (s + 2 ^ i)
IsOfKind-with h l f i s k =
    let p = masks-double i in (
      omega arith,
      ap (passes h) (holds-with f i s k.0) ∙ needed-less h (has_player f i) (holds_one_of f i s) ∙ k.1,
      ap (passes l) (lacks-with f i s k.0) ∙ k.2,
    )

pub IsOfKind-cases : (h l : Bool) (f i s : ℕ) → IsOfKind h l f (i + 1) s
    → IsOfKind h (l && not (has_player f i)) f i s
    ⊎ ((t : ℕ) × IsOfKind (h && not (has_player f i)) l f i t × (s ≡ t + 2 ^ i))
IsOfKind-cases h l f i s k = elim (low_or_high i s k.0) [
  | inl low ↦ inl (
    low,
    sym (ap (passes h) (holds-without f i s low)) ∙ k.1,
    sym (ap (passes l) (lacks-without f i s low) ∙ needed-less l (has_player f i) (lacks_one_of f i s)) ∙ k.2,
  )
  | inr (t, low, e) ↦
      let here : IsOfKind h l f (i + 1) (t + 2 ^ i) = rw e at k in
      inr (
        t,
        (
          low,
          sym (ap (passes h) (holds-with f i t low) ∙ needed-less h (has_player f i) (holds_one_of f i t))
              ∙ here.1,
          sym (ap (passes l) (lacks-with f i t low)) ∙ here.2,
        ),
        e,
      )
]

-- ---- weights

pub natural-nonnegative : (k : ℕ) → pos 0 ≤ℤ pos k
natural-nonnegative k = omega (arith, linear)

pub sum_over-last : (n i t : ℕ) (a : ℕ → ℤ) → i < n → t < 2 ^ i → sum_over n a (t + 2 ^ i) ≡ sum_over n a t +ℤ a i
sum_over-last n i t a lt low = sum_over-more n t i a lt (has_player-last i t low)
