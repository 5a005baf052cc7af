-- Coalitions of renumbered players: which players they were, that they are as many, and their places in the list of
-- the proper coalitions.
use Rattle.std.proofs.Common.{◌≡◌, ℕ, zero, suc, ◌+◌, ◌-◌, ◌^◌, ◌<◌, ◌≤◌, Bool, cond, length, ℤ, pos, ◌+ℤ◌, refl, sym}
use Rattle.std.proofs.Common.{ap, ◌∙◌, inl, inr, arith, if◌then◌else◌}
use Rattle.std.proofs.Math.Nat.{pow-suc}
use Rattle.definitions.proofs.Ring.{linear}
use Rattle.definitions.proofs.Members.{has_player-empty, has_player-singleton, has_player-singleton_other}
use Rattle.definitions.proofs.Members.{has_player-grand_coalition, sum_below-same, members-zero}
use Rattle.definitions.proofs.Parts.{has_player-more_same, has_player-more_other, same_coalition, has_player-past}
use Rattle.definitions.proofs.Masks.{grand_coalition-within, singleton-within}
use Rattle.definitions.proofs.Sizes.{size-at, length-more_yes, length-more_no}
use Rattle.definitions.proofs.Cases.{less_or_last, below_or_above, same_or_other}
use Rattle.definitions.specs.Coalitions.{has_player, singleton, grand_coalition, sum_over, members, size}
use Rattle.law_answers.specs.Renumbering.{IsRenumbering, coalition_where, renumbered_coalition}
use Rattle.law_answers.proofs.Gathered.{sum_below-renumbered}

-- ---- the coalition of the players that pass a test

pub coalition_where-within : (n : ℕ) (test : ℕ → Bool) → coalition_where n test < 2 ^ n
coalition_where-within zero test = omega arith
coalition_where-within (suc n) test = next_within (test n) (coalition_where-within n test)
  where
    next_within : (b : Bool) → coalition_where n test < 2 ^ n
        → cond b (coalition_where n test + 2 ^ n) (coalition_where n test) < 2 ^ suc n
    next_within b lt = grind (arith, pow-suc)

pub coalition_where-has : (n : ℕ) (test : ℕ → Bool) (i : ℕ) → i < n → has_player (coalition_where n test) i ≡ test i
coalition_where-has zero test i lt = absurd (omega arith)
coalition_where-has (suc n) test i lt =
    next_has (test n) refl (λ less. coalition_where-has n test i less) (coalition_where-within n test)
  where
    next_has : (b : Bool) → test n ≡ b → (i < n → has_player (coalition_where n test) i ≡ test i)
        → coalition_where n test < 2 ^ n
        → has_player (cond b (coalition_where n test + 2 ^ n) (coalition_where n test)) i ≡ test i
    next_has b e ih within = grind (arith, has_player-more_other, has_player-more_same, has_player-past, less_or_last)

-- coalitions of n players with the same players below n are the same
pub same_below : (n s t : ℕ) → s < 2 ^ n → t < 2 ^ n → ((i : ℕ) → i < n → has_player s i ≡ has_player t i) → s ≡ t
same_below n s t hs ht each =
    same_coalition s t (λ i. elim (below_or_above i n) [
      | inl less ↦ each i less
      | inr above ↦ has_player-past n s i hs above ∙ sym (has_player-past n t i ht above)
    ])

-- ---- coalitions there and back

-- the way back is a renumbering too
pub reverse_of : (n : ℕ) (to back : ℕ → ℕ) → IsRenumbering n to back → IsRenumbering n back to
reverse_of n to back r =
    record { to_within = r.back_within; back_within = r.to_within; back_to = r.to_back; to_back = r.back_to }

module _ (n : ℕ) (to back : ℕ → ℕ) (r : IsRenumbering n to back) where
  -- the coalition that s was
  abbrev was : ℕ → ℕ
  was s = renumbered_coalition n back s

  was_within : (s : ℕ) → was s < 2 ^ n
  was_within s = coalition_where-within n (λ i. has_player s (back i))

  was_has : (s i : ℕ) → i < n → has_player (was s) i ≡ has_player s (back i)
  was_has s i lt = coalition_where-has n (λ i. has_player s (back i)) i lt

  was_has_to : (s i : ℕ) → i < n → has_player (was s) (to i) ≡ has_player s i
  was_has_to s i lt = was_has s (to i) (r.to_within i lt) ∙ ap (has_player s) (r.back_to i lt)

  pub was_grand : was (grand_coalition n) ≡ grand_coalition n
  was_grand =
      same_below n (was (grand_coalition n)) (grand_coalition n) (was_within (grand_coalition n))
      (grand_coalition-within n)
      (λ i lt. was_has (grand_coalition n) i lt ∙ has_player-grand_coalition n (back i) (r.back_within i lt)
      ∙ sym (has_player-grand_coalition n i lt))

  pub was_singleton : (k : ℕ) → k < n → was (singleton k) ≡ singleton (to k)
  was_singleton k lt =
      same_below n (was (singleton k)) (singleton (to k)) (was_within (singleton k))
      (singleton-within n (to k) (r.to_within k lt))
      (λ i h. was_has (singleton k) i h ∙ elim (same_or_other i (to k)) [
        | inl same ↦
            ap (has_player (singleton k)) (ap back same ∙ r.back_to k lt) ∙ has_player-singleton k
            ∙ sym (ap (has_player (singleton (to k))) same ∙ has_player-singleton (to k))
        | inr other ↦
            has_player-singleton_other k (back i) (λ e. other (sym (r.to_back i h) ∙ ap to e))
            ∙ sym (has_player-singleton_other (to k) i other)
      ])

  -- only the coalition of nobody was that of nobody, and only that of all that of all
  pub was_some : (s : ℕ) → s < 2 ^ n → 0 < s → 0 < was s
  was_some s within some = elim (same_or_other (was s) 0) [
    | inr other ↦ omega (arith, other)
    | inl none ↦ absurd
        (let empty : s ≡ 0 = same_below n s 0 within (omega arith) (λ i lt. sym (was_has_to s i lt)
        ∙ ap (λ t. has_player t (to i)) none ∙ has_player-empty (to i) ∙ sym (has_player-empty i)) in
        omega (arith, some, empty))
  ]

  was_not_all : (s : ℕ) → s < grand_coalition n → was s < grand_coalition n
  was_not_all s less = elim (same_or_other (was s) (grand_coalition n)) [
    | inr other ↦ (let lt = was_within s in omega (arith, other, lt))
    | inl all ↦ absurd
        (let whole : s ≡ grand_coalition n =
        same_below n s (grand_coalition n) (omega (arith, less)) (grand_coalition-within n)
        (λ i lt. sym (was_has_to s i lt) ∙ ap (λ t. has_player t (to i)) all
        ∙ has_player-grand_coalition n (to i) (r.to_within i lt) ∙ sym (has_player-grand_coalition n i lt)) in
        omega (arith, less, whole))
  ]

  -- the members' numbers add to the same
  pub sum_over-was : (a : ℕ → ℤ) (s : ℕ) → sum_over n (λ i. a (to i)) s ≡ sum_over n a (was s)
  sum_over-was a s =
      sum_below-same n (λ i. if has_player s i then a (to i) else pos 0)
      (λ i. if has_player (was s) (to i) then a (to i) else pos 0)
      (λ i lt. ap (λ (b : Bool). cond b (a (to i)) (pos 0)) (sym (was_has_to s i lt)))
      ∙ sum_below-renumbered n to back (λ i. if has_player (was s) i then a i else pos 0) r

  -- and there are as many members
  pub size-was : (s : ℕ) → n ≤ 64 → s < 2 ^ n → size s ≡ size (was s)
  size-was s few within =
      let same : length (members n s) ≡ length (members n (was s)) =
      omega (arith, linear, sum_over-was (λ i. pos 1) s, counted_of n s, counted_of n (was s)) in
      size-at n s few within ∙ same ∙ sym (size-at n (was s) few (was_within s))
    where
      counted_of : (k s : ℕ) → pos (length (members k s)) ≡ sum_over k (λ i. pos 1) s
      counted_of zero s = ap (λ l. pos (length l)) (members-zero s)
      counted_of (suc k) s = next_counted (has_player s k) refl (counted_of k s)
        where
          next : k + 1 ≡ suc k
          next = omega arith

          next_counted : (b : Bool) → has_player s k ≡ b → pos (length (members k s)) ≡ sum_over k (λ i. pos 1) s
              → pos (length (members (suc k) s)) ≡ sum_over k (λ i. pos 1) s +ℤ cond b (pos 1) (pos 0)
          next_counted b e ih = grind (arith, linear, length-more_no, length-more_yes, next)

-- coalitions there and back
pub was_back : (n : ℕ) (to back : ℕ → ℕ) → IsRenumbering n to back → (s : ℕ) → s < 2 ^ n
    → renumbered_coalition n to (renumbered_coalition n back s) ≡ s
was_back n to back r s within =
    same_below n (renumbered_coalition n to (renumbered_coalition n back s)) s
    (coalition_where-within n (λ i. has_player (renumbered_coalition n back s) (to i))) within
    (λ i lt. coalition_where-has n (λ i. has_player (renumbered_coalition n back s) (to i)) i lt
    ∙ was_has_to n to back r s i lt)

-- the proper coalitions by their places
pub places : (n : ℕ) (to back : ℕ → ℕ) → IsRenumbering n to back
    → IsRenumbering (2 ^ n - 2) (λ t. renumbered_coalition n back (1 + t) - 1)
    (λ t. renumbered_coalition n to (1 + t) - 1)
places n to back r =
    let q = reverse_of n to back r in
    record {
      to_within = λ t lt. within n to back r t lt;
      back_within = λ t lt. within n back to q t lt;
      back_to = λ t lt. round n to back r t lt;
      to_back = λ t lt. round n back to q t lt;
    }
  where
    within : (n : ℕ) (to back : ℕ → ℕ) → IsRenumbering n to back → (t : ℕ) → t < 2 ^ n - 2
        → renumbered_coalition n back (1 + t) - 1 < 2 ^ n - 2
    within n to back r t lt =
        let some = was_some n to back r (1 + t) (omega (arith, lt)) (omega arith) in
        omega (arith, some, was_not_all n to back r (1 + t) (omega (arith, lt)))

    round : (n : ℕ) (to back : ℕ → ℕ) → IsRenumbering n to back → (t : ℕ) → t < 2 ^ n - 2
        → renumbered_coalition n to (1 + (renumbered_coalition n back (1 + t) - 1)) - 1 ≡ t
    round n to back r t lt =
        let whole : 1 + (renumbered_coalition n back (1 + t) - 1) ≡ renumbered_coalition n back (1 + t) =
        omega (arith, was_some n to back r (1 + t) (omega (arith, lt)) (omega arith)) in
        omega (arith, ap (renumbered_coalition n to) whole ∙ was_back n to back r (1 + t) (omega (arith, lt)))
