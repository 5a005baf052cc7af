-- Shares halfway between two members with other shares are a member, and their excesses come before those of one of
-- the two: each is halfway between two excesses, so below the greatest of those that differ.
use Rattle.std.proofs.Common.{◌≡◌, ◌⊎◌, ℕ, zero, suc, ◌+◌, ◌-◌, ◌^◌, ◌<◌, ◌≤◌, Bool, true, false, not, ◌&&◌, cond}
use Rattle.std.proofs.Common.{nat_eq, List, length, map, IsTrue, refl, sym, ◌∙◌, inl, inr, arith}
use Rattle.std.specs.List.{range_with_len}
use Rattle.std.proofs.lemmas.Bool.{false≢true}
use Rattle.std.proofs.lemmas.List.FromFn.{get_or-map-range_with_len, length-map-range_with_len}
use Rattle.std.proofs.Math.Nat.{pow-suc}
use Rattle.definitions.proofs.Cases.{true_or_false, same_or_other, nat_eq-other, and_right}
use Rattle.definitions.proofs.Masks.{singleton-within}
use Rattle.definitions.specs.Coalitions.{has_player, singleton, grand_coalition, proper_coalitions}
use Rattle.definitions.specs.declared.Family.{Family}
use Rattle.definitions.specs.declared.Family.TheVariants.{Imputations, Preimputations}
use Rattle.real_shares.specs.Numbers.{Numbers, IsOrderedGroup, AtMost, Less, Equal, sorted_by, ComesBeforeBy}
use Rattle.real_shares.specs.Shares.{number_of, amount_of}
use Rattle.real_shares.proofs.Orders.{decided, at_most-same, equal-same, from_less}
use Rattle.real_shares.proofs.Multiples.{chain, back, equal_path, plus-equal, plus-at_most, right, minus-at_most}
use Rattle.real_shares.proofs.Multiples.{minus-equal, minus-plus, exchanged, total_below-equal, total_below-plus}
use Rattle.real_shares.proofs.Multiples.{through}
use Rattle.real_shares.proofs.Sorted.{ComesBefore-sorted}
use Rattle.real_shares.proofs.Soundness.{SameOrLow-range, SomeAbove-range}
use Rattle.law_real_worths.specs.Games.{NumberGame, excess_in, IsEfficientIn, InFamilyIn}
use Rattle.law_real_worths.specs.Games.{excess_list_in, HaveSameIn, CanHalve}
use Rattle.law_real_worths.proofs.CoreFirst.{amount_at, efficient_in}
use Rattle.law_real_worths.proofs.BothAreOne.{amount_alone}
use Rattle.law_real_worths.proofs.Moves.{minus_minus}
use Rattle.law_real_worths.proofs.Joined.{off, greatest_among}

-- ---- a test of what differs

both_or_not : (p q : Bool) → (not (p && q) ≡ false) → IsTrue p × IsTrue q
both_or_not true true e = (refl, refl)
both_or_not true false e = absurd (false≢true (sym e))
both_or_not false q e = absurd (false≢true (sym e))

not_both_true : (p q : Bool) → not (p && q) ≡ true → IsTrue p × IsTrue q → ⊥
not_both_true true true e h = false≢true e
not_both_true true false e h = false≢true h.1
not_both_true false q e h = false≢true h.0

some_of : (s : ℕ) (c : Bool) → (not (nat_eq s 0) && c) ≡ true → 1 ≤ s
some_of zero c e = absurd (false≢true e)
some_of (suc s) c e = omega arith

test_of : (s : ℕ) (c : Bool) → (not (nat_eq s 0) && c) ≡ true → c ≡ true
test_of s c e = and_right (not (nat_eq s 0)) c e

no_test_of : (s : ℕ) (c : Bool) → 1 ≤ s → (not (nat_eq s 0) && c) ≡ false → c ≡ false
no_test_of s c one e = rest (nat_eq s 0) c (nat_eq-other s 0 (λ h. omega arith)) e
  where
    rest : (a c : Bool) → a ≡ false → (not a && c) ≡ false → c ≡ false
    rest true c h e = absurd (false≢true (sym h))
    rest false c h e = e

some_alone : (i : ℕ) → 1 ≤ singleton i
some_alone zero = omega arith
some_alone (suc i) = (let ih = some_alone i in omega (arith, ih, pow-suc 2 i))

module _ {C : Type 0} (N : Numbers C) (L : IsOrderedGroup N) where
  -- ---- numbers

  -- what is at most another where both are taken twice
  pub halves_at_most : (x t : C) → AtMost N (N.plus x x) (N.plus t t) → AtMost N x t
  halves_at_most x t le = elim (L.linear x t) [
    | inl low ↦ low
    | inr high ↦ off N L x t x (through N L le (plus-at_most N L t t t x (at_most-same N L t) high))
  ]

  pub halves_equal : (x t : C) → Equal N (N.plus x x) (N.plus t t) → Equal N x t
  halves_equal x t e = (halves_at_most x t e.0, halves_at_most t x e.1)

  -- what is halfway between two numbers that differ is below what neither is above
  halfway_below : (a b v x : C) → Equal N (N.plus x x) (N.plus a b) → AtMost N a v → AtMost N b v
      → (¬ Equal N a b) → Less N x v
  halfway_below a b v x e la lb differ le =
      let high = through N L (plus-at_most N L v x v x le le) e.0 in
      let vb = off N L v b v (through N L high
      (through N L (plus-at_most N L a v b b la (at_most-same N L b)) (L.commutes v b).0)) in
      let va = off N L v a v (through N L high (plus-at_most N L a a b v (at_most-same N L a) lb)) in
      differ (through N L la vb, through N L lb va)

  -- who has the lesser excess gets more
  pub more_of_less : (w a p : C) → AtMost N (N.plus w (N.minus a)) (N.plus w (N.minus p)) → AtMost N p a
  more_of_less w a p le =
      let less = off N L (N.minus a) (N.minus p) w
      (through N L (L.commutes (N.minus a) w).0 (through N L le (L.commutes w (N.minus p)).0)) in
      through N L (minus_minus N L p).1
      (through N L (minus-at_most N L (N.minus a) (N.minus p) less) (minus_minus N L a).0)

  -- ---- lists

  module _ (n : ℕ) (test : ℕ → Bool) (some : (s : ℕ) → test s ≡ true → 1 ≤ s) where
    abbrev b : ℕ
    b = 1 + (2 ^ n - 2)

    first_of_two : (f h m : ℕ → C) → ((s : ℕ) → Equal N (N.plus (m s) (m s)) (N.plus (f s) (h s)))
        → ((s : ℕ) → test s ≡ true → ¬ Equal N (f s) (h s))
        → ((s : ℕ) → 1 ≤ s → test s ≡ false → Equal N (f s) (h s)) → (c : ℕ) → c < b → test c ≡ true
        → ((s : ℕ) → s < b → test s ≡ true → AtMost N (f s) (f c))
        → ((s : ℕ) → s < b → test s ≡ true → AtMost N (h s) (f c))
        → ComesBeforeBy N (sorted_by N (map m (proper_coalitions n))) (sorted_by N (map f (proper_coalitions n)))
    first_of_two f h m twice differ same c lt here low_f low_h = elim (greatest_among N L test m b) [
      | inl none ↦ absurd (false≢true (sym (none c lt) ∙ here))
      | inr found ↦
          let d = found.0 in
          let below = halfway_below (f d) (h d) (f c) (m d) (twice d) (low_f d found.1 found.2)
          (low_h d found.1 found.2) (differ d found.2) in
          ComesBefore-sorted N L (m d) (map m (proper_coalitions n)) (map f (proper_coalitions n))
          (SameOrLow-range N (m d) m f 1 (2 ^ n - 2)
          (λ s one past. elim (true_or_false (test s)) [
            | inl passes ↦ inr (found.3 s past passes)
            | inr fails ↦ inl
                (halves_equal (m s) (f s)
                (chain N L (twice s) (right N L (f s) (back N L (same s one fails)))))
          ]))
          (SomeAbove-range N (m d) m f 1 (2 ^ n - 2) c (some c here) lt (found.3 c lt here) below)
    ]

    -- the numbers halfway come before the one or before the other, or both are the same
    pub halfway_first : (f h m : ℕ → C) → ((s : ℕ) → Equal N (N.plus (m s) (m s)) (N.plus (f s) (h s)))
        → ((s : ℕ) → test s ≡ true → ¬ Equal N (f s) (h s))
        → ((s : ℕ) → 1 ≤ s → test s ≡ false → Equal N (f s) (h s)) → ((s : ℕ) → s < b → test s ≡ false)
        ⊎ (ComesBeforeBy N (sorted_by N (map m (proper_coalitions n))) (sorted_by N (map f (proper_coalitions n)))
        ⊎ ComesBeforeBy N (sorted_by N (map m (proper_coalitions n))) (sorted_by N (map h (proper_coalitions n))))
    halfway_first f h m twice differ same = elim (greatest_among N L test f b) [
      | inl none ↦ inl none
      | inr one ↦ elim (greatest_among N L test h b) [
        | inl none ↦ inl none
        | inr other ↦
            let c = one.0 in
            let d = other.0 in
            elim (decided (N.at_most (h d) (f c))) [
              | inl le ↦ inr (inl
                  (first_of_two f h m twice differ same c one.1 one.2 one.3
                  (λ s lt passes. through N L (other.3 s lt passes) le)))
              | inr above ↦ inr (inr
                  (first_of_two h f m (λ s. chain N L (twice s) (L.commutes (f s) (h s)))
                  (λ s passes e. differ s passes (back N L e)) (λ s low fails. back N L (same s low fails)) d
                  other.1 other.2 other.3
                  (λ s lt passes. through N L (one.3 s lt passes) (from_less N L (f c) (h d) above))))
            ]
      ]
    ]

module _ {C : Type 0} (N : Numbers C) (L : IsOrderedGroup N) (halve : CanHalve N) (g : NumberGame C) (y z : List C)
    (long : length y ≡ g.players)
    (too : length z ≡ g.players) where
  abbrev n : ℕ
  n = g.players

  abbrev mid_number : ℕ → C
  mid_number i = (halve (N.plus (number_of N y i) (number_of N z i))).0

  abbrev pub halfway : List C
  halfway = map mid_number (range_with_len 0 n)

  halfway_long : length halfway ≡ n
  halfway_long = length-map-range_with_len mid_number 0 n

  -- the share of player i twice
  twice_number : (i : ℕ) → i < n
      → Equal N (N.plus (number_of N halfway i) (number_of N halfway i))
      (N.plus (number_of N y i) (number_of N z i))
  twice_number i lt =
      let here = equal_path N L (number_of N halfway i) (mid_number i)
      (get_or-map-range_with_len mid_number 0 n i i N.zero lt (omega arith)) in
      chain N L (plus-equal N L here here) (halve (N.plus (number_of N y i) (number_of N z i))).1

  twice_amount : (s : ℕ)
      → Equal N (N.plus (amount_of N halfway s) (amount_of N halfway s)) (N.plus (amount_of N y s) (amount_of N z s))
  twice_amount s =
      let f : ℕ → C = λ l. cond (has_player s l) (number_of N y l) N.zero in
      let h : ℕ → C = λ l. cond (has_player s l) (number_of N z l) N.zero in
      let m : ℕ → C = λ l. cond (has_player s l) (number_of N halfway l) N.zero in
      let here = amount_at N L g halfway s halfway_long in
      chain N L (plus-equal N L here here)
      (chain N L (back N L (total_below-plus N L n m m))
      (chain N L
      (total_below-equal N L n (λ l. N.plus (m l) (m l)) (λ l. N.plus (f l) (h l))
      (λ l lt. by_test (has_player s l) l lt))
      (chain N L (total_below-plus N L n f h)
      (plus-equal N L (back N L (amount_at N L g y s long)) (back N L (amount_at N L g z s too))))))
    where
      by_test : (c : Bool) (l : ℕ) → l < n
          → Equal N (N.plus (cond c (number_of N halfway l) N.zero) (cond c (number_of N halfway l) N.zero))
          (N.plus (cond c (number_of N y l) N.zero) (cond c (number_of N z l) N.zero))
      by_test true l lt = twice_number l lt
      by_test false l lt = equal-same N L (N.plus N.zero N.zero)

  pub twice_excess : (s : ℕ)
      → Equal N (N.plus (excess_in N g halfway s) (excess_in N g halfway s))
      (N.plus (excess_in N g y s) (excess_in N g z s))
  twice_excess s =
      let w = g.worth s in
      let a = amount_of N halfway s in
      let p = amount_of N y s in
      let q = amount_of N z s in
      chain N L (exchanged N L w (N.minus a) w (N.minus a))
      (chain N L
      (right N L (N.plus w w)
      (chain N L (back N L (minus-plus N L a a))
      (chain N L (minus-equal N L (twice_amount s)) (minus-plus N L p q))))
      (exchanged N L w w (N.minus p) (N.minus q)))

  -- ---- a member

  halfway_efficient : IsEfficientIn N g y → IsEfficientIn N g z → IsEfficientIn N g halfway
  halfway_efficient e f =
      let all = grand_coalition n in
      halves_equal N L (amount_of N halfway all) (g.worth all)
      (chain N L (twice_amount all) (plus-equal N L e f))

  pub halfway_member : (family : Family) → InFamilyIn N family g y → InFamilyIn N family g z
      → InFamilyIn N family g halfway
  halfway_member Preimputations h k = (halfway_long, halfway_efficient h.1 k.1)
  halfway_member Imputations h k = (
    halfway_long,
    halfway_efficient h.1 k.1,
    λ i lt.
        let w = g.worth (singleton i) in
        halves_at_most N L w (number_of N halfway i)
        (through N L
        (plus-at_most N L w (number_of N y i) w (number_of N z i) (h.2 i lt) (k.2 i lt))
        (twice_number i lt).1),
  )

  -- ---- the same excesses are the same shares

  abbrev bound : ℕ
  bound = 1 + (2 ^ n - 2)

  pub same_shares : IsEfficientIn N g y → IsEfficientIn N g z
      → ((s : ℕ) → 1 ≤ s → s < bound → Equal N (excess_in N g y s) (excess_in N g z s)) → HaveSameIn N g y z
  same_shares e f same i lt =
      chain N L (back N L (amount_alone N L g y i long lt)) (chain N L alone (amount_alone N L g z i too lt))
    where
      alone : Equal N (amount_of N y (singleton i)) (amount_of N z (singleton i))
      alone = elim (same_or_other (singleton i) (grand_coalition n)) [
        | inl all ↦ rw all (chain N L e (back N L f))
        | inr other ↦
            let within = singleton-within n i lt in
            let here = same (singleton i) (some_alone i) (omega (arith, other, within)) in
            let w = g.worth (singleton i) in
            let a = amount_of N y (singleton i) in
            let p = amount_of N z (singleton i) in
            (more_of_less N L w p a here.1, more_of_less N L w a p here.0)
      ]

  -- ---- and it comes first

  abbrev unequal : ℕ → Bool
  unequal s =
      not
      (N.at_most (excess_in N g y s) (excess_in N g z s) && N.at_most (excess_in N g z s) (excess_in N g y s))

  abbrev differs : ℕ → Bool
  differs s = not (nat_eq s 0) && unequal s

  pub comes_first : (family : Family) → InFamilyIn N family g y → InFamilyIn N family g z → (¬ HaveSameIn N g y z)
      → ComesBeforeBy N (sorted_by N (excess_list_in N g halfway)) (sorted_by N (excess_list_in N g y))
      ⊎ ComesBeforeBy N (sorted_by N (excess_list_in N g halfway)) (sorted_by N (excess_list_in N g z))
  comes_first family hy hz other =
      elim
      (halfway_first N L n differs some (excess_in N g y) (excess_in N g z) (excess_in N g halfway) twice_excess differ
      same) [
        | inl none ↦ absurd
            (other (same_shares (efficient_in N L g family y hy) (efficient_in N L g family z hz)
            (λ s one lt. same s one (none s lt))))
        | inr first ↦ first
      ]
    where
      some : (s : ℕ) → differs s ≡ true → 1 ≤ s
      some s e = some_of s (unequal s) e

      differ : (s : ℕ) → differs s ≡ true → ¬ Equal N (excess_in N g y s) (excess_in N g z s)
      differ s e h =
          not_both_true (N.at_most (excess_in N g y s) (excess_in N g z s))
          (N.at_most (excess_in N g z s) (excess_in N g y s)) (test_of s (unequal s) e) h

      same : (s : ℕ) → 1 ≤ s → differs s ≡ false → Equal N (excess_in N g y s) (excess_in N g z s)
      same s one e =
          both_or_not (N.at_most (excess_in N g y s) (excess_in N g z s))
          (N.at_most (excess_in N g z s) (excess_in N g y s)) (no_test_of s (unequal s) one e)
