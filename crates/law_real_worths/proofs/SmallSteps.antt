-- A number above zero that is as small as needed; and shares moved by multiples of it.
use Rattle.std.proofs.Common.{◌≡◌, ℕ, zero, suc, ◌+◌, ◌<◌, Bool, true, false, cond}
use Rattle.std.proofs.Common.{List, length, map, ℤ, pos}
use Rattle.std.proofs.Common.{◌+ℤ◌, ◌-ℤ◌, ◌≤ℤ◌, unsigned_abs, sym, ap, ◌∙◌, inl, inr, arith}
use Rattle.std.specs.List.{range_with_len}
use Rattle.std.proofs.lemmas.Bool.{false≢true}
use Rattle.std.proofs.lemmas.Int.{ints}
use Rattle.std.proofs.lemmas.List.FromFn.{get_or-map-range_with_len, length-map-range_with_len}
use Rattle.definitions.proofs.Ring.{linear}
use Rattle.definitions.proofs.Cases.{less_or_last, true_or_false}
use Rattle.definitions.specs.Coalitions.{has_player, sum_over}
use Rattle.real_shares.specs.Numbers.{Numbers, IsOrderedGroup, AtMost, Less, Equal, times, total_below}
use Rattle.real_shares.specs.Shares.{number_of, amount_of}
use Rattle.real_shares.proofs.Orders.{at_most-same, equal-same, from_less}
use Rattle.real_shares.proofs.Multiples.{chain, back, equal_path, plus-equal, left}
use Rattle.real_shares.proofs.Multiples.{right, minus-equal, plus-at_most}
use Rattle.real_shares.proofs.Multiples.{times-zero, times-keeps, times-add, total_below-plus, total_below-equal}
use Rattle.real_shares.proofs.Multiples.{through}
use Rattle.law_answers.proofs.Numbers.{pos-unsigned_abs}
use Rattle.law_real_worths.specs.Games.{NumberGame, excess_in, CanHalve}
use Rattle.law_real_worths.proofs.CoreFirst.{amount_at}
use Rattle.law_real_worths.proofs.Moves.{less_more}
use Rattle.law_real_worths.proofs.Joined.{no_less_with}

module _ {C : Type 0} (N : Numbers C) (L : IsOrderedGroup N) where
  -- the lesser of two numbers above zero
  lesser : (a b : C) → Less N N.zero a → Less N N.zero b
      → (d : C) × Less N N.zero d × AtMost N d a × AtMost N d b
  lesser a b some more = elim (L.linear a b) [
    | inl le ↦ (a, some, at_most-same N L a, le)
    | inr ge ↦ (b, more, ge, at_most-same N L b)
  ]

  -- multiples of what isn't below zero
  multiple_low : (k : ℕ) (d : C) → AtMost N N.zero d → AtMost N N.zero (times N (pos k) d)
  multiple_low k d low =
      through N L (times-zero N L (pos k)).1 (times-keeps N L (pos k) N.zero d (omega (arith, linear)) low)

  pub times_more : (u v : ℤ) (d : C) → AtMost N N.zero d → u ≤ℤ v → AtMost N (times N u d) (times N v d)
  times_more u v d low le =
      let k = unsigned_abs (v -ℤ u) in
      let whole : u +ℤ pos k ≡ v =
      omega (arith, linear, pos-unsigned_abs (v -ℤ u) (omega (arith, linear, le))) in
      through N L (no_less_with N L (times N u d) (times N (pos k) d) (multiple_low k d low))
      (chain N L (back N L (times-add N L u (pos k) d))
      (equal_path N L (times N (u +ℤ pos k) d) (times N v d) (ap (λ z. times N z d) whole))).0

  module _ (halve : CanHalve N) where
    half_some : (c : C) → Less N N.zero c → Less N N.zero (halve c).0
    half_some c some le =
        some (through N L (halve c).1.1
        (through N L (plus-at_most N L (halve c).0 N.zero (halve c).0 N.zero le le) (L.neutral N.zero).0))

    -- some number k times at most c
    small : (k : ℕ) (c : C) → Less N N.zero c → (d : C) × Less N N.zero d × AtMost N (times N (pos k) d) c
    small zero c some = (c, some, from_less N L N.zero c some)
    small (suc k) c some =
        let h = (halve c).0 in
        let first = small k h (half_some c some) in
        let low = lesser first.0 h first.1 (half_some c some) in (
          low.0,
          low.1,
          through N L (plus-at_most N L (times N (pos k) low.0) h low.0 h
              (through N L (times-keeps N L (pos k) low.0 first.0 (omega (arith, linear)) low.2) first.2) low.3)
              (halve c).1.0,
        )

    -- and at most each of the numbers that pass
    pub small_below : (k : ℕ) (test : ℕ → Bool) (f : ℕ → C) (b : ℕ)
        → ((s : ℕ) → s < b → test s ≡ true → Less N N.zero (f s))
        → (d : C) × Less N N.zero d × ((s : ℕ) → s < b → test s ≡ true → AtMost N (times N (pos k) d) (f s))
    small_below k test f zero each = (N.unit, L.positive, λ s lt h. absurd (omega arith))
    small_below k test f (suc b) each =
        let before = small_below k test f b (λ s lt h. each s (omega arith) h) in
        elim (true_or_false (test b)) [
          | inr fails ↦ (
            before.0,
            before.1,
            λ s lt h. elim (less_or_last s b lt) [
              | inl less ↦ before.2 s less h
              | inr last ↦ absurd (false≢true (sym fails ∙ ap test (sym last) ∙ h))
            ],
          )
          | inl passes ↦
              let here = small k (f b) (each b (omega arith) passes) in
              let low = lesser before.0 here.0 before.1 here.1 in (
                low.0,
                low.1,
                λ s lt h. elim (less_or_last s b lt) [
                  | inl less ↦
                      through N L (times-keeps N L (pos k) low.0 before.0 (omega (arith, linear)) low.2)
                      (before.2 s less h)
                  | inr last ↦
                      through N L
                      (through N L (times-keeps N L (pos k) low.0 here.0 (omega (arith, linear)) low.3) here.2)
                      (equal_path N L (f b) (f s) (ap f (sym last))).0
                ],
              )
        ]

-- ---- whole numbers

-- the sizes of the first m numbers, added
abbrev pub size_of : (ℕ → ℤ) → ℕ → ℕ
size_of w zero = 0
size_of w (suc m) = size_of w m + unsigned_abs (w m)

pub sum_above : (w : ℕ → ℤ) (s m : ℕ) → (pos 0 -ℤ pos (size_of w m)) ≤ℤ sum_over m w s
sum_above w s zero = omega (arith, linear)
sum_above w s (suc m) = next (has_player s m) (sum_over m w s) (w m) (size_of w m) (sum_above w s m)
  where
    next : (b : Bool) (u z : ℤ) (k : ℕ) → (pos 0 -ℤ pos k) ≤ℤ u
        → (pos 0 -ℤ pos (k + unsigned_abs z)) ≤ℤ (u +ℤ cond b z (pos 0))
    next true u z k h = omega (arith, ints)
    next false u z k h = omega (arith, ints)

-- ---- shares moved by multiples

module _ {C : Type 0} (N : Numbers C) (L : IsOrderedGroup N) (g : NumberGame C) (y : List C)
    (long : length y ≡ g.players)
    (w : ℕ → ℤ) (d : C) where
  abbrev n : ℕ
  n = g.players

  abbrev stepped_number : ℕ → C
  stepped_number l = N.plus (number_of N y l) (times N (w l) d)

  abbrev pub stepped : List C
  stepped = map stepped_number (range_with_len 0 n)

  pub stepped_long : length stepped ≡ n
  stepped_long = length-map-range_with_len stepped_number 0 n

  multiples : (s m : ℕ)
      → Equal N (total_below N m (λ l. times N (cond (has_player s l) (w l) (pos 0)) d))
      (times N (sum_over m w s) d)
  multiples s zero = equal-same N L N.zero
  multiples s (suc m) =
      chain N L (left N L (times N (cond (has_player s m) (w m) (pos 0)) d) (multiples s m))
      (back N L (times-add N L (sum_over m w s) (cond (has_player s m) (w m) (pos 0)) d))

  pub stepped_amount : (s : ℕ)
      → Equal N (amount_of N stepped s) (N.plus (amount_of N y s) (times N (sum_over n w s) d))
  stepped_amount s =
      let f : ℕ → C = λ l. cond (has_player s l) (number_of N y l) N.zero in
      let h : ℕ → C = λ l. times N (cond (has_player s l) (w l) (pos 0)) d in
      chain N L (amount_at N L g stepped s stepped_long)
      (chain N L
      (total_below-equal N L n (λ l. cond (has_player s l) (number_of N stepped l) N.zero) (λ l. N.plus (f l) (h l))
      (λ l lt. by_test (has_player s l) l lt))
      (chain N L (total_below-plus N L n f h)
      (plus-equal N L (back N L (amount_at N L g y s long)) (multiples s n))))
    where
      by_test : (b : Bool) (l : ℕ) → l < n
          → Equal N (cond b (number_of N stepped l) N.zero)
          (N.plus (cond b (number_of N y l) N.zero) (times N (cond b (w l) (pos 0)) d))
      by_test true l lt =
          equal_path N L (number_of N stepped l) (stepped_number l)
          (get_or-map-range_with_len stepped_number 0 n l l N.zero lt (omega arith))
      by_test false l lt = back N L (L.neutral N.zero)

  pub stepped_excess : (s : ℕ)
      → Equal N (excess_in N g stepped s) (N.plus (excess_in N g y s) (N.minus (times N (sum_over n w s) d)))
  stepped_excess s =
      chain N L (right N L (g.worth s) (minus-equal N L (stepped_amount s)))
      (less_more N L (g.worth s) (amount_of N y s) (times N (sum_over n w s) d))
