-- Say j gets more than i, which adds no less. Make their shares equal: with i in the place of j a coalition has an
-- excess that is greater by what j gets more at least, so these shares come before the nucleolus.
use Rattle.std.proofs.Common.{◌≡◌, ◌≢◌, ℕ, ◌+◌, ◌-◌, ◌^◌, ◌<◌, ◌≤◌, true, false, not, List, length, sym, ap, ◌∙◌, inl}
use Rattle.std.proofs.Common.{inr, arith}
use Rattle.std.proofs.lemmas.Bool.{false≢true}
use Rattle.definitions.proofs.Cases.{from_not}
use Rattle.definitions.proofs.Masks.{singleton-within}
use Rattle.definitions.proofs.Members.{has_player-empty, has_player-singleton, has_player-singleton_other}
use Rattle.definitions.proofs.Parts.{has_player-more_same, has_player-more_other, more-lt}
use Rattle.definitions.specs.Coalitions.{has_player, singleton}
use Rattle.definitions.specs.Prekernel.{holds_without}
use Rattle.definitions.specs.declared.Family.{Family}
use Rattle.definitions.specs.declared.Family.TheVariants.{Imputations}
use Rattle.theorems.proofs.Moves.{parted, joined, proper_of}
use Rattle.law_answers.proofs.Withouts.{without}
use Rattle.real_shares.specs.Numbers.{Numbers, IsOrderedGroup, AtMost, Equal}
use Rattle.real_shares.specs.Shares.{number_of, amount_of}
use Rattle.real_shares.proofs.Orders.{decided, from_less}
use Rattle.real_shares.proofs.Multiples.{chain, back, equal_path, left, right, minus-equal, through}
use Rattle.law_real_worths.specs.Games.{NumberGame, excess_in, IsNucleolusIn, CanHalve, AddsNoLessIn}
use Rattle.law_real_worths.proofs.CoreFirst.{length_in}
use Rattle.law_real_worths.proofs.Moves.{less_more, no_gain}
use Rattle.law_real_worths.proofs.Joined.{half_positive, both_halves, take_over, no_less_with, greatest_among}
use Rattle.law_real_worths.proofs.Joined.{amount_more}
use Rattle.law_real_worths.proofs.Joined.{rational_of}

module _ {C : Type 0} (N : Numbers C) (L : IsOrderedGroup N) (halve : CanHalve N) (g : NumberGame C)
    (family : Family)
    (y : List C) (is : IsNucleolusIn N family g y) (i j : ℕ) (hi : i < g.players) (hj : j < g.players) where
  abbrev n : ℕ
  n = g.players

  abbrev e : ℕ → C
  e s = excess_in N g y s

  abbrev u : C
  u = number_of N y i

  abbrev v : C
  v = number_of N y j

  long : length y ≡ n
  long = length_in N L g family y is.0

  -- ---- half of what j gets more

  abbrev h : C
  h = (halve (N.plus v (N.minus u))).0

  halves : Equal N (N.plus h h) (N.plus v (N.minus u))
  halves = (halve (N.plus v (N.minus u))).1

  excess_joined : (r k : ℕ) → k < n → has_player r k ≡ false
      → Equal N (e (r + 2 ^ k))
      (N.plus (N.plus (g.worth (r + 2 ^ k)) (N.minus (amount_of N y r))) (N.minus (number_of N y k)))
  excess_joined r k lt out =
      chain N L (right N L (g.worth (r + 2 ^ k)) (minus-equal N L (amount_more N L g y r k long lt out)))
      (less_more N L (g.worth (r + 2 ^ k)) (amount_of N y r) (number_of N y k))

  -- a - b with h twice is a - c, where h twice is b - c
  between : (a : C) → Equal N (N.plus (N.plus (N.plus a (N.minus v)) h) h) (N.plus a (N.minus u))
  between a =
      chain N L (L.associates (N.plus a (N.minus v)) h h)
      (chain N L (right N L (N.plus a (N.minus v)) halves)
      (chain N L (L.associates a (N.minus v) (N.plus v (N.minus u)))
      (right N L a
      (chain N L (back N L (L.associates (N.minus v) v (N.minus u)))
      (chain N L
      (left N L (N.minus u) (chain N L (L.commutes (N.minus v) v) (L.inverse v)))
      (chain N L (L.commutes N.zero (N.minus u)) (L.neutral (N.minus u))))))))

  module _ (adds : AddsNoLessIn N g i j) (more : ¬ AtMost N v u) where
    ne : i ≢ j
    ne same = more (equal_path N L v u (ap (number_of N y) (sym same))).0

    -- with i in the place of j
    other : (r : ℕ) → r < 2 ^ n → has_player r i ≡ false → has_player r j ≡ false
        → AtMost N (N.plus (N.plus (e (r + 2 ^ j)) h) h) (e (r + 2 ^ i))
    other r within out_i out_j =
        let a = N.plus (g.worth (r + 2 ^ j)) (N.minus (amount_of N y r)) in
        let b = N.plus (g.worth (r + 2 ^ i)) (N.minus (amount_of N y r)) in
        let twice = chain N L (left N L h (left N L h (excess_joined r j hj out_j))) (between a) in
        through N L twice.0 (through N L (L.shifts a b (N.minus u)
        (L.shifts (g.worth (r + 2 ^ j)) (g.worth (r + 2 ^ i)) (N.minus (amount_of N y r))
        (adds r within out_i out_j))) (excess_joined r i hi out_i).1)

    some_i : holds_without i j (singleton i) ≡ true
    some_i =
        joined (has_player (singleton i) i) (has_player (singleton i) j) (has_player-singleton i)
        (ap not (has_player-singleton_other i j (λ f. ne (sym f))))

    give : family ≡ Imputations → AtMost N (g.worth (singleton j)) (N.plus v (N.minus h))
    give f =
        let r = rational_of N L g family y is.0 f in
        let alone = adds 0 (omega (arith, singleton-within n i hi)) (has_player-empty i) (has_player-empty j) in
        let first : 0 + 2 ^ j ≡ singleton j = omega arith in
        let second : 0 + 2 ^ i ≡ singleton i = omega arith in
        through N L (equal_path N L (g.worth (singleton j)) (g.worth (0 + 2 ^ j)) (ap g.worth (sym first))).0
        (through N L alone
        (through N L (equal_path N L (g.worth (0 + 2 ^ i)) (g.worth (singleton i)) (ap g.worth second)).0
        (through N L (r i hi) (take_over N L u v h
        (through N L (no_less_with N L (N.plus u h) h (from_less N L N.zero h (half_positive N L u v h halves more)))
        (both_halves N L u v h halves).0)))))

    rising : (c : ℕ)
        → ((s : ℕ) → s < 2 ^ n → holds_without i j s ≡ true → AtMost N (e s) (e c))
        → (s : ℕ) → 1 ≤ s → s < 1 + (2 ^ n - 2) → has_player s i ≡ false → has_player s j ≡ true
        → AtMost N (N.plus (e s) h) (N.plus (e c) (N.minus h))
    rising c most s one past out has =
        let part = without n s j (omega (arith, one, past)) hj has in
        let r = part.0 in
        let lacks_i : has_player r i ≡ false =
        sym (has_player-more_other r j i part.2 ne) ∙ sym (ap (λ (k : ℕ). has_player k i) part.3) ∙ out in
        let t = r + 2 ^ i in
        let t_holds : holds_without i j t ≡ true =
        joined (has_player t i) (has_player t j) (has_player-more_same r i lacks_i)
        (ap not (has_player-more_other r i j lacks_i (λ f. ne (sym f)) ∙ part.2)) in
        take_over N L (N.plus (e s) h) (e c) h
        (through N L (left N L h (left N L h (equal_path N L (e s) (e (r + 2 ^ j)) (ap e part.3)))).0
        (through N L (other r part.1 lacks_i part.2) (most t (more-lt n r i part.1 hi lacks_i) t_holds)))

    never : ⊥
    never = elim (greatest_among N L (holds_without i j) e (2 ^ n)) [
      | inl none ↦ false≢true (sym (none (singleton i) (singleton-within n i hi)) ∙ some_i)
      | inr found ↦
          let c = found.0 in
          let proper = proper_of n i j c hj found.1 found.2 in
          let both = parted (has_player c i) (has_player c j) found.2 in
          no_gain N L g y long h i j hi hj ne family is (half_positive N L u v h halves more) give c proper.0
          proper.1
          both.0 (from_not (has_player c j) both.1)
          (λ s one past has out.
          found.3 s (omega (arith, one, past)) (joined (has_player s i) (has_player s j) has (ap not out)))
          (rising c found.3)
    ]

  pub adds_gets_no_less : AddsNoLessIn N g i j → AtMost N v u
  adds_gets_no_less adds = elim (decided (N.at_most v u)) [
    | inl le ↦ le
    | inr more ↦ absurd (never adds more)
  ]
