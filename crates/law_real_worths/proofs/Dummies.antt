-- With a dummy a coalition's excess is less by what the dummy gets beside its worth alone. If that is above zero,
-- half of it moved from the dummy to a member of the coalition of the greatest excess without it improves; if it is
-- below zero, the sides change.
use Rattle.std.proofs.Common.{◌≡◌, ◌≢◌, ℕ, ◌+◌, ◌-◌, ◌^◌, ◌<◌, ◌≤◌, Bool, true, false, not, ◌&&◌, nat_eq, List, length}
use Rattle.std.proofs.Common.{sym, ap, ◌∙◌, inl, inr, arith}
use Rattle.std.proofs.lemmas.Bool.{false≢true}
use Rattle.definitions.proofs.Cases.{same_or_other, from_not, and_parts, and_both, nat_eq-other, from_not_nat_eq}
use Rattle.definitions.proofs.Masks.{grand_coalition-within, singleton-within}
use Rattle.definitions.proofs.Members.{has_player-empty, has_player-singleton, has_player-grand_coalition}
use Rattle.definitions.proofs.Parts.{has_player-more_same, more-lt}
use Rattle.definitions.proofs.SomeMembers.{some_member, some_outsider}
use Rattle.definitions.specs.Coalitions.{has_player, singleton, grand_coalition}
use Rattle.definitions.specs.declared.Family.{Family}
use Rattle.definitions.specs.declared.Family.TheVariants.{Imputations}
use Rattle.law_answers.proofs.Withouts.{without}
use Rattle.real_shares.specs.Numbers.{Numbers, IsOrderedGroup, AtMost, Less, Equal}
use Rattle.real_shares.specs.Shares.{number_of, amount_of}
use Rattle.real_shares.proofs.Orders.{decided, from_less}
use Rattle.real_shares.proofs.Multiples.{chain, back, equal_path, plus-equal, left, right, minus-equal, minus-plus}
use Rattle.real_shares.proofs.Multiples.{exchanged, difference-zero, neutral_left, plus-at_most, through}
use Rattle.law_real_worths.specs.Games.{NumberGame, excess_in, IsNucleolusIn, CanHalve, IsDummyIn}
use Rattle.law_real_worths.proofs.CoreFirst.{length_in, efficient_in, nobody_gets}
use Rattle.law_real_worths.proofs.Moves.{no_gain}
use Rattle.law_real_worths.proofs.Joined.{half_positive, both_halves, take_over, no_less_with, greatest_among}
use Rattle.law_real_worths.proofs.Joined.{amount_more}
use Rattle.law_real_worths.proofs.Joined.{rational_of, half_low}

module _ {C : Type 0} (N : Numbers C) (L : IsOrderedGroup N) where
  -- (b - a) + (a - b) is zero
  opposite : (a b : C) → Equal N (N.plus (N.plus b (N.minus a)) (N.plus a (N.minus b))) N.zero
  opposite a b =
      chain N L (right N L (N.plus b (N.minus a)) (L.commutes a (N.minus b)))
      (chain N L (exchanged N L b (N.minus a) (N.minus b) a)
      (chain N L (plus-equal N L (L.inverse b) (chain N L (L.commutes (N.minus a) a) (L.inverse a)))
      (L.neutral N.zero)))

module _ {C : Type 0} (N : Numbers C) (L : IsOrderedGroup N) (halve : CanHalve N) (g : NumberGame C)
    (family : Family)
    (y : List C) (is : IsNucleolusIn N family g y) (i : ℕ) (hi : i < g.players) (dummy : IsDummyIn N g i) where
  abbrev n : ℕ
  n = g.players

  abbrev e : ℕ → C
  e s = excess_in N g y s

  -- what it gets, and what it is worth alone
  abbrev u : C
  u = number_of N y i

  abbrev a : C
  a = g.worth (singleton i)

  long : length y ≡ n
  long = length_in N L g family y is.0

  -- with the dummy
  with_it : (r : ℕ) → r < 2 ^ n → has_player r i ≡ false
      → Equal N (e (r + 2 ^ i)) (N.plus (e r) (N.plus a (N.minus u)))
  with_it r within out =
      chain N L
      (plus-equal N L (dummy r within out)
      (chain N L (minus-equal N L (amount_more N L g y r i long hi out)) (minus-plus N L (amount_of N y r) u)))
      (exchanged N L (g.worth r) a (N.minus (amount_of N y r)) (N.minus u))

  -- nobody, and all
  nobody_worth : Equal N (g.worth 0) N.zero
  nobody_worth =
      let first : 0 + 2 ^ i ≡ singleton i = omega arith in
      let same = chain N L (equal_path N L a (g.worth (0 + 2 ^ i)) (ap g.worth (sym first)))
      (dummy 0 (let p = grand_coalition-within n in omega (arith, p)) (has_player-empty i)) in
      chain N L (back N L (chain N L (L.associates (g.worth 0) a (N.minus a))
      (chain N L (right N L (g.worth 0) (L.inverse a)) (L.neutral (g.worth 0)))))
      (chain N L (left N L (N.minus a) (back N L same)) (L.inverse a))

  nobody_excess : Equal N (e 0) N.zero
  nobody_excess =
      chain N L (plus-equal N L nobody_worth (minus-equal N L (nobody_gets N L g y)))
      (L.inverse N.zero)

  all_excess : Equal N (e (grand_coalition n)) N.zero
  all_excess =
      difference-zero N L (amount_of N y (grand_coalition n)) (g.worth (grand_coalition n))
      (efficient_in N L g family y is.0)

  -- all but the dummy
  others : (r : ℕ) × (r < 2 ^ n) × (has_player r i ≡ false) × (grand_coalition n ≡ r + 2 ^ i)
  others = without n (grand_coalition n) i (grand_coalition-within n) hi (has_player-grand_coalition n i hi)

  others_excess : Equal N (e others.0) (N.plus u (N.minus a))
  others_excess =
      let r = others.0 in
      let none = chain N L (back N L (with_it r others.1 others.2))
      (chain N L (equal_path N L (e (r + 2 ^ i)) (e (grand_coalition n)) (ap e (sym others.3))) all_excess) in
      chain N L (back N L (chain N L (L.associates (e r) (N.plus a (N.minus u)) (N.plus u (N.minus a)))
      (chain N L (right N L (e r) (opposite N L u a)) (L.neutral (e r)))))
      (chain N L (left N L (N.plus u (N.minus a)) none) (neutral_left N L (N.plus u (N.minus a))))

  -- the dummy alone
  alone_excess : Equal N (e (singleton i)) (N.plus a (N.minus u))
  alone_excess =
      let first : 0 + 2 ^ i ≡ singleton i = omega arith in
      chain N L (equal_path N L (e (singleton i)) (e (0 + 2 ^ i)) (ap e (sym first)))
      (chain N L (with_it 0 (let p = grand_coalition-within n in omega (arith, p)) (has_player-empty i))
      (chain N L (left N L (N.plus a (N.minus u)) nobody_excess) (neutral_left N L (N.plus a (N.minus u)))))

  -- e and h twice is e and what h twice is
  twice_more : (b h d : C) → Equal N (N.plus h h) d → Equal N (N.plus (N.plus b h) h) (N.plus b d)
  twice_more b h d same = chain N L (L.associates b h h) (right N L b same)

  no_less_twice : (h d : C) → AtMost N N.zero h → Equal N (N.plus h h) d → AtMost N N.zero d
  no_less_twice h d low same =
      through N L (L.neutral N.zero).1 (through N L (plus-at_most N L N.zero h N.zero h low low) same.0)

  not_last : (c k : ℕ) → c < 2 ^ n → k < n → has_player c k ≡ false → c < 1 + (2 ^ n - 2)
  not_last c k within lt out =
      let other : c ≢ grand_coalition n =
      λ same. false≢true (sym out ∙ ap (λ (s : ℕ). has_player s k) same ∙ has_player-grand_coalition n k lt) in
      omega (arith, within, other, grand_coalition-within n)

  -- ---- it doesn't get more

  module _ (more : ¬ AtMost N u a) where
    abbrev h : C
    h = (halve (N.plus u (N.minus a))).0

    halves : Equal N (N.plus h h) (N.plus u (N.minus a))
    halves = (halve (N.plus u (N.minus a))).1

    some : Less N N.zero h
    some = half_positive N L a u h halves more

    low : AtMost N N.zero h
    low = from_less N L N.zero h some

    abbrev without_it : ℕ → Bool
    without_it s = not (has_player s i) && not (nat_eq s 0)

    passes : (s : ℕ) → has_player s i ≡ false → s ≢ 0 → without_it s ≡ true
    passes s out ne = and_both (not (has_player s i)) (not (nat_eq s 0)) (ap not out) (ap not (nat_eq-other s 0 ne))

    others_some : others.0 ≢ 0
    others_some none =
        some (half_low N L h (through N L (chain N L halves (back N L others_excess)).0
        (chain N L (equal_path N L (e others.0) (e 0) (ap e none)) nobody_excess).0))

    never : (c : ℕ) → c < 2 ^ n → without_it c ≡ true
        → ((s : ℕ) → s < 2 ^ n → without_it s ≡ true → AtMost N (e s) (e c)) → ⊥
    never c within test most =
        no_gain N L g y long h j i hj hi ne family is some give c first (not_last c i within hi out) joined_in.2 out
        (λ s one past has lacks. at_most s (omega (arith, one, past)) lacks)
        (λ s one past lacks has. rising s (omega (arith, one, past)) has)
      where
        both : (not (has_player c i) ≡ true) × (not (nat_eq c 0) ≡ true)
        both = and_parts (not (has_player c i)) (not (nat_eq c 0)) test

        out : has_player c i ≡ false
        out = from_not (has_player c i) both.0

        first : 1 ≤ c
        first = let ne = from_not_nat_eq c 0 (from_not (nat_eq c 0) both.1) in omega (arith, ne)

        joined_in : (k : ℕ) × (k < n) × (has_player c k ≡ true)
        joined_in = some_member n c (omega (arith, first)) within

        j : ℕ
        j = joined_in.0

        hj : j < n
        hj = joined_in.1

        ne : j ≢ i
        ne same = false≢true (sym out ∙ ap (has_player c) (sym same) ∙ joined_in.2)

        give : family ≡ Imputations → AtMost N a (N.plus u (N.minus h))
        give f =
            take_over N L a u h (through N L (no_less_with N L (N.plus a h) h low) (both_halves N L a u h halves).0)

        at_most : (r : ℕ) → r < 2 ^ n → has_player r i ≡ false → AtMost N (e r) (e c)
        at_most r lt lacks = elim (same_or_other r 0) [
          | inr some_r ↦ most r lt (passes r lacks some_r)
          | inl none ↦
              through N L (chain N L (equal_path N L (e r) (e 0) (ap e none)) nobody_excess).0
              (through N L (no_less_twice h (N.plus u (N.minus a)) low halves) (through N L others_excess.1
              (most others.0 others.1 (passes others.0 others.2 others_some))))
        ]

        rising : (s : ℕ) → s < 2 ^ n → has_player s i ≡ true
            → AtMost N (N.plus (e s) h) (N.plus (e c) (N.minus h))
        rising s lt has =
            let part = without n s i lt hi has in
            let r = part.0 in
            let whole = chain N L (twice_more (e s) h (N.plus u (N.minus a)) halves)
            (chain N L (left N L (N.plus u (N.minus a))
            (chain N L (equal_path N L (e s) (e (r + 2 ^ i)) (ap e part.3)) (with_it r part.1 part.2)))
            (chain N L (L.associates (e r) (N.plus a (N.minus u)) (N.plus u (N.minus a)))
            (chain N L (right N L (e r) (opposite N L u a)) (L.neutral (e r))))) in
            take_over N L (N.plus (e s) h) (e c) h (through N L whole.0 (at_most r part.1 part.2))

    not_more : ⊥
    not_more = elim (greatest_among N L without_it e (2 ^ n)) [
      | inl none ↦ false≢true (sym (none others.0 others.1) ∙ passes others.0 others.2 others_some)
      | inr found ↦ never found.0 found.1 found.2 found.3
    ]

  -- ---- nor less

  module _ (less : ¬ AtMost N a u) where
    abbrev k : C
    k = (halve (N.plus a (N.minus u))).0

    halved : Equal N (N.plus k k) (N.plus a (N.minus u))
    halved = (halve (N.plus a (N.minus u))).1

    above : Less N N.zero k
    above = half_positive N L u a k halved less

    not_low : AtMost N N.zero k
    not_low = from_less N L N.zero k above

    abbrev holds_it : ℕ → Bool
    holds_it s = has_player s i && not (nat_eq s (grand_coalition n))

    holds : (s : ℕ) → has_player s i ≡ true → s ≢ grand_coalition n → holds_it s ≡ true
    holds s has ne =
        and_both (has_player s i) (not (nat_eq s (grand_coalition n))) has
        (ap not (nat_eq-other s (grand_coalition n) ne))

    alone_some : singleton i ≢ grand_coalition n
    alone_some same =
        above (half_low N L k (through N L (chain N L halved (back N L alone_excess)).0
        (chain N L (equal_path N L (e (singleton i)) (e (grand_coalition n)) (ap e same)) all_excess).0))

    neither : (c : ℕ) → c < 2 ^ n → holds_it c ≡ true
        → ((s : ℕ) → s < 2 ^ n → holds_it s ≡ true → AtMost N (e s) (e c)) → ⊥
    neither c within test most =
        no_gain N L g y long k i j hi hj ne family is above give c first (not_last c j within hj outside.2) both.0
        outside.2 (λ s one past has lacks. at_most s (omega (arith, one, past)) has)
        (λ s one past lacks has. rising s (omega (arith, one, past)) lacks)
      where
        both : (has_player c i ≡ true) × (not (nat_eq c (grand_coalition n)) ≡ true)
        both = and_parts (has_player c i) (not (nat_eq c (grand_coalition n))) test

        first : 1 ≤ c
        first =
            let ne : c ≢ 0 =
            λ same. false≢true (sym (has_player-empty i) ∙ ap (λ (s : ℕ). has_player s i) (sym same) ∙ both.0) in
            omega (arith, ne)

        outside : (l : ℕ) × (l < n) × (has_player c l ≡ false)
        outside =
            some_outsider n c within
            (λ same. from_not_nat_eq c (grand_coalition n) (from_not (nat_eq c (grand_coalition n)) both.1)
            (sym same))

        j : ℕ
        j = outside.0

        hj : j < n
        hj = outside.1

        ne : i ≢ j
        ne same = false≢true (sym outside.2 ∙ ap (has_player c) (sym same) ∙ both.0)

        give : family ≡ Imputations → AtMost N (g.worth (singleton j)) (N.plus (number_of N y j) (N.minus k))
        give f = absurd (less (rational_of N L g family y is.0 f i hi))

        at_most : (t : ℕ) → t < 2 ^ n → has_player t i ≡ true → AtMost N (e t) (e c)
        at_most t lt has = elim (same_or_other t (grand_coalition n)) [
          | inr some_t ↦ most t lt (holds t has some_t)
          | inl all ↦
              through N L (chain N L (equal_path N L (e t) (e (grand_coalition n)) (ap e all)) all_excess).0
              (through N L (no_less_twice k (N.plus a (N.minus u)) not_low halved) (through N L alone_excess.1
              (most (singleton i) (singleton-within n i hi)
              (holds (singleton i) (has_player-singleton i) alone_some))))
        ]

        rising : (s : ℕ) → s < 2 ^ n → has_player s i ≡ false
            → AtMost N (N.plus (e s) k) (N.plus (e c) (N.minus k))
        rising s lt out =
            let whole = chain N L (twice_more (e s) k (N.plus a (N.minus u)) halved) (back N L (with_it s lt out)) in
            take_over N L (N.plus (e s) k) (e c) k (through N L whole.0
            (at_most (s + 2 ^ i) (more-lt n s i lt hi out) (has_player-more_same s i out)))

    not_less : ⊥
    not_less = elim (greatest_among N L holds_it e (2 ^ n)) [
      | inl none ↦
          false≢true
          (sym (none (singleton i) (singleton-within n i hi))
          ∙ holds (singleton i) (has_player-singleton i) alone_some)
      | inr found ↦ neither found.0 found.1 found.2 found.3
    ]

  pub dummy_gets : Equal N u a
  dummy_gets = (upper, lower)
    where
      upper : AtMost N u a
      upper = elim (decided (N.at_most u a)) [ inl le ↦ le | inr more ↦ absurd (not_more more) ]

      lower : AtMost N a u
      lower = elim (decided (N.at_most a u)) [ inl le ↦ le | inr less ↦ absurd (not_less less) ]
