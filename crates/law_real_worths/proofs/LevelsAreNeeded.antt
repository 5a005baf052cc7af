-- At the prenucleolus each collection of coalitions of at least some excess is balanced: otherwise a transfer gives one
-- of them more and takes from none, by Farkas's lemma, and a small enough part of it comes first.
use Rattle.std.proofs.Common.{◌≡◌, ◌⊎◌, ℕ, suc, ◌+◌, ◌-◌, ◌^◌, ◌<◌, ◌≤◌, Bool, true, ◌&&◌, not, nat_eq, List, map, ℤ}
use Rattle.std.proofs.Common.{pos, ◌+ℤ◌, ◌-ℤ◌, ◌≤ℤ◌, int_le, sym, ap, ◌∙◌, inl, inr, arith}
use Rattle.std.proofs.lemmas.Bool.{false≢true}
use Rattle.std.proofs.lemmas.Int.{ints, by_lt_z}
use Rattle.definitions.proofs.Ring.{linear}
use Rattle.definitions.proofs.Cases.{true_or_false, and_parts, and_both, from_not}
use Rattle.definitions.proofs.Members.{sum_over-grand_coalition}
use Rattle.definitions.specs.Sums.{sum_below}
use Rattle.definitions.specs.Coalitions.{grand_coalition, proper_coalitions, sum_over}
use Rattle.definitions.specs.declared.Family.TheVariants.{Preimputations}
use Rattle.theorems.proofs.Certified.{from_int_le, to_int_le}
use Rattle.real_shares.specs.Numbers.{Numbers, IsOrderedGroup, AtMost, Less, Equal, times}
use Rattle.real_shares.specs.Shares.{amount_of}
use Rattle.real_shares.proofs.Orders.{at_most-same, from_less}
use Rattle.real_shares.proofs.Multiples.{chain, back, equal_path, left, right, times-add, times-one, minus-at_most}
use Rattle.real_shares.proofs.Multiples.{minus-equal, minus-zero, plus-at_most, from_low, times-minus, through}
use Rattle.real_shares.proofs.Sorted.{ComesBefore-sorted}
use Rattle.real_shares.proofs.Soundness.{SameOrLow-range, SomeAbove-range}
use Rattle.law_real_worths.specs.Games.{NumberGame, excess_in, excess_list_in, HaveSameIn, IsNucleolusIn, CanHalve}
use Rattle.law_real_worths.specs.KohlbergTheorem.{is_level}
use Rattle.law_real_worths.proofs.CoreFirst.{not_both, same_amounts}
use Rattle.law_real_worths.proofs.LevelsAreEnough.{is_proper, from_proper, to_proper}
use Rattle.law_real_worths.proofs.Moves.{no_less}
use Rattle.law_real_worths.proofs.Joined.{greatest_among, take_over, forth}
use Rattle.law_real_worths.proofs.SmallSteps.{times_more, small_below, size_of, sum_above, stepped, stepped_long}
use Rattle.law_real_worths.proofs.SmallSteps.{stepped_amount, stepped_excess}

module _ {C : Type 0} (N : Numbers C) (L : IsOrderedGroup N) (halve : CanHalve N) (g : NumberGame C) (y : List C)
    (is : IsNucleolusIn N Preimputations g y) (t : ℕ) where
  abbrev n : ℕ
  n = g.players

  abbrev e : ℕ → C
  e s = excess_in N g y s

  abbrev level : ℕ → Bool
  level s = is_level N g y t s

  -- what the tests say
  pub level_parts : (s : ℕ) → level s ≡ true → (is_proper n s ≡ true) × AtMost N (e t) (e s)
  level_parts s h =
      let first = and_parts (not (nat_eq s 0)) (not (nat_eq s (grand_coalition n)) && N.at_most (e t) (e s)) h in
      let second = and_parts (not (nat_eq s (grand_coalition n))) (N.at_most (e t) (e s)) first.1 in
      (and_both (not (nat_eq s 0)) (not (nat_eq s (grand_coalition n))) first.0 second.0, second.1)

  level_from : (s : ℕ) → is_proper n s ≡ true → AtMost N (e t) (e s) → level s ≡ true
  level_from s h le =
      let both = and_parts (not (nat_eq s 0)) (not (nat_eq s (grand_coalition n))) h in
      and_both (not (nat_eq s 0)) (not (nat_eq s (grand_coalition n)) && N.at_most (e t) (e s)) both.0
      (and_both (not (nat_eq s (grand_coalition n))) (N.at_most (e t) (e s)) both.1 le)

  -- ---- a transfer

  module _ (w : ℕ → ℤ) (total : sum_below n w ≡ pos 0) (c : ℕ) (within : c < 2 ^ n) (here : level c ≡ true)
      (gains : pos 1 ≤ℤ sum_over n w c)
      (none_less : (s : ℕ) → s < 2 ^ n → level s ≡ true → pos 0 ≤ℤ sum_over n w s) where
    abbrev W : ℕ → ℤ
    W s = sum_over n w s

    abbrev k : ℕ
    k = suc (size_of w n)

    -- the coalitions of less excess than t
    abbrev under : ℕ → Bool
    under s = is_proper n s && not (N.at_most (e t) (e s))

    under_less : (s : ℕ) → under s ≡ true → Less N N.zero (N.plus (e t) (N.minus (e s)))
    under_less s h le =
        let both = and_parts (is_proper n s) (not (N.at_most (e t) (e s))) h in
        false≢true (sym (from_not (N.at_most (e t) (e s)) both.1) ∙ from_low N L (e t) (e s) le)

    step : (d : C) × Less N N.zero d
        × ((s : ℕ) → s < 2 ^ n → under s ≡ true → AtMost N (times N (pos k) d) (N.plus (e t) (N.minus (e s))))
    step = small_below N L halve k under (λ s. N.plus (e t) (N.minus (e s))) (2 ^ n) (λ s lt h. under_less s h)

    abbrev d : C
    d = step.0

    low : AtMost N N.zero d
    low = from_less N L N.zero d step.1

    abbrev z : List C
    z = stepped N L g y is.0.0 w d

    after : (s : ℕ) → Equal N (excess_in N g z s) (N.plus (e s) (N.minus (times N (W s) d)))
    after s = stepped_excess N L g y is.0.0 w d s

    -- the coalition of the greatest excess that gets more
    abbrev rises : ℕ → Bool
    rises s = level s && int_le (pos 1) (W s)

    -- who gets one step at least is at least so much lower
    one_step : (s : ℕ) → pos 1 ≤ℤ W s → AtMost N (excess_in N g z s) (N.plus (e s) (N.minus d))
    one_step s one =
        through N L (after s).0
        (plus-at_most N L (e s) (e s) (N.minus (times N (W s) d)) (N.minus d) (at_most-same N L (e s))
        (minus-at_most N L d (times N (W s) d) (through N L (times-one N L d).1
        (times_more N L (pos 1) (W s) d low one))))

    same_excess : (s : ℕ) → W s ≡ pos 0 → Equal N (excess_in N g z s) (e s)
    same_excess s none =
        chain N L (after s)
        (chain N L
        (right N L (e s)
        (chain N L (minus-equal N L (equal_path N L (times N (W s) d) N.zero (ap (λ u. times N u d) none)))
        (minus-zero N L))) (L.neutral (e s)))

    -- who had less than t stays below t by a step
    still_under : (s : ℕ) → s < 2 ^ n → under s ≡ true → AtMost N (excess_in N g z s) (N.plus (e t) (N.minus d))
    still_under s lt h =
        through N L (after s).0 (take_over N L (N.plus (e s) (N.minus (times N (W s) d))) (e t) d
        (through N L joined_step.0
        (through N L (plus-at_most N L (e s) (e s) (times N (pos 0 -ℤ W s +ℤ pos 1) d) (N.plus (e t) (N.minus (e s)))
        (at_most-same N L (e s)) (through N L (times_more N L (pos 0 -ℤ W s +ℤ pos 1) (pos k) d low
        (few (W s) (size_of w n) (sum_above w s n))) (step.2 s lt h))) (forth N L (e s) (e t)).0)))
      where
        few : (u : ℤ) (m : ℕ) → (pos 0 -ℤ pos m) ≤ℤ u → (pos 0 -ℤ u +ℤ pos 1) ≤ℤ pos (suc m)
        few u m h = omega (arith, ints)

        joined_step : Equal N (N.plus (N.plus (e s) (N.minus (times N (W s) d))) d)
            (N.plus (e s) (times N (pos 0 -ℤ W s +ℤ pos 1) d))
        joined_step =
            chain N L (L.associates (e s) (N.minus (times N (W s) d)) d) (right N L (e s)
            (back N L (chain N L (times-add N L (pos 0 -ℤ W s) (pos 1) d)
            (chain N L (left N L (times N (pos 1) d) (times-minus N L (W s) d))
            (right N L (N.minus (times N (W s) d)) (times-one N L d))))))

    -- ---- it comes first

    module _ (b : ℕ) (lt : b < 2 ^ n) (h : rises b ≡ true)
        (most : (s : ℕ) → s < 2 ^ n → rises s ≡ true → AtMost N (e s) (e b)) where
      abbrev E : C
      E = N.plus (e b) (N.minus d)

      both : (level b ≡ true) × (int_le (pos 1) (W b) ≡ true)
      both = and_parts (level b) (int_le (pos 1) (W b)) h

      parts : (is_proper n b ≡ true) × AtMost N (e t) (e b)
      parts = level_parts b both.0

      range : (0 < b) × (b < grand_coalition n)
      range = from_proper n b lt parts.0

      at_top : AtMost N (excess_in N g z b) E
      at_top = one_step b (from_int_le (pos 1) (W b) both.1)

      above : Less N E (e b)
      above le = step.1 (no_less N L (e b) d le)

      efficient : Equal N (amount_of N z (grand_coalition n)) (g.worth (grand_coalition n))
      efficient =
          let s = grand_coalition n in
          let none : W s ≡ pos 0 = sum_over-grand_coalition n w ∙ total in
          chain N L (stepped_amount N L g y is.0.0 w d s)
          (chain N L
          (right N L (amount_of N y s) (equal_path N L (times N (W s) d) N.zero (ap (λ u. times N u d) none)))
          (chain N L (L.neutral (amount_of N y s)) is.0.1))

      differs : ¬ HaveSameIn N g y z
      differs same =
          let amounts = same_amounts N L g y z b is.0.0 (stepped_long N L g y is.0.0 w d) same in
          above (through N L (right N L (g.worth b) (minus-equal N L amounts)).0 at_top)

      each : (s : ℕ) → 1 ≤ s → s < 1 + (2 ^ n - 2)
          → Equal N (excess_in N g z s) (e s) ⊎ AtMost N (excess_in N g z s) E
      each s one past =
          let inside : s < 2 ^ n = omega (arith, one, past) in
          elim (true_or_false (level s)) [
            | inl in_level ↦
                by_lt_z (pos 0) (W s) (λ up. inr
                (let first : pos 1 ≤ℤ W s = omega (arith, linear, up) in
                through N L (one_step s first) (L.shifts (e s) (e b) (N.minus d) (most s inside
                (and_both (level s) (int_le (pos 1) (W s)) in_level (to_int_le (pos 1) (W s) first))))))
                (λ le. inl (same_excess s (flat (W s) le (none_less s inside in_level))))
            | inr out ↦
                let proper = to_proper n s one (omega (arith, one, past)) in
                inr (through N L (still_under s inside (and_both (is_proper n s) (not (N.at_most (e t) (e s))) proper
                (elim (true_or_false (N.at_most (e t) (e s))) [
                  | inl le ↦ absurd (false≢true (sym out ∙ level_from s proper le))
                  | inr less ↦ ap not less
                ]))) (L.shifts (e t) (e b) (N.minus d) parts.1))
          ]
        where
          flat : (u : ℤ) → u ≤ℤ pos 0 → pos 0 ≤ℤ u → u ≡ pos 0
          flat u a b = omega (arith, linear)

      never_with : ⊥
      never_with =
          not_both N L g (excess_list_in N g y) (excess_list_in N g z)
          (is.1 z (stepped_long N L g y is.0.0 w d, efficient) differs)
          (ComesBefore-sorted N L E (map (excess_in N g z) (proper_coalitions n)) (map e (proper_coalitions n))
          (SameOrLow-range N E (excess_in N g z) e 1 (2 ^ n - 2) each)
          (SomeAbove-range N E (excess_in N g z) e 1 (2 ^ n - 2) b (omega (arith, range.0))
          (omega (arith, range.0, range.1))
          at_top above))

    pub never : ⊥
    never = elim (greatest_among N L rises e (2 ^ n)) [
      | inl none ↦
          false≢true
          (sym (none c within) ∙ and_both (level c) (int_le (pos 1) (W c)) here (to_int_le (pos 1) (W c) gains))
      | inr found ↦ never_with found.0 found.1 found.2 found.3
    ]
