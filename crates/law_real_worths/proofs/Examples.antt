-- Two who share a real number; doubling; and the integer 1, which isn't twice an integer.
use Rattle.std.proofs.Common.{◌≡◌, ℕ, zero, suc, ◌+◌, ◌^◌, ◌<◌, ◌≤◌, List, [], ◌∷◌, length, ℤ, pos, ◌+ℤ◌, ◌*ℤ◌, ◌≤ℤ◌}
use Rattle.std.proofs.Common.{int_le, true, Bool, false, cond, nat_eq, ◌||◌, refl, sym, ap, inl, inr, arith}
use Rattle.std.proofs.lemmas.Bool.{false≢true}
use Rattle.std.proofs.lemmas.Int.{ints}
use Rattle.definitions.proofs.Ring.{linear}
use Rattle.definitions.specs.Sums.{sum_below}
use Rattle.definitions.specs.Coalitions.{has_player}
use Rattle.definitions.specs.declared.Family.TheVariants.{Preimputations}
use Rattle.real_shares.specs.Numbers.{Numbers, IsOrderedGroup, AtMost, Less, Equal, sorted_by, ComesBeforeBy}
use Rattle.real_shares.specs.Reals.{Real}
use Rattle.real_shares.specs.Shares.{number_of, amount_of}
use Rattle.real_shares.proofs.Orders.{decided, equal-same, from_less, at_most-same}
use Rattle.real_shares.proofs.Multiples.{chain, back as turn, equal_path, left, neutral_left, minus-at_most}
use Rattle.real_shares.proofs.Multiples.{minus-equal, plus-at_most, exchanged, through}
use Rattle.real_shares.proofs.RealNumbers.{are_ordered}
use Rattle.real_shares.proofs.Soundness.{before-from}
use Rattle.law_real_worths.specs.Games.{NumberGame, excess_in, excess_list_in, HaveSameIn, IsNucleolusIn, InCoreIn}
use Rattle.law_real_worths.specs.Games.{AreInterchangeableIn, IsDummyIn, CanHalve}
use Rattle.law_real_worths.specs.Examples.{two, second, TwoShare, DoublingIsAChange, IntegersCantHalve, SomeAddNoLess}
use Rattle.law_real_worths.specs.Examples.{SinglesBalance}
use Rattle.law_real_worths.proofs.CoreFirst.{amount_at}
use Rattle.law_real_worths.proofs.Moves.{minus_minus}
use Rattle.law_real_worths.proofs.WhoAddsNoLess.{adds_gets_no_less}
use Rattle.law_real_worths.proofs.Joined.{off}
use Rattle.law_real_worths.proofs.RealsCanHalve.{can_halve}
use Rattle.law_real_worths.proofs.UnbeatenIsNucleolus.{to_unbeaten, from_unbeaten}

-- ---- doubling

pub doubling : DoublingIsAChange
doubling N R = (
  (
    λ a. (halve a).0,
    record {
      adds = λ a b. exchanged N L a b a b;
      keeps = λ a b le. plus-at_most N L a b a b le le;
      keeps_back = λ a b le. in_order (halve a).0 (halve b).0
          (L.transitive (N.plus (halve a).0 (halve a).0) a (N.plus (halve b).0 (halve b).0) (halve a).1.0
          (L.transitive a b (N.plus (halve b).0 (halve b).0) le (halve b).1.1));
      there = λ a. (halve a).1;
      again = λ a. (
        in_order (halve (N.plus a a)).0 a (halve (N.plus a a)).1.0,
        in_order a (halve (N.plus a a)).0 (halve (N.plus a a)).1.1,
      );
    },
  ),
  λ back change.
      L.positive
      (L.transitive N.unit (back N.zero) N.zero (change.again N.unit).1
      (L.transitive (back N.zero) N.zero N.zero (change.again N.zero).0 (at_most-same N L N.zero))),
)
  where
    L : IsOrderedGroup N
    L = are_ordered N R

    halve : CanHalve N
    halve = can_halve N R

    -- where a twice is at most b twice, a is at most b
    in_order : (a b : Real) → AtMost N (N.plus a a) (N.plus b b) → AtMost N a b
    in_order a b le = elim (decided (N.at_most a b)) [
      | inl here ↦ here
      | inr more ↦ elim (L.linear a b) [
        | inl here ↦ here
        | inr less ↦
            let up = through N L le (plus-at_most N L b b b a (at_most-same N L b) less) in
            absurd (more (off N L a b a up))
      ]
    ]

pub integers_cant : IntegersCantHalve
integers_cant halve = odd (halve (pos 1)).0 (halve (pos 1)).1.0 (halve (pos 1)).1.1
  where
    odd : (z : ℤ) → int_le (z +ℤ z) (pos 1) ≡ true → int_le (pos 1) (z +ℤ z) ≡ true → ⊥
    odd z a b = omega (arith, ints, a, b)

-- ---- two who share

module _ {C : Type 0} (N : Numbers C) (L : IsOrderedGroup N) (c h : C) (half : Equal N (N.plus h h) c)
    (some : Less N N.zero c) where
  abbrev g : NumberGame C
  g = two N c

  abbrev y : List C
  y = h ∷ (h ∷ [])

  above : Less N N.zero h
  above le = some (through N L half.1 (through N L (plus-at_most N L h N.zero h N.zero le le) (L.neutral N.zero).0))

  interchangeable : AreInterchangeableIn N g 0 1
  interchangeable zero lt a b = equal-same N L N.zero
  interchangeable (suc zero) lt a b = absurd (false≢true (sym a))
  interchangeable (suc (suc zero)) lt a b = absurd (false≢true (sym b))
  interchangeable (suc (suc (suc zero))) lt a b = absurd (false≢true (sym b))
  interchangeable (suc (suc (suc (suc s)))) lt a b = absurd (omega arith)

  no_dummy : ¬ IsDummyIn N g 0
  no_dummy dummy =
      let e = dummy 2 (omega arith) refl in
      some (through N L e.0 (L.neutral N.zero).0)

  -- what the one, the other, and both get of two numbers
  first_gets : (a b : C) → Equal N (N.plus (N.plus N.zero a) N.zero) a
  first_gets a b = chain N L (L.neutral (N.plus N.zero a)) (neutral_left N L a)

  second_gets : (b : C) → Equal N (N.plus (N.plus N.zero N.zero) b) b
  second_gets b = chain N L (left N L b (L.neutral N.zero)) (neutral_left N L b)

  both_get : (a b : C) → Equal N (N.plus (N.plus N.zero a) b) (N.plus a b)
  both_get a b = left N L b (neutral_left N L a)

  low : AtMost N N.zero h
  low = from_less N L N.zero h above

  core_point : InCoreIn N g y
  core_point = (refl, chain N L (both_get h h) half, unblocked)
    where
      unblocked : (s : ℕ) → s < 2 ^ 2 → AtMost N (g.worth s) (amount_of N y s)
      unblocked zero lt = (chain N L (L.neutral (N.plus N.zero N.zero)) (L.neutral N.zero)).1
      unblocked (suc zero) lt = through N L low (first_gets h h).1
      unblocked (suc (suc zero)) lt = through N L low (second_gets h).1
      unblocked (suc (suc (suc zero))) lt = (turn N L (chain N L (both_get h h) half)).0
      unblocked (suc (suc (suc (suc s)))) lt = absurd (omega arith)

  -- twice all for the first, and the second would do better alone
  no_core_point : ¬ InCoreIn N g (N.plus c c ∷ (N.minus c ∷ []))
  no_core_point core =
      some
      (through N L (neutral_left N L c).1
      (through N L
      (L.shifts N.zero (N.minus c) c (through N L (core.2 2 (omega arith)) (second_gets (N.minus c)).0))
      (through N L (L.commutes (N.minus c) c).0 (L.inverse c).0)))

  -- ---- half each comes first

  module _ (z : List C) (long : length z ≡ 2) (efficient : Equal N (amount_of N z 3) c)
      (differs : ¬ HaveSameIn N g y z) where
    abbrev v : ℕ → C
    v = number_of N z

    shared : Equal N (N.plus (v 0) (v 1)) (N.plus h h)
    shared =
        chain N L (turn N L (chain N L (amount_at N L g z 3 long) (both_get (v 0) (v 1))))
        (chain N L efficient (turn N L half))

    -- who gets less than half
    less_alone : (k s : ℕ) → k < 2 → 1 ≤ s → s < 3 → (¬ AtMost N h (v k)) → Equal N (amount_of N z s) (v k)
        → Equal N (amount_of N y s) h
        → ComesBeforeBy N (sorted_by N (excess_list_in N g y)) (sorted_by N (excess_list_in N g z))
    less_alone k s lt one past less gets half_gets =
        before-from N L 2 (excess_in N g y) (excess_in N g z) s one past (λ t first last. inr (each t first last))
        (λ le. less
        (from_minus h (v k)
        (L.transitive (N.minus (v k)) (excess_in N g z s) (N.minus h)
        (alone s one past (amount_of N z s) (v k) gets).1
        (L.transitive (excess_in N g z s) (excess_in N g y s) (N.minus h) le
        (alone s one past (amount_of N y s) h half_gets).0))))
      where
        worthless : (t : ℕ) → 1 ≤ t → t < 3 → g.worth t ≡ N.zero
        worthless t first last = grind arith

        alone : (t : ℕ) → 1 ≤ t → t < 3 → (a b : C) → Equal N a b
            → Equal N (N.plus (g.worth t) (N.minus a)) (N.minus b)
        alone t first last a b e =
            chain N L (left N L (N.minus a) (equal_path N L (g.worth t) N.zero (worthless t first last)))
            (chain N L (neutral_left N L (N.minus a)) (minus-equal N L e))

        gets_half : (t : ℕ) → 1 ≤ t → t < 3 → Equal N (amount_of N y t) h
        gets_half zero first last = absurd (omega arith)
        gets_half (suc zero) first last = first_gets h h
        gets_half (suc (suc zero)) first last = second_gets h
        gets_half (suc (suc (suc t))) first last = absurd (omega arith)

        each : (t : ℕ) → 1 ≤ t → t < 3 → AtMost N (excess_in N g y t) (excess_in N g y s)
        each t first last =
            (chain N L (alone t first last (amount_of N y t) h (gets_half t first last))
            (turn N L (alone s one past (amount_of N y s) h half_gets))).0

        from_minus : (a b : C) → AtMost N (N.minus b) (N.minus a) → AtMost N a b
        from_minus a b le =
            through N L (minus_minus N L a).1
            (through N L (minus-at_most N L (N.minus b) (N.minus a) le) (minus_minus N L b).0)

    comes_first : ComesBeforeBy N (sorted_by N (excess_list_in N g y)) (sorted_by N (excess_list_in N g z))
    comes_first = elim (decided (N.at_most h (v 0))) [
      | inr less ↦
          less_alone 0 1 (omega arith) (omega arith) (omega arith) less
          (chain N L (amount_at N L g z 1 long) (first_gets (v 0) (v 1))) (first_gets h h)
      | inl first ↦ elim (decided (N.at_most h (v 1))) [
        | inr less ↦
            less_alone 1 2 (omega arith) (omega arith) (omega arith) less
            (chain N L (amount_at N L g z 2 long) (second_gets (v 1))) (second_gets h)
        | inl second ↦ absurd (differs (same first second))
      ]
    ]
      where
        same : AtMost N h (v 0) → AtMost N h (v 1) → HaveSameIn N g y z
        same first second zero lt = (
          first,
          off N L (v 0) h h
              (through N L (plus-at_most N L (v 0) (v 0) h (v 1) (at_most-same N L (v 0)) second) shared.0),
        )
        same first second (suc zero) lt = (
          second,
          off N L (v 1) h h (through N L (plus-at_most N L (v 1) (v 1) h (v 0) (at_most-same N L (v 1)) first)
              (through N L (L.commutes (v 1) (v 0)).0 shared.0)),
        )
        same first second (suc (suc i)) lt = absurd (omega arith)

  half_each : IsNucleolusIn N Preimputations g y
  half_each = (
    (refl, chain N L (both_get h h) half),
    λ z member differs. comes_first z member.0 (chain N L (equal-same N L (amount_of N z 3)) member.1) differs,
  )

pub two_share : TwoShare
two_share N c h R half some =
    let L = are_ordered N R in
    let alike = interchangeable N L c h half some in
    let halves = h ∷ (h ∷ []) in
    let first = c ∷ (N.zero ∷ []) in
    let is = half_each N L c h half some in
    let not : ¬ IsNucleolusIn N Preimputations (two N c) first =
    λ is. some
    (adds_gets_no_less N L (can_halve N R) (two N c) Preimputations first is 1 0 (omega arith) (omega arith)
    (λ s lt a b. (alike s lt b a).0)) in (
      alike,
      no_dummy N L c h half some,
      core_point N L c h half some,
      no_core_point N L c h half some,
      is,
      not,
      to_unbeaten N L (two N c) Preimputations halves is,
      λ u. not (from_unbeaten N L (two N c) (can_halve N R) Preimputations first u),
    )

-- ---- who adds no less, and dummies

pub some_add_no_less : SomeAddNoLess
some_add_no_less N c R some = (
  adds,
  λ less. some (less 0 (omega arith) refl refl),
  λ alike. some (alike 0 (omega arith) refl refl).1,
  dummy,
)
  where
    L : IsOrderedGroup N
    L = are_ordered N R

    adds : (s : ℕ) → s < 2 ^ 2 → has_player s 1 ≡ false → has_player s 0 ≡ false
        → AtMost N ((second N c).worth (s + 1)) ((second N c).worth (s + 2))
    adds zero lt a b = from_less N L N.zero c some
    adds (suc zero) lt a b = absurd (false≢true (sym b))
    adds (suc (suc zero)) lt a b = absurd (false≢true (sym a))
    adds (suc (suc (suc zero))) lt a b = absurd (false≢true (sym b))
    adds (suc (suc (suc (suc s)))) lt a b = absurd (omega arith)

    dummy : (s : ℕ) → s < 2 ^ 2 → has_player s 0 ≡ false
        → Equal N ((two N N.zero).worth (s + 1)) (N.plus ((two N N.zero).worth s) N.zero)
    dummy zero lt a = turn N L (L.neutral N.zero)
    dummy (suc zero) lt a = absurd (false≢true (sym a))
    dummy (suc (suc zero)) lt a = turn N L (L.neutral N.zero)
    dummy (suc (suc (suc zero))) lt a = absurd (false≢true (sym a))
    dummy (suc (suc (suc (suc s)))) lt a = absurd (omega arith)

-- ---- balanced collections

pub singles_balance : SinglesBalance
singles_balance = (
  record {
    weights = λ s. cond (nat_eq s 1 || nat_eq s 2) (pos 1) (pos 0);
    total = pos 1;
    some = λ s lt h. (let e = ap (λ (b : Bool). cond b (pos 1) (pos 0)) h in omega (arith, linear, e));
    none = λ s lt h. ap (λ (b : Bool). cond b (pos 1) (pos 0)) h;
    balance = each;
  },
  λ b. one_alone (b.weights 0) (b.weights 1) (b.weights 2) (b.weights 3) b.total (b.some 1 (omega arith) refl)
      (b.none 2 (omega arith) refl) (b.none 3 (omega arith) refl) (b.balance 0 (omega arith))
      (b.balance 1 (omega arith)),
)
  where
    each : (i : ℕ) → i < 2
        → sum_below (2 ^ 2)
        (λ s. cond (nat_eq s 1 || nat_eq s 2) (pos 1) (pos 0) *ℤ cond (has_player s i) (pos 1) (pos 0)) ≡ pos 1
    each zero lt = refl
    each (suc zero) lt = refl
    each (suc (suc i)) lt = absurd (omega arith)

    one_alone : (a b c d t : ℤ) → pos 1 ≤ℤ b → c ≡ pos 0 → d ≡ pos 0
        → pos 0 +ℤ a *ℤ pos 0 +ℤ b *ℤ pos 1 +ℤ c *ℤ pos 0 +ℤ d *ℤ pos 1 ≡ t
        → pos 0 +ℤ a *ℤ pos 0 +ℤ b *ℤ pos 0 +ℤ c *ℤ pos 1 +ℤ d *ℤ pos 1 ≡ t → ⊥
    one_alone a b c d t one none last first second = omega (arith, ints)
