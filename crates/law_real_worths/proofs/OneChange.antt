-- An additive change that keeps the order and leaves the unit as it is changes no real number: each multiple of the
-- number lies between two multiples of the unit, and so does that of the changed number. So over r and over 1 over r
-- undo each other.
use Rattle.std.proofs.Common.{◌≡◌, ℕ, zero, suc, ◌+◌, ◌*◌, ℤ, pos, negsuc, ◌+ℤ◌, ◌-ℤ◌, ◌*ℤ◌, ◌≤ℤ◌, ◌<ℤ◌, sym}
use Rattle.std.proofs.Common.{subst, arith}
use Rattle.std.proofs.lemmas.Int.{by_lt_z, ints}
use Rattle.definitions.proofs.Ring.{linear, mul-leℤ, suc-mulℤ}
use Rattle.theorems.proofs.Products.{products}
use Rattle.real_shares.specs.Numbers.{Numbers, IsOrderedGroup, AtMost, Equal, multiple, times}
use Rattle.real_shares.specs.Reals.{Real, AreReals}
use Rattle.real_shares.proofs.Orders.{at_most-same, from_less}
use Rattle.real_shares.proofs.Multiples.{chain, back as turn, left, right, plus-at_most, is_minus}
use Rattle.real_shares.proofs.Multiples.{minus-equal, times-add, times-one, times-equal, through}
use Rattle.real_shares.proofs.RealNumbers.{are_ordered}
use Rattle.law_real_worths.proofs.OverWhole.{times_near}
use Rattle.law_real_worths.proofs.Factors.{Goes, place, placed, quotient, quotient_adds, quotient_keeps, quotient_one}
use Rattle.law_real_worths.proofs.Factors.{below_units, size}
use Rattle.law_real_worths.specs.RealWorths.{FactorsAreChanges, ChangesAreOne, IsUnitChange}

-- additive, and keeps the order
record Keeps (N : Numbers Real) (f : Real → Real) : Type 0 where
  adds : (a b : Real) → Equal N (f (N.plus a b)) (N.plus (f a) (f b))
  keeps : (a b : Real) → AtMost N a b → AtMost N (f a) (f b)

module _ (N : Numbers Real) (R : AreReals N) where
  abbrev L : IsOrderedGroup N
  L = are_ordered N R

  -- ---- what is at most another but for the unit in each multiple

  -- m times what d is at j, but for an error
  multiples_low : (x y : Real) (m j : ℕ)
      → (pos m *ℤ (x.near j -ℤ y.near j))
      ≤ℤ (x.near (m * j) -ℤ y.near (m * j) +ℤ pos m *ℤ pos (x.error + y.error) +ℤ pos (x.error + y.error))
  multiples_low x y zero j =
      let e : zero * j ≡ 0 = omega arith in
      subst
      (λ (i : ℕ). (pos 0 *ℤ (x.near j -ℤ y.near j))
      ≤ℤ (x.near i -ℤ y.near i +ℤ pos 0 *ℤ pos (x.error + y.error) +ℤ pos (x.error + y.error))) (sym e)
      (omega (products, x.above 0 0, y.below 0 0))
  multiples_low x y (suc m) j =
      let e : suc m * j ≡ m * j + j = omega arith in
      let c = pos (x.error + y.error) in
      subst
      (λ (i : ℕ). (pos (suc m) *ℤ (x.near j -ℤ y.near j))
      ≤ℤ (x.near i -ℤ y.near i +ℤ pos (suc m) *ℤ c +ℤ c)) (sym e)
      (omega (
        arith,
        linear,
        multiples_low x y m j,
        suc-mulℤ m (x.near j -ℤ y.near j),
        suc-mulℤ m c,
        x.below (m * j) j,
        y.above (m * j) j,
      ))

  but_for_units : (x y : Real)
      → ((n : ℕ) → AtMost N (times N (pos n) x) (N.plus (times N (pos n) y) N.unit)) → AtMost N x y
  but_for_units x y each = R.decides x y (
    suc c,
    λ j. by_lt_z (y.near j +ℤ pos (suc c)) (x.near j)
        (λ far. absurd (never j far)) (λ le. le),
  )
    where
      c : ℕ
      c = x.error + y.error

      spread : (j m : ℕ) → pos (suc j) *ℤ pos m ≡ pos (m * j) +ℤ pos m
      spread j m = omega (arith, ints)

      never : (j : ℕ) → (y.near j +ℤ pos (suc c)) <ℤ x.near j → ⊥
      never j far =
          let q = pos (suc j) in
          let b = R.at_most (times N q x) (N.plus (times N q y) N.unit) (each (suc j)) in
          let m = suc (b.0 + c) in
          let i = m * j in
          let low = multiples_low x y m j in
          let steep = mul-leℤ (pos m) (pos c +ℤ pos 1 +ℤ pos 1) (x.near j -ℤ y.near j) (omega (arith, linear))
          (omega (arith, linear, far)) in
          let high : pos m ≤ℤ (x.near i -ℤ y.near i) = omega (products, low, steep) in
          let wide = mul-leℤ q (pos m) (x.near i -ℤ y.near i) (omega (arith, linear)) high in
          omega (
            products,
            wide,
            spread j m,
            b.1 i,
            times_near N R q x i,
            R.plus (times N q y) N.unit i,
            times_near N R q y i,
            R.unit i,
          )

  -- ---- an additive change that keeps the order

  module _ (f : Real → Real) (h : Keeps N f) where
    of_equal : {a b : Real} → Equal N a b → Equal N (f a) (f b)
    of_equal {a} {b} e = (h.keeps a b e.0, h.keeps b a e.1)

    of_zero : Equal N (f N.zero) N.zero
    of_zero =
        let z = f N.zero in
        let twice = chain N L (turn N L (h.adds N.zero N.zero)) (of_equal (L.neutral N.zero)) in
        chain N L (turn N L (chain N L (L.associates z z (N.minus z))
        (chain N L (right N L z (L.inverse z)) (L.neutral z))))
        (chain N L (left N L (N.minus z) twice) (L.inverse z))

    of_multiple : (k : ℕ) (a : Real) → Equal N (f (multiple N k a)) (multiple N k (f a))
    of_multiple zero a = of_zero
    of_multiple (suc k) a = chain N L (h.adds (multiple N k a) a) (left N L (f a) (of_multiple k a))

    of_minus : (a : Real) → Equal N (f (N.minus a)) (N.minus (f a))
    of_minus a =
        is_minus N L (f a) (f (N.minus a))
        (chain N L (turn N L (h.adds a (N.minus a))) (chain N L (of_equal (L.inverse a)) of_zero))

    of_times : (z : ℤ) (a : Real) → Equal N (f (times N z a)) (times N z (f a))
    of_times (pos k) a = of_multiple k a
    of_times (negsuc k) a =
        chain N L (of_minus (multiple N (suc k) a)) (minus-equal N L (of_multiple (suc k) a))

    module _ (one : Equal N (f N.unit) N.unit) where
      fixed : (m : ℤ) → Equal N (f (times N m N.unit)) (times N m N.unit)
      fixed m = chain N L (of_times m N.unit) (times-equal N L m one)

      unit_more : (m : ℤ) → Equal N (times N (m +ℤ pos 1) N.unit) (N.plus (times N m N.unit) N.unit)
      unit_more m =
          chain N L (times-add N L m (pos 1) N.unit) (right N L (times N m N.unit) (times-one N L N.unit))

      -- both are between the same multiples of the unit
      near_both : (b c : Real) (m : ℤ) → AtMost N b (times N (m +ℤ pos 1) N.unit) → AtMost N (times N m N.unit) c
          → AtMost N b (N.plus c N.unit)
      near_both b c m high low =
          through N L high
          (through N L (unit_more m).0
          (plus-at_most N L (times N m N.unit) c N.unit N.unit low (at_most-same N L N.unit)))

      module _ (a : Real) (n : ℕ) where
        abbrev m : ℤ
        m = (place N R N.unit 1 (times-one N L N.unit).1 a n).0

        goes : Goes N R N.unit 1 (times-one N L N.unit).1 m (times N (pos n) a)
        goes = placed N R N.unit 1 (times-one N L N.unit).1 a n

        changed_low : AtMost N (times N m N.unit) (times N (pos n) (f a))
        changed_low =
            through N L (fixed m).1
            (through N L (h.keeps (times N m N.unit) (times N (pos n) a) goes.0) (of_times (pos n) a).0)

        changed_high : AtMost N (times N (pos n) (f a)) (times N (m +ℤ pos 1) N.unit)
        changed_high =
            let top = times N (m +ℤ pos 1) N.unit in
            through N L (of_times (pos n) a).1
            (through N L
            (h.keeps (times N (pos n) a) top (from_less N L (times N (pos n) a) top goes.1)) (fixed (m +ℤ pos 1)).0)

        first : AtMost N (times N (pos n) (f a)) (N.plus (times N (pos n) a) N.unit)
        first = near_both (times N (pos n) (f a)) (times N (pos n) a) m changed_high goes.0

        second : AtMost N (times N (pos n) a) (N.plus (times N (pos n) (f a)) N.unit)
        second =
            let top = times N (m +ℤ pos 1) N.unit in
            near_both (times N (pos n) a) (times N (pos n) (f a)) m (from_less N L (times N (pos n) a) top goes.1)
            changed_low

      changes_nothing : (a : Real) → Equal N (f a) a
      changes_nothing a = (but_for_units (f a) a (first a), but_for_units a (f a) (second a))

  -- ---- over a number, and back

  over_keeps : (r : Real) (k : ℕ) (some : AtMost N N.unit (times N (pos k) r)) → Keeps N (quotient N R r k some)
  over_keeps r k some = record { adds = quotient_adds N R r k some; keeps = quotient_keeps N R r k some }

  both_keep : (f h : Real → Real) → Keeps N f → Keeps N h → Keeps N (λ a. f (h a))
  both_keep f h p q = record {
    adds = λ a b. chain N L (of_equal f p (q.adds a b)) (p.adds (h a) (h b));
    keeps = λ a b le. p.keeps (h a) (h b) (q.keeps a b le);
  }

  -- 1 over r isn't too small either
  one_over : (r : Real) (k : ℕ) (some : AtMost N N.unit (times N (pos k) r))
      → AtMost N N.unit (times N (pos (size N R r)) (quotient N R r k some N.unit))
  one_over r k some =
      let z = pos (size N R r) in
      let f = quotient N R r k some in
      through N L (quotient_one N R r k some).1
      (through N L (quotient_keeps N R r k some r (times N z N.unit) (below_units N R r))
      (of_times f (over_keeps r k some) z N.unit).0)

pub factors_are_changes : FactorsAreChanges
factors_are_changes N r k R some =
    let L = are_ordered N R in
    let back = quotient N R r k some in
    let s = back N.unit in
    let more = one_over N R r k some in
    let to = quotient N R s (size N R r) more in
    let p = over_keeps N R s (size N R r) more in
    let q = over_keeps N R r k some in
    let there = changes_nothing N R (λ a. to (back a)) (both_keep N R to back p q)
    (quotient_one N R s (size N R r) more) in
    let is : Equal N (to N.unit) r = chain N L (of_equal N R to p (turn N L (quotient_one N R r k some))) (there r) in
    let again = changes_nothing N R (λ a. back (to a)) (both_keep N R back to q p)
    (chain N L (of_equal N R back q is) (quotient_one N R r k some)) in (
      to,
      back,
      record { adds = p.adds; keeps = p.keeps; keeps_back = q.keeps; there = there; again = again },
      is,
    )

-- ---- one change for each unit

module _ (N : Numbers Real) (R : AreReals N) (to back : Real → Real) (h : IsUnitChange N to back) where
  to_keeps : Keeps N to
  to_keeps = record { adds = h.adds; keeps = h.keeps }

  of_equal_back : {a b : Real} → Equal N a b → Equal N (back a) (back b)
  of_equal_back {a} {b} e = (h.keeps_back a b e.0, h.keeps_back b a e.1)

  -- the change back is additive too
  back_adds : (a b : Real) → Equal N (back (N.plus a b)) (N.plus (back a) (back b))
  back_adds a b =
      let L = are_ordered N R in
      let parts = chain N L (h.adds (back a) (back b))
      (chain N L (left N L (to (back b)) (h.there a)) (right N L a (h.there b))) in
      chain N L (of_equal_back (turn N L parts)) (h.again (N.plus (back a) (back b)))

  back_keeps : Keeps N back
  back_keeps = record { adds = back_adds; keeps = h.keeps_back }

pub changes_are_one : ChangesAreOne
changes_are_one N to back other other_back R h k one a =
    let L = are_ordered N R in
    let p = to_keeps N R to back h in
    let q = back_keeps N R other other_back k in
    let unit = chain N L (of_equal_back N R other other_back k one) (k.again N.unit) in
    let nothing = changes_nothing N R (λ b. other_back (to b)) (both_keep N R other_back to q p) unit a in
    chain N L (turn N L (k.there (to a)))
    (of_equal N R other (to_keeps N R other other_back k) nothing)
