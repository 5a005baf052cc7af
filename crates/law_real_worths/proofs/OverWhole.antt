-- Each real number over a whole number is a real number: each of its multiples over that number, rounded down.
use Rattle.std.proofs.Common.{◌≡◌, ℕ, suc, ◌+◌, ◌/◌, ℤ, pos, negsuc, ◌+ℤ◌, ◌-ℤ◌, ◌*ℤ◌, ◌≤ℤ◌, neg_ℤ}
use Rattle.std.proofs.Common.{sym, ap, ◌∙◌, arith}
use Rattle.std.proofs.Math.Nat.{lt-div-mul-add, div-mul-le_self}
use Rattle.std.proofs.lemmas.Int.{ints}
use Rattle.definitions.proofs.Ring.{linear, mul-addℤ, suc-mulℤ, neg-mulℤ, mul-nonnegativeℤ}
use Rattle.definitions.proofs.Ring.{mul-le_cancelℤ}
use Rattle.theorems.proofs.Products.{products}
use Rattle.real_shares.specs.Numbers.{Numbers, IsOrderedGroup, Equal, multiple, times}
use Rattle.real_shares.specs.Reals.{Real, AreReals}
use Rattle.real_shares.proofs.Quotients.{multiple-near}
use Rattle.real_shares.proofs.RealNumbers.{are_ordered}

-- ---- an integer over r + 1, rounded down

abbrev pub floor : ℕ → ℤ → ℤ
floor r (pos k) = pos (k / suc r)
floor r (negsuc k) = negsuc (k / suc r)

pub floor_low : (r : ℕ) (z : ℤ) → (pos (suc r) *ℤ floor r z) ≤ℤ z
floor_low r (pos k) = omega (arith, ints, div-mul-le_self k (suc r))
floor_low r (negsuc k) = omega (arith, ints, lt-div-mul-add {a = k} {b = suc r} (omega arith))

pub floor_high : (r : ℕ) (z : ℤ) → z ≤ℤ (pos (suc r) *ℤ floor r z +ℤ pos r)
floor_high r (pos k) = omega (arith, ints, lt-div-mul-add {a = k} {b = suc r} (omega arith))
floor_high r (negsuc k) = omega (arith, ints, div-mul-le_self k (suc r))

-- an error isn't more than so many times as much
pub more : (r e : ℕ) → pos e ≤ℤ (pos (suc r) *ℤ pos e)
more r e =
    let low = mul-nonnegativeℤ (pos r) (pos e) (omega (arith, linear)) (omega (arith, linear)) in
    omega (arith, linear, suc-mulℤ r (pos e), low)

abbrev pub over : ℕ → Real → Real
over r c = record {
  near = λ n. floor r (c.near n);
  error = c.error + 2;
  above = λ m n. up (c.near (m + n)) (c.near m) (c.near n) c.error (c.above m n);
  below = λ m n. down (c.near (m + n)) (c.near m) (c.near n) c.error (c.below m n);
}
  where
    up : (z x y : ℤ) (e : ℕ) → z ≤ℤ (x +ℤ y +ℤ pos e) → floor r z ≤ℤ (floor r x +ℤ floor r y +ℤ pos (e + 2))
    up z x y e le =
        mul-le_cancelℤ (pos (suc r)) (floor r z) (floor r x +ℤ floor r y +ℤ pos (e + 2)) (omega (arith, linear))
        (omega (products, le, floor_low r z, floor_high r x, floor_high r y, more r e, suc-mulℤ r (pos 2)))

    down : (z x y : ℤ) (e : ℕ) → (x +ℤ y) ≤ℤ (z +ℤ pos e) → (floor r x +ℤ floor r y) ≤ℤ (floor r z +ℤ pos (e + 2))
    down z x y e le =
        mul-le_cancelℤ (pos (suc r)) (floor r x +ℤ floor r y) (floor r z +ℤ pos (e + 2)) (omega (arith, linear))
        (omega (products, le, floor_high r z, floor_low r x, floor_low r y, more r e, suc-mulℤ r (pos 2)))

module _ (N : Numbers Real) (R : AreReals N) where
  abbrev L : IsOrderedGroup N
  L = are_ordered N R

  pub times_near : (z : ℤ) (a : Real) (n : ℕ) → (times N z a).near n ≡ z *ℤ a.near n
  times_near (pos k) a n = multiple-near N R k a n
  times_near (negsuc k) a n =
      R.minus (multiple N (suc k) a) n ∙ ap (λ z. pos 0 -ℤ z) (multiple-near N R (suc k) a n)
      ∙ negated k (a.near n)
    where
      negated : (k : ℕ) (z : ℤ) → pos 0 -ℤ pos (suc k) *ℤ z ≡ negsuc k *ℤ z
      negated k z =
          let e : negsuc k ≡ neg_ℤ (pos (suc k)) = omega (arith, linear) in
          omega (arith, linear, neg-mulℤ (pos (suc k)) z, ap (λ w. w *ℤ z) e)

  pub equal_near : (a b : Real) → ((n : ℕ) → a.near n ≡ b.near n) → Equal N a b
  equal_near a b e =
      (R.decides a b (0, λ n. omega (arith, linear, e n)), R.decides b a (0, λ n. omega (arith, linear, e n)))

  -- r + 1 of it are the number
  pub over_times : (r : ℕ) (a : Real) → Equal N (times N (pos (suc r)) (over r a)) a
  over_times r a =
      let b = times N (pos (suc r)) (over r a) in (
        R.decides b a (0, λ n. omega (arith, linear, times_near (pos (suc r)) (over r a) n, floor_low r (a.near n))),
        R.decides a b (r, λ n. omega (arith, linear, times_near (pos (suc r)) (over r a) n, floor_high r (a.near n))),
      )

  pub times_plus : (z : ℤ) (a b : Real) → Equal N (times N z (N.plus a b)) (N.plus (times N z a) (times N z b))
  times_plus z a b =
      equal_near (times N z (N.plus a b)) (N.plus (times N z a) (times N z b))
      (λ n. times_near z (N.plus a b) n ∙ ap (◌*ℤ◌ z) (R.plus a b n) ∙ mul-addℤ z (a.near n) (b.near n)
      ∙ sym (R.plus (times N z a) (times N z b) n ∙ by_both n))
    where
      by_both : (n : ℕ) → (times N z a).near n +ℤ (times N z b).near n ≡ z *ℤ a.near n +ℤ z *ℤ b.near n
      by_both n = omega (arith, linear, times_near z a n, times_near z b n)
