-- A real number above zero as a change of the unit. How often r goes into the multiples of a number is a real number,
-- that number over r. This is additive, keeps the order, and is 1 for r itself.
use Rattle.std.proofs.Common.{◌≡◌, ℕ, zero, suc, ◌+◌, ◌*◌, Bool, true, false, ℤ, pos, neg_ℤ, ◌+ℤ◌, ◌*ℤ◌, ◌≤ℤ◌}
use Rattle.std.proofs.Common.{unsigned_abs, sym, ap, subst, ◌∙◌, inl, inr, arith}
use Rattle.std.proofs.lemmas.Bool.{false≢true}
use Rattle.std.proofs.lemmas.Int.{by_lt_z, ints}
use Rattle.definitions.proofs.Cases.{true_or_false}
use Rattle.definitions.proofs.Ring.{linear, mul_assocℤ}
use Rattle.theorems.proofs.Products.{products}
use Rattle.real_shares.specs.Numbers.{Numbers, IsOrderedGroup, AtMost, Less, Equal, times}
use Rattle.real_shares.specs.Reals.{Real, AreReals}
use Rattle.real_shares.proofs.Orders.{at_most-same, from_less}
use Rattle.real_shares.proofs.Multiples.{chain, back as turn, equal_path, plus-at_most, times-keeps}
use Rattle.real_shares.proofs.Multiples.{times-add, times-equal, times-one, times-zero, added-low, minus-at_most}
use Rattle.real_shares.proofs.Multiples.{through}
use Rattle.real_shares.proofs.RealNumbers.{are_ordered}
use Rattle.law_real_worths.proofs.OverWhole.{times_near, equal_near, times_plus}
use Rattle.law_real_worths.proofs.Joined.{off}
use Rattle.law_real_worths.proofs.SmallSteps.{times_more}

-- the last number that passes
find : (test : ℤ → Bool) (lo : ℤ) (d : ℕ) → test lo ≡ true → test (lo +ℤ pos d) ≡ false
    → (m : ℤ) × (test m ≡ true) × (test (m +ℤ pos 1) ≡ false)
find test lo zero here past =
    let e : lo +ℤ pos 0 ≡ lo = omega (arith, linear) in
    absurd (false≢true (sym past ∙ ap test e ∙ here))
find test lo (suc d) here past = elim (true_or_false (test (lo +ℤ pos 1))) [
  | inr fails ↦ (lo, here, fails)
  | inl passes ↦
      let e : (lo +ℤ pos 1) +ℤ pos d ≡ lo +ℤ pos (suc d) = omega (arith, linear) in
      find test (lo +ℤ pos 1) d passes (ap test e ∙ past)
]

module _ (N : Numbers Real) (R : AreReals N) where
  abbrev L : IsOrderedGroup N
  L = are_ordered N R

  times_times : (p q : ℤ) (a : Real) → Equal N (times N p (times N q a)) (times N (p *ℤ q) a)
  times_times p q a =
      equal_near N R (times N p (times N q a)) (times N (p *ℤ q) a)
      (λ n. times_near N R p (times N q a) n ∙ ap (◌*ℤ◌ p) (times_near N R q a n)
      ∙ sym (times_near N R (p *ℤ q) a n ∙ mul_assocℤ p q (a.near n)))

  -- a real number isn't above some multiple of the unit
  abbrev pub size : Real → ℕ
  size a = unsigned_abs (a.near 1) + a.error

  upper : (a : Real) (n : ℕ) → a.near n ≤ℤ (pos (size a) *ℤ pos n +ℤ pos (unsigned_abs (a.near 0)))
  upper a zero = omega (arith, ints)
  upper a (suc n) =
      let e : suc n ≡ n + 1 = omega arith in
      let first : a.near 1 ≤ℤ pos (unsigned_abs (a.near 1)) = omega (arith, ints) in
      let next : pos (size a) *ℤ pos (suc n) ≡ pos (size a) *ℤ pos n +ℤ pos (size a) = grown (pos (size a)) n in
      subst (λ (m : ℕ). a.near m ≤ℤ (pos (size a) *ℤ pos (suc n) +ℤ pos (unsigned_abs (a.near 0)))) (sym e)
      (omega (arith, linear, upper a n, a.above n 1, first, next))
    where
      grown : (c : ℤ) (n : ℕ) → c *ℤ pos (suc n) ≡ c *ℤ pos n +ℤ c
      grown c n =
          let e : pos (suc n) ≡ pos n +ℤ pos 1 = omega (arith, linear) in
          omega (products, ap (◌*ℤ◌ c) e)

  pub below_units : (a : Real) → AtMost N a (times N (pos (size a)) N.unit)
  below_units a =
      R.decides a (times N (pos (size a)) N.unit) (
        unsigned_abs (a.near 0),
        λ n.
            omega (
              arith,
              linear,
              upper a n,
              times_near N R (pos (size a)) N.unit n,
              ap (◌*ℤ◌ (pos (size a))) (R.unit n),
            ),
      )

  module _ (r : Real) (k : ℕ) (some : AtMost N N.unit (times N (pos k) r)) where
    positive : Less N N.zero r
    positive le =
        L.positive (through N L some
        (through N L (times-keeps N L (pos k) r N.zero (omega (arith, linear)) le) (times-zero N L (pos k)).0))

    low : AtMost N N.zero r
    low = from_less N L N.zero r positive

    factor_order : (u v : ℤ) → AtMost N (times N u r) (times N v r) → u ≤ℤ v
    factor_order u v h =
        by_lt_z v u
        (λ lt.
        let t = times N v r in
        let one = times N (pos 1) r in
        let more = times_more N L (v +ℤ pos 1) u r low (omega (arith, linear, lt)) in
        let high = through N L (times-add N L v (pos 1) r).1 (through N L more h) in
        absurd
        (positive (through N L (times-one N L r).1 (added-low N L t one high))))
        (λ le. le)

    -- n times a isn't above so many r
    abbrev most : Real → ℕ → ℕ
    most a n = n * (size a * k)

    below_most : (a : Real) (n : ℕ) → AtMost N (times N (pos n) a) (times N (pos (most a n)) r)
    below_most a n =
        let s = pos (size a) in
        through N L (times-keeps N L (pos n) a (times N s N.unit) (omega (arith, linear)) (below_units a))
        (through N L
        (times-keeps N L (pos n) (times N s N.unit) (times N s (times N (pos k) r)) (omega (arith, linear))
        (times-keeps N L s N.unit (times N (pos k) r) (omega (arith, linear)) some))
        (chain N L (times-equal N L (pos n) (times_times s (pos k) r))
        (chain N L (times_times (pos n) (s *ℤ pos k) r)
        (equal_path N L (times N (pos n *ℤ (s *ℤ pos k)) r) (times N (pos (most a n)) r)
        (ap (λ (z : ℤ). times N z r) (factors n (size a) k))))).0)
      where
        factors : (n s k : ℕ) → pos n *ℤ (pos s *ℤ pos k) ≡ pos (n * (s * k))
        factors n s k = omega (arith, ints)

    -- ---- how often r goes into n times a

    abbrev goes : Real → ℕ → ℤ → Bool
    goes a n m = N.at_most (times N m r) (times N (pos n) a)

    least_goes : (a : Real) (n : ℕ) → goes a n (neg_ℤ (pos (most (N.minus a) n))) ≡ true
    least_goes a n =
        let q = pos (most (N.minus a) n) in
        let first = equal_near N R (times N (neg_ℤ q) r) (N.minus (times N q r))
        (λ j. times_near N R (neg_ℤ q) r j ∙ omega (products, R.minus (times N q r) j, times_near N R q r j)) in
        let last = equal_near N R (N.minus (times N (pos n) (N.minus a))) (times N (pos n) a)
        (λ j. R.minus (times N (pos n) (N.minus a)) j
        ∙ omega (
          products,
          times_near N R (pos n) (N.minus a) j,
          ap (◌*ℤ◌ (pos n)) (R.minus a j),
          times_near N R (pos n) a j,
        )) in
        through N L first.0
        (through N L
        (minus-at_most N L (times N (pos n) (N.minus a)) (times N q r) (below_most (N.minus a) n)) last.0)

    pub place : (a : Real) (n : ℕ) → (m : ℤ) × (goes a n m ≡ true) × (goes a n (m +ℤ pos 1) ≡ false)
    place a n =
        find (goes a n) (neg_ℤ (pos (most (N.minus a) n))) (most (N.minus a) n + suc (most a n)) (least_goes a n)
        (elim (true_or_false
        (goes a n (neg_ℤ (pos (most (N.minus a) n)) +ℤ pos (most (N.minus a) n + suc (most a n))))) [
          | inr fails ↦ fails
          | inl passes ↦ absurd
              (let few = factor_order (neg_ℤ (pos (most (N.minus a) n)) +ℤ pos (most (N.minus a) n + suc (most a n)))
              (pos (most a n)) (through N L passes (below_most a n)) in
              omega (arith, linear, few))
        ])

    -- x is how often r goes into b
    abbrev pub Goes : ℤ → Real → Type 0
    Goes x b = AtMost N (times N x r) b × ¬ AtMost N (times N (x +ℤ pos 1) r) b

    pub placed : (a : Real) (n : ℕ) → Goes (place a n).0 (times N (pos n) a)
    placed a n = ((place a n).1, λ le. false≢true (sym (place a n).2 ∙ le))

    gap : (u v : ℤ) (b c : Real) → AtMost N (times N u r) b → AtMost N b c → (¬ AtMost N (times N v r) c)
        → (u +ℤ pos 1) ≤ℤ v
    gap u v b c first le last =
        by_lt_z u v (λ lt. omega (arith, linear, lt))
        (λ less. absurd (last (through N L (times_more N L v u r low less) (through N L first le))))

    pub sums : (b c d : Real) (x y z : ℤ) → Goes x b → Goes y c → Goes z d → Equal N (N.plus b c) d
        → (z ≤ℤ (x +ℤ y +ℤ pos 1)) × ((x +ℤ y) ≤ℤ z)
    sums b c d x y z hx hy hz e = (omega (arith, linear, over_both), omega (arith, linear, under))
      where
        under : (x +ℤ y +ℤ pos 1) ≤ℤ (z +ℤ pos 1)
        under =
            gap (x +ℤ y) (z +ℤ pos 1) (N.plus b c) d
            (through N L (times-add N L x y r).0 (plus-at_most N L (times N x r) b (times N y r) c hx.0 hy.0)) e.0 hz.1

        over_both : (z +ℤ pos 1) ≤ℤ ((x +ℤ pos 1) +ℤ (y +ℤ pos 1))
        over_both =
            let p = times N (x +ℤ pos 1) r in
            let q = times N (y +ℤ pos 1) r in
            gap z ((x +ℤ pos 1) +ℤ (y +ℤ pos 1)) d (N.plus b c) hz.0 e.1
            (λ le. hy.1
            (off N L q c b
            (through N L (L.commutes q b).0
            (through N L (L.shifts b p q (from_less N L b p hx.1))
            (through N L (times-add N L (x +ℤ pos 1) (y +ℤ pos 1) r).1
            (through N L le (L.commutes b c).0))))))

    -- a over r
    abbrev pub quotient : Real → Real
    quotient a = record {
      near = λ n. (place a n).0;
      error = 1;
      above = λ m n. (both a m n).0;
      below = λ m n. (let h = both a m n in omega (arith, linear, h.1));
    }
      where
        both : (a : Real) (m n : ℕ)
            → ((place a (m + n)).0 ≤ℤ ((place a m).0 +ℤ (place a n).0 +ℤ pos 1))
            × (((place a m).0 +ℤ (place a n).0) ≤ℤ (place a (m + n)).0)
        both a m n =
            let e : pos m +ℤ pos n ≡ pos (m + n) = omega (arith, linear) in
            sums (times N (pos m) a) (times N (pos n) a) (times N (pos (m + n)) a) (place a m).0 (place a n).0
            (place a (m + n)).0 (placed a m) (placed a n) (placed a (m + n))
            (chain N L (turn N L (times-add N L (pos m) (pos n) a))
            (equal_path N L (times N (pos m +ℤ pos n) a) (times N (pos (m + n)) a)
            (ap (λ (z : ℤ). times N z a) e)))

    pub quotient_adds : (a b : Real) → Equal N (quotient (N.plus a b)) (N.plus (quotient a) (quotient b))
    quotient_adds a b =
        let each = λ (n : ℕ). sums (times N (pos n) a) (times N (pos n) b) (times N (pos n) (N.plus a b)) (place a n).0
        (place b n).0 (place (N.plus a b) n).0 (placed a n) (placed b n) (placed (N.plus a b) n)
        (turn N L (times_plus N R (pos n) a b)) in (
          R.decides (quotient (N.plus a b)) (N.plus (quotient a) (quotient b))
              (1, λ n. omega (arith, linear, (each n).0, R.plus (quotient a) (quotient b) n)),
          R.decides (N.plus (quotient a) (quotient b)) (quotient (N.plus a b))
              (0, λ n. omega (arith, linear, (each n).1, R.plus (quotient a) (quotient b) n)),
        )

    pub quotient_keeps : (a b : Real) → AtMost N a b → AtMost N (quotient a) (quotient b)
    quotient_keeps a b le =
        R.decides (quotient a) (quotient b) (
          0,
          λ n.
              let h = gap (place a n).0 ((place b n).0 +ℤ pos 1) (times N (pos n) a) (times N (pos n) b) (placed a n).0
              (times-keeps N L (pos n) a b (omega (arith, linear)) le) (placed b n).1 in
              omega (arith, linear, h),
        )

    pub quotient_one : Equal N (quotient r) N.unit
    quotient_one =
        let high = λ (n : ℕ). factor_order (place r n).0 (pos n) (placed r n).0 in
        let least = λ (n : ℕ). gap (pos n) ((place r n).0 +ℤ pos 1) (times N (pos n) r) (times N (pos n) r)
        (at_most-same N L (times N (pos n) r)) (at_most-same N L (times N (pos n) r)) (placed r n).1 in (
          R.decides (quotient r) N.unit (0, λ n. omega (arith, linear, high n, R.unit n)),
          R.decides N.unit (quotient r) (0, λ n. omega (arith, linear, least n, R.unit n)),
        )
