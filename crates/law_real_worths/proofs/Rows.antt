-- Linear inequalities with whole coefficients and real constants, by eliminating one unknown after the other (Fourier
-- 1826; Motzkin 1936). If some point meets all, one has the least unknown 0, or one below a bound.
use Rattle.std.proofs.Common.{◌≡◌, ◌≢◌, ℕ, zero, suc, ◌-◌, List, ℤ, pos, neg_ℤ, ◌+ℤ◌}
use Rattle.std.proofs.Common.{◌*ℤ◌, ◌<ℤ◌, unsigned_abs, Bool, IsTrue, nat_eq, refl, sym, ap, subst, ◌∙◌, arith}
use Rattle.std.proofs.Common.{if◌then◌else◌}
use Rattle.std.proofs.lemmas.Int.{ints}
use Rattle.definitions.proofs.Cases.{nat_eq-same, nat_eq-other}
use Rattle.definitions.proofs.Members.{sum_below-same}
use Rattle.definitions.proofs.Ring.{linear}
use Rattle.law_duality.proofs.BySign.{BySign}
use Rattle.law_duality.proofs.Elimination.{value_at, value_combined}
use Rattle.theorems.proofs.Products.{products, sorted_products}
use Rattle.real_shares.specs.Numbers.{Numbers, IsOrderedGroup, AtMost, Equal, times, total_below}
use Rattle.real_shares.specs.Reals.{Real, AreReals}
use Rattle.real_shares.proofs.Orders.{at_most-same}
use Rattle.real_shares.proofs.Multiples.{chain, back, through, plus-at_most, left, right, times-keeps}
use Rattle.real_shares.proofs.Multiples.{times-cancel, times-equal, times-zero}
use Rattle.real_shares.proofs.RealNumbers.{are_ordered}
use Rattle.law_real_worths.proofs.OverWhole.{over, over_times, times_near, equal_near, times_plus}

-- a coefficient for each unknown, and a constant
pub record Row : Type 0 where
  pub coefficient : ℕ → ℤ
  pub constant : Real

-- ---- the rows by the sign of a coefficient

-- the row passes the test
abbrev pub Passes : (Row → Bool) → Row → Type 0
Passes test u = IsTrue (test u)

abbrev pub Parts : ℕ → (Row → Type 0) → List Row → Type 0
Parts m C us = BySign (λ (u : Row). u.coefficient m) C Passes us

module _ (N : Numbers Real) (R : AreReals N) where
  abbrev L : IsOrderedGroup N
  L = are_ordered N R

  -- ---- values

  abbrev pub value : ℕ → (ℕ → Real) → Row → Real
  value m z u = N.plus u.constant (total_below N m (λ i. times N (u.coefficient i) (z i)))

  abbrev pub Meets : ℕ → (ℕ → Real) → Row → Type 0
  Meets m z u = AtMost N N.zero (value m z u)

  total_near : (m : ℕ) (z : ℕ → Real) (c : ℕ → ℤ) (k : ℕ)
      → (total_below N m (λ i. times N (c i) (z i))).near k ≡ value_at m (λ i. (z i).near k) c
  total_near zero z c k = R.zero k
  total_near (suc m) z c k =
      R.plus (total_below N m (λ i. times N (c i) (z i))) (times N (c m) (z m)) k
      ∙ ap (λ w. w +ℤ (times N (c m) (z m)).near k) (total_near m z c k)
      ∙ ap (λ w. value_at m (λ i. (z i).near k) c +ℤ w) (times_near N R (c m) (z m) k)

  pub value_near : (m : ℕ) (z : ℕ → Real) (u : Row) (k : ℕ)
      → (value m z u).near k ≡ u.constant.near k +ℤ value_at m (λ i. (z i).near k) u.coefficient
  value_near m z u k =
      R.plus u.constant (total_below N m (λ i. times N (u.coefficient i) (z i))) k
      ∙ ap (λ w. u.constant.near k +ℤ w) (total_near m z u.coefficient k)

  -- a times one row and b times another
  abbrev pub combined : ℤ → ℤ → Row → Row → Row
  combined a b u v = record {
    coefficient = λ i. a *ℤ u.coefficient i +ℤ b *ℤ v.coefficient i;
    constant = N.plus (times N a u.constant) (times N b v.constant);
  }

  pub value_of_both : (m : ℕ) (z : ℕ → Real) (a b : ℤ) (u v : Row)
      → Equal N (value m z (combined a b u v)) (N.plus (times N a (value m z u)) (times N b (value m z v)))
  value_of_both m z a b u v =
      equal_near N R (value m z (combined a b u v)) (N.plus (times N a (value m z u)) (times N b (value m z v)))
      (λ k.
      value_near m z (combined a b u v) k
      ∙ omega (
        sorted_products,
        constants k,
        value_combined m (λ i. (z i).near k) a b u.coefficient v.coefficient,
        ap (◌*ℤ◌ a) (value_near m z u k),
        ap (◌*ℤ◌ b) (value_near m z v k),
      )
      ∙ sym (R.plus (times N a (value m z u)) (times N b (value m z v)) k ∙ both k))
    where
      constants : (k : ℕ)
          → (N.plus (times N a u.constant) (times N b v.constant)).near k
          ≡ a *ℤ u.constant.near k +ℤ b *ℤ v.constant.near k
      constants k =
          R.plus (times N a u.constant) (times N b v.constant) k
          ∙ omega (arith, linear, times_near N R a u.constant k, times_near N R b v.constant k)

      both : (k : ℕ)
          → (times N a (value m z u)).near k +ℤ (times N b (value m z v)).near k
          ≡ a *ℤ (value m z u).near k +ℤ b *ℤ (value m z v).near k
      both k = omega (arith, linear, times_near N R a (value m z u) k, times_near N R b (value m z v) k)

  -- an unknown without coefficient doesn't count
  pub value_without : (m : ℕ) (z : ℕ → Real) (u : Row) → u.coefficient m ≡ pos 0
      → Equal N (value (suc m) z u) (value m z u)
  value_without m z u e =
      equal_near N R (value (suc m) z u) (value m z u)
      (λ k.
      value_near (suc m) z u k
      ∙ omega (products, value_near m z u k, ap (λ (c : ℤ). c *ℤ (z m).near k) e))

  -- the value with one more unknown
  abbrev pub longer : ℕ → Real → (ℕ → Real) → ℕ → Real
  longer m c z i = if nat_eq i m then c else z i

  pub longer_same : (m : ℕ) (c : Real) (z : ℕ → Real) → longer m c z m ≡ c
  longer_same m c z = rw (nat_eq-same m) refl

  pub longer_other : (m : ℕ) (c : Real) (z : ℕ → Real) (i : ℕ) → i ≢ m → longer m c z i ≡ z i
  longer_other m c z i ne = rw (nat_eq-other i m ne) refl

  abbrev pub with : ℕ → (ℕ → Real) → Real → Row → Real
  with m z c u = N.plus (value m z u) (times N (u.coefficient m) c)

  pub value_longer : (m : ℕ) (c : Real) (z : ℕ → Real) (u : Row)
      → Equal N (value (suc m) (longer m c z) u) (with m z c u)
  value_longer m c z u =
      equal_near N R (value (suc m) (longer m c z) u) (with m z c u)
      (λ k.
      let low = sum_below-same m (λ i. u.coefficient i *ℤ (longer m c z i).near k)
      (λ i. u.coefficient i *ℤ (z i).near k)
      (λ i h. ap (λ (w : Real). u.coefficient i *ℤ w.near k) (longer_other m c z i (λ e. omega arith))) in
      let here : (longer m c z m).near k ≡ c.near k = ap (λ (w : Real). w.near k) (longer_same m c z) in
      value_near (suc m) (longer m c z) u k
      ∙ omega (
        arith,
        linear,
        low,
        ap (◌*ℤ◌ (u.coefficient m)) here,
        value_near m z u k,
        times_near N R (u.coefficient m) c k,
      )
      ∙ sym (R.plus (value m z u) (times N (u.coefficient m) c) k))

  -- ---- a number for the next unknown

  -- by the size of a coefficient that isn't 0
  size_of : (a : ℤ) → pos 0 <ℤ a → pos (suc (unsigned_abs a - 1)) ≡ a
  size_of a up = omega (arith, ints)

  size_under : (a : ℤ) → a <ℤ pos 0 → pos (suc (unsigned_abs a - 1)) ≡ neg_ℤ a
  size_under a down = omega (arith, ints)

  -- what unknown m is at least, and at most
  abbrev pub bound_below : ℕ → (ℕ → Real) → Row → Real
  bound_below m z u = over (unsigned_abs (u.coefficient m) - 1) (N.minus (value m z u))

  abbrev pub bound_above : ℕ → (ℕ → Real) → Row → Real
  bound_above m z u = over (unsigned_abs (u.coefficient m) - 1) (value m z u)

  pub below_times : (m : ℕ) (z : ℕ → Real) (u : Row) → pos 0 <ℤ u.coefficient m
      → Equal N (times N (u.coefficient m) (bound_below m z u)) (N.minus (value m z u))
  below_times m z u up =
      subst (λ (a : ℤ). Equal N (times N a (bound_below m z u)) (N.minus (value m z u)))
      (size_of (u.coefficient m) up)
      (over_times N R (unsigned_abs (u.coefficient m) - 1) (N.minus (value m z u)))

  above_times : (m : ℕ) (z : ℕ → Real) (u : Row) → u.coefficient m <ℤ pos 0
      → Equal N (times N (neg_ℤ (u.coefficient m)) (bound_above m z u)) (value m z u)
  above_times m z u down =
      subst (λ (a : ℤ). Equal N (times N a (bound_above m z u)) (value m z u))
      (size_under (u.coefficient m) down)
      (over_times N R (unsigned_abs (u.coefficient m) - 1) (value m z u))

  -- where minus v is at most t, v + t isn't below zero
  pub low_sum : (v t : Real) → AtMost N (N.minus v) t → AtMost N N.zero (N.plus v t)
  low_sum v t le = through N L (L.inverse v).1 (plus-at_most N L v v (N.minus v) t (at_most-same N L v) le)

  pub from_low_sum : (v t : Real) → AtMost N N.zero (N.plus v t) → AtMost N (N.minus v) t
  from_low_sum v t le =
      through N L (chain N L (L.commutes N.zero (N.minus v)) (L.neutral (N.minus v))).1
      (through N L (L.shifts N.zero (N.plus v t) (N.minus v) le)
      (chain N L (left N L (N.minus v) (L.commutes v t))
      (chain N L (L.associates t v (N.minus v)) (chain N L (right N L t (L.inverse v)) (L.neutral t)))).0)

  pub met_above : (m : ℕ) (z : ℕ → Real) (u : Row) (c : Real) → pos 0 <ℤ u.coefficient m
      → AtMost N (bound_below m z u) c → AtMost N N.zero (with m z c u)
  met_above m z u c up le =
      let a = u.coefficient m in
      low_sum (value m z u) (times N a c)
      (through N L (below_times m z u up).1
      (times-keeps N L a (bound_below m z u) c (omega (arith, linear, up)) le))

  pub met_below : (m : ℕ) (z : ℕ → Real) (u : Row) (c : Real) → u.coefficient m <ℤ pos 0
      → AtMost N c (bound_above m z u) → AtMost N N.zero (with m z c u)
  met_below m z u c down le =
      let a = u.coefficient m in
      let d = neg_ℤ a in
      let v = value m z u in
      let most = through N L (times-keeps N L d c (bound_above m z u) (omega (arith, linear, down)) le)
      (above_times m z u down).0 in
      let same : Equal N (times N d c) (N.minus (times N a c)) = equal_near N R (times N d c) (N.minus (times N a c))
      (λ k.
      times_near N R d c k ∙ omega (products, R.minus (times N a c) k, times_near N R a c k)) in
      through N L (L.inverse (times N a c)).1
      (through N L (L.commutes (times N a c) (N.minus (times N a c))).0
      (L.shifts (N.minus (times N a c)) v (times N a c) (through N L same.1 most)))

  -- the greatest bound from below meets what is crossed with its row
  pub met_crossed : (m : ℕ) (z : ℕ → Real) (p q : Row) → pos 0 <ℤ p.coefficient m
      → AtMost N N.zero (value m z (combined (neg_ℤ (q.coefficient m)) (p.coefficient m) p q))
      → AtMost N N.zero (with m z (bound_below m z p) q)
  met_crossed m z p q up le =
      let a = p.coefficient m in
      let b = q.coefficient m in
      let d = neg_ℤ b in
      let c = bound_below m z p in
      let v = value m z p in
      let w = value m z q in
      let turned = equal_near N R (times N a (times N b c)) (times N b (times N a c))
      (λ k.
      times_near N R a (times N b c) k
      ∙ omega (
        sorted_products,
        ap (◌*ℤ◌ a) (times_near N R b c k),
        times_near N R b (times N a c) k,
        ap (◌*ℤ◌ b) (times_near N R a c k),
      )) in
      let negated = equal_near N R (times N b (N.minus v)) (times N d v)
      (λ k.
      times_near N R b (N.minus v) k
      ∙ omega (products, ap (◌*ℤ◌ b) (R.minus v k), times_near N R d v k)) in
      let last = chain N L turned (chain N L (times-equal N L b (below_times m z p up)) negated) in
      let whole : Equal N (times N a (with m z c q)) (value m z (combined d a p q)) = chain N L
      (times_plus N R a w (times N b c))
      (chain N L (right N L (times N a w) last)
      (chain N L (L.commutes (times N a w) (times N d v)) (back N L (value_of_both m z d a p q)))) in
      times-cancel N L a N.zero (with m z c q) up
      (through N L (times-zero N L a).0 (through N L le whole.1))
