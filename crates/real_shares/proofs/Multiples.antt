-- Sums, negatives and integer multiples in a linearly ordered abelian group.
use Rattle.std.proofs.Common.{◌≡◌, ℕ, zero, suc, ◌+◌, ◌<◌, ℤ, pos, negsuc, ◌+ℤ◌, ◌-ℤ◌, ◌≤ℤ◌, ◌<ℤ◌, refl, ap, subst, inl}
use Rattle.std.proofs.Common.{inr, arith}
use Rattle.definitions.proofs.Ring.{linear}
use Rattle.real_shares.specs.Numbers.{Numbers, IsOrderedGroup, AtMost, Equal, multiple, times, total_below}
use Rattle.real_shares.proofs.Orders.{at_most-same, from_less, equal-same, equal-sym, equal-trans}

pub add-minus : (z : ℤ) → z +ℤ (pos 0 -ℤ z) ≡ pos 0
add-minus z = omega (arith, linear)

module _ {C : Type 0} (N : Numbers C) (L : IsOrderedGroup N) where
  -- equalities, one after the other
  pub chain : {a b c : C} → Equal N a b → Equal N b c → Equal N a c
  chain {a} {b} {c} h k = equal-trans N L a b c h k

  -- and orders
  pub through : {a b c : C} → AtMost N a b → AtMost N b c → AtMost N a c
  through {a} {b} {c} h k = L.transitive a b c h k

  pub back : {a b : C} → Equal N a b → Equal N b a
  back {a} {b} h = equal-sym N L a b h

  pub equal_path : (a b : C) → a ≡ b → Equal N a b
  equal_path a b e = subst (Equal N a) e (equal-same N L a)

  pub plus-at_most : (a b c d : C) → AtMost N a b → AtMost N c d → AtMost N (N.plus a c) (N.plus b d)
  plus-at_most a b c d h k =
      through (L.shifts a b c h) (through (L.commutes b c).0 (through (L.shifts c d b k) (L.commutes d b).0))

  pub plus-equal : {a b c d : C} → Equal N a b → Equal N c d → Equal N (N.plus a c) (N.plus b d)
  plus-equal {a} {b} {c} {d} h k = (plus-at_most a b c d h.0 k.0, plus-at_most b a d c h.1 k.1)

  pub left : {a b : C} (c : C) → Equal N a b → Equal N (N.plus a c) (N.plus b c)
  left {a} {b} c h = plus-equal {a = a} {b = b} {c = c} {d = c} h (equal-same N L c)

  pub right : {a b : C} (c : C) → Equal N a b → Equal N (N.plus c a) (N.plus c b)
  right {a} {b} c h = plus-equal {a = c} {b = c} {c = a} {d = b} (equal-same N L c) h

  pub neutral_left : (a : C) → Equal N (N.plus N.zero a) a
  neutral_left a = chain (L.commutes N.zero a) (L.neutral a)

  -- (a + b) + (c + d) is (a + c) + (b + d)
  pub exchanged : (a b c d : C) → Equal N (N.plus (N.plus a b) (N.plus c d)) (N.plus (N.plus a c) (N.plus b d))
  exchanged a b c d =
      chain (L.associates a b (N.plus c d))
      (chain (right a (chain (back (L.associates b c d)) (chain (left d (L.commutes b c)) (L.associates c b d))))
      (back (L.associates a c (N.plus b d))))

  -- a + (-a + c) is c
  pub undone : (a c : C) → Equal N (N.plus a (N.plus (N.minus a) c)) c
  undone a c = chain (back (L.associates a (N.minus a) c)) (chain (left c (L.inverse a)) (neutral_left c))

  -- what adds with a to zero is the negative of a
  pub is_minus : (a b : C) → Equal N (N.plus a b) N.zero → Equal N b (N.minus a)
  is_minus a b h =
      chain (back (undone a b))
      (chain (right a (L.commutes (N.minus a) b))
      (chain (back (L.associates a b (N.minus a)))
      (chain (left (N.minus a) h) (neutral_left (N.minus a)))))

  pub minus-at_most : (a b : C) → AtMost N a b → AtMost N (N.minus b) (N.minus a)
  minus-at_most a b h =
      let low = chain (right a (L.commutes (N.minus b) (N.minus a))) (undone a (N.minus b)) in
      let high = undone b (N.minus a) in
      let between = L.shifts a b (N.plus (N.minus b) (N.minus a)) h in
      through low.1 (through between high.0)

  pub minus-equal : {a b : C} → Equal N a b → Equal N (N.minus a) (N.minus b)
  minus-equal {a} {b} h = (minus-at_most b a h.1, minus-at_most a b h.0)

  pub minus-plus : (a b : C) → Equal N (N.minus (N.plus a b)) (N.plus (N.minus a) (N.minus b))
  minus-plus a b =
      back (is_minus (N.plus a b) (N.plus (N.minus a) (N.minus b))
      (chain (exchanged a b (N.minus a) (N.minus b))
      (chain (plus-equal (L.inverse a) (L.inverse b)) (L.neutral N.zero))))

  pub minus-zero : Equal N (N.minus N.zero) N.zero
  minus-zero = back (is_minus N.zero N.zero (L.neutral N.zero))

  -- ---- multiples

  multiple-add : (j k : ℕ) (a : C) → Equal N (multiple N (j + k) a) (N.plus (multiple N j a) (multiple N k a))
  multiple-add j zero a = let e : j + 0 ≡ j = omega arith in rw e (back (L.neutral (multiple N j a)))
  multiple-add j (suc k) a =
      let e : j + suc k ≡ suc (j + k) = omega arith in
      rw e (chain (left a (multiple-add j k a)) (L.associates (multiple N j a) (multiple N k a) a))

  -- a multiple of a difference of two natural numbers
  times-difference : (z : ℤ) (p q : ℕ) (a : C) → z ≡ pos p -ℤ pos q
      → Equal N (times N z a) (N.plus (multiple N p a) (N.minus (multiple N q a)))
  times-difference (pos r) p q a e =
      let is : p ≡ q + r = omega (arith, linear) in
      rw is (chain (back (undone (multiple N q a) (multiple N r a)))
      (chain (right (multiple N q a) (L.commutes (N.minus (multiple N q a)) (multiple N r a)))
      (chain (back (L.associates (multiple N q a) (multiple N r a) (N.minus (multiple N q a))))
      (left (N.minus (multiple N q a)) (back (multiple-add q r a))))))
  times-difference (negsuc r) p q a e =
      let is : q ≡ p + suc r = omega (arith, linear) in
      rw is (chain (back (undone (multiple N p a) (N.minus (multiple N (suc r) a))))
      (right (multiple N p a)
      (chain (back (minus-plus (multiple N p a) (multiple N (suc r) a)))
      (minus-equal (back (multiple-add p (suc r) a))))))

  parts : (z : ℤ) → (p : ℕ) × (q : ℕ) × (z ≡ pos p -ℤ pos q)
  parts (pos r) = (r, 0, omega (arith, linear))
  parts (negsuc r) = (0, suc r, omega (arith, linear))

  pub times-add : (u v : ℤ) (a : C) → Equal N (times N (u +ℤ v) a) (N.plus (times N u a) (times N v a))
  times-add u v a =
      let (p, q, e) = parts u in
      let (r, s, f) = parts v in
      chain (times-difference (u +ℤ v) (p + r) (q + s) a (omega (arith, linear)))
      (chain
      (plus-equal (multiple-add p r a)
      (chain (minus-equal (multiple-add q s a)) (minus-plus (multiple N q a) (multiple N s a))))
      (chain (exchanged (multiple N p a) (multiple N r a) (N.minus (multiple N q a)) (N.minus (multiple N s a)))
      (plus-equal (back (times-difference u p q a e)) (back (times-difference v r s a f)))))

  pub times-minus : (z : ℤ) (a : C) → Equal N (times N (pos 0 -ℤ z) a) (N.minus (times N z a))
  times-minus z a =
      is_minus (times N z a) (times N (pos 0 -ℤ z) a)
      (chain (back (times-add z (pos 0 -ℤ z) a))
      (equal_path (times N (z +ℤ (pos 0 -ℤ z)) a) N.zero (ap (λ w. times N w a) (add-minus z))))

  pub times-one : (a : C) → Equal N (times N (pos 1) a) a
  times-one a = neutral_left a

  multiple-positive : (k : ℕ) → AtMost N N.zero (multiple N k N.unit)
  multiple-positive zero = at_most-same N L N.zero
  multiple-positive (suc k) =
      through (L.neutral N.zero).1 (plus-at_most N.zero (multiple N k N.unit) N.zero N.unit (multiple-positive k)
      (from_less N L N.zero N.unit L.positive))

  pub times-at_most : (u v : ℤ) → u ≤ℤ v → AtMost N (times N u N.unit) (times N v N.unit)
  times-at_most u v h =
      let (k, e) = gap (v -ℤ u) (omega (arith, linear)) in
      let a = times N u N.unit in
      through (L.neutral a).1
      (through (plus-at_most a a N.zero (multiple N k N.unit) (at_most-same N L a) (multiple-positive k))
      (subst (λ w. AtMost N (N.plus a (multiple N k N.unit)) (times N w N.unit)) (adds u v k e)
      (times-add u (pos k) N.unit).1))
    where
      gap : (d : ℤ) → pos 0 ≤ℤ d → (k : ℕ) × (d ≡ pos k)
      gap (pos k) h = (k, refl)
      gap (negsuc k) h = absurd (omega (arith, linear))

      adds : (u v : ℤ) (k : ℕ) → v -ℤ u ≡ pos k → u +ℤ pos k ≡ v
      adds u v k e = omega (arith, linear)

  pub times-equal : (z : ℤ) {a b : C} → Equal N a b → Equal N (times N z a) (times N z b)
  times-equal z {a} {b} h = by_sign z
    where
      natural : (k : ℕ) → Equal N (multiple N k a) (multiple N k b)
      natural zero = equal-same N L N.zero
      natural (suc k) = plus-equal (natural k) h

      by_sign : (z : ℤ) → Equal N (times N z a) (times N z b)
      by_sign (pos k) = natural k
      by_sign (negsuc k) = minus-equal (natural (suc k))

  pub times-zero : (z : ℤ) → Equal N (times N z N.zero) N.zero
  times-zero z = by_sign z
    where
      natural : (k : ℕ) → Equal N (multiple N k N.zero) N.zero
      natural zero = equal-same N L N.zero
      natural (suc k) = chain (L.neutral (multiple N k N.zero)) (natural k)

      by_sign : (z : ℤ) → Equal N (times N z N.zero) N.zero
      by_sign (pos k) = natural k
      by_sign (negsuc k) = chain (minus-equal (natural (suc k))) minus-zero

  pub times-keeps : (z : ℤ) (a b : C) → pos 0 ≤ℤ z → AtMost N a b → AtMost N (times N z a) (times N z b)
  times-keeps z a b h le = by_sign z h
    where
      natural : (k : ℕ) → AtMost N (multiple N k a) (multiple N k b)
      natural zero = at_most-same N L N.zero
      natural (suc k) = plus-at_most (multiple N k a) (multiple N k b) a b (natural k) le

      by_sign : (z : ℤ) → pos 0 ≤ℤ z → AtMost N (times N z a) (times N z b)
      by_sign z h = grind (arith, linear, natural)

  -- ---- differences

  pub from_difference : (a b : C) → Equal N (N.plus a (N.minus b)) N.zero → Equal N a b
  from_difference a b h =
      chain (back (L.neutral a))
      (chain (right a (chain (back (L.inverse b)) (L.commutes b (N.minus b))))
      (chain (back (L.associates a (N.minus b) b)) (chain (left b h) (neutral_left b))))

  pub difference-low : (a b : C) → AtMost N a b → AtMost N (N.plus a (N.minus b)) N.zero
  difference-low a b h = through (L.shifts a b (N.minus b) h) (L.inverse b).0

  pub difference-zero : (a b : C) → Equal N a b → Equal N (N.plus b (N.minus a)) N.zero
  difference-zero a b h = chain (right b (minus-equal h)) (L.inverse b)

  pub from_low : (a b : C) → AtMost N (N.plus a (N.minus b)) N.zero → AtMost N a b
  from_low a b h =
      let back_again : Equal N (N.plus (N.plus a (N.minus b)) b) a = chain (L.associates a (N.minus b) b)
      (chain (right a (chain (L.commutes (N.minus b) b) (L.inverse b))) (L.neutral a)) in
      through back_again.1 (through (L.shifts (N.plus a (N.minus b)) N.zero b h) (neutral_left b).0)

  back_from : (a p : C) → Equal N (N.plus (N.plus a p) (N.minus a)) p
  back_from a p =
      chain (left (N.minus a) (L.commutes a p))
      (chain (L.associates p a (N.minus a)) (chain (right p (L.inverse a)) (L.neutral p)))

  plus-cancel : (c a b : C) → AtMost N (N.plus c a) (N.plus c b) → AtMost N a b
  plus-cancel c a b h =
      through (back_from c a).1 (through (L.shifts (N.plus c a) (N.plus c b) (N.minus c) h) (back_from c b).0)

  pub times-cancel : (z : ℤ) (a b : C) → pos 0 <ℤ z → AtMost N (times N z a) (times N z b) → AtMost N a b
  times-cancel z a b up h = by_sign z up h
    where
      natural : (m : ℕ) → AtMost N b a → AtMost N (N.plus (multiple N m a) a) (N.plus (multiple N m b) b)
          → AtMost N a b
      natural m le h =
          plus-cancel (multiple N m a) a b (through h
          (L.shifts (multiple N m b) (multiple N m a) b (times-keeps (pos m) b a (omega (arith, linear)) le)))

      by_sign : (z : ℤ) → pos 0 <ℤ z → AtMost N (times N z a) (times N z b) → AtMost N a b
      by_sign (pos zero) up h = absurd (omega (arith, linear))
      by_sign (pos (suc m)) up h = elim (L.linear a b) [ inl k ↦ k | inr k ↦ natural m k h ]
      by_sign (negsuc m) up h = absurd (omega (arith, linear))

  pub times-same : (z : ℤ) (a b : C) → pos 0 <ℤ z → Equal N (times N z a) (times N z b) → Equal N a b
  times-same z a b up h = (times-cancel z a b up h.0, times-cancel z b a up h.1)

  -- what a sum adds isn't above zero where the sum isn't above the first part
  pub added-low : (a p : C) → AtMost N (N.plus a p) a → AtMost N p N.zero
  added-low a p h =
      let gone : Equal N (N.plus (N.plus a p) (N.minus a)) p = chain (left (N.minus a) (L.commutes a p))
      (chain (L.associates p a (N.minus a)) (chain (right p (L.inverse a)) (L.neutral p))) in
      through gone.1 (through (L.shifts (N.plus a p) a (N.minus a) h) (L.inverse a).0)

  -- ---- sums

  pub total_below-equal : (n : ℕ) (f h : ℕ → C) → ((i : ℕ) → i < n → Equal N (f i) (h i))
      → Equal N (total_below N n f) (total_below N n h)
  total_below-equal zero f h e = equal-same N L N.zero
  total_below-equal (suc n) f h e =
      plus-equal (total_below-equal n f h (λ i lt. e i (omega arith))) (e n (omega arith))

  pub total_below-plus : (n : ℕ) (f h : ℕ → C)
      → Equal N (total_below N n (λ i. N.plus (f i) (h i))) (N.plus (total_below N n f) (total_below N n h))
  total_below-plus zero f h = back (L.neutral N.zero)
  total_below-plus (suc n) f h =
      chain (left (N.plus (f n) (h n)) (total_below-plus n f h))
      (exchanged (total_below N n f) (total_below N n h) (f n) (h n))

  pub total_below-minus : (n : ℕ) (f : ℕ → C)
      → Equal N (total_below N n (λ i. N.minus (f i))) (N.minus (total_below N n f))
  total_below-minus zero f = back minus-zero
  total_below-minus (suc n) f =
      chain (left (N.minus (f n)) (total_below-minus n f)) (back (minus-plus (total_below N n f) (f n)))

  pub total_below-zero : (n : ℕ) (f : ℕ → C) → ((i : ℕ) → i < n → Equal N (f i) N.zero)
      → Equal N (total_below N n f) N.zero
  total_below-zero zero f e = equal-same N L N.zero
  total_below-zero (suc n) f e =
      chain (plus-equal (total_below-zero n f (λ i lt. e i (omega arith))) (e n (omega arith))) (L.neutral N.zero)
