-- Weights that balance, on a coalition and on others that pass a test: by Farkas's lemma, if no transfer between the
-- players gives that coalition more and takes from none of the others.
use Rattle.std.proofs.Common.{◌≡◌, ℕ, zero, suc, ◌-◌, ◌^◌, ◌<◌, ◌≤◌, Bool, true, false, cond, nat_eq, ℤ, pos, neg_ℤ}
use Rattle.std.proofs.Common.{◌+ℤ◌, ◌-ℤ◌, ◌*ℤ◌, ◌≤ℤ◌, refl, sym, ap, ◌∙◌, inl, inr, arith}
use Rattle.std.proofs.lemmas.Int.{ints}
use Rattle.definitions.proofs.Ring.{linear, one-mulℤ, mul-oneℤ, mul-zeroℤ, zero-mulℤ, mul-nonnegativeℤ}
use Rattle.std.proofs.Math.Nat.{pow-suc}
use Rattle.definitions.proofs.Cases.{less_or_last, nat_eq-same, nat_eq-other, nat_eq-equal, from_nat_eq}
use Rattle.definitions.proofs.Masks.{grand_coalition-within}
use Rattle.definitions.proofs.Members.{sum_below-same, sum_below-zero, sum_below-add, sum_below-times}
use Rattle.definitions.specs.Sums.{sum_below}
use Rattle.definitions.specs.Coalitions.{has_player, grand_coalition, sum_over}
use Rattle.law_duality.proofs.Farkas.{one_or_none-low, farkas}
use Rattle.law_duality.specs.Farkas.{MeetsAll, Contradicts}
use Rattle.theorems.proofs.Products.{products}

-- one term of a sum
sum_at : (n k : ℕ) (f : ℕ → ℤ) → k < n → sum_below n (λ s. cond (nat_eq s k) (f s) (pos 0)) ≡ f k
sum_at zero k f lt = absurd (omega arith)
sum_at (suc n) k f lt = elim (less_or_last k n lt) [
  | inl less ↦ (let last = ap (λ (b : Bool). cond b (f n) (pos 0)) (nat_eq-other n k (λ e. omega (arith, less, e))) in
      omega (arith, linear, sum_at n k f less, last))
  | inr same ↦
      (let last = ap (λ (b : Bool). cond b (f n) (pos 0)) (nat_eq-equal n k (sym same)) in
      let none = sum_below-zero n (λ s. cond (nat_eq s k) (f s) (pos 0))
      (λ s less. ap (λ (b : Bool). cond b (f s) (pos 0)) (nat_eq-other s k (λ e. omega (arith, less, e, same)))) in
      omega (arith, linear, none, last, ap f same))
]

module _ (n : ℕ) (is_high : ℕ → Bool) (some : 1 ≤ n) where
  abbrev all : ℕ
  all = grand_coalition n

  abbrev count : ℕ
  count = 2 ^ n - 2

  two : 2 ≤ 2 ^ n
  two = at_least n some
    where
      at_least : (n : ℕ) → 1 ≤ n → 2 ≤ 2 ^ n
      at_least zero h = absurd (omega arith)
      at_least (suc n) h = (let p = grand_coalition-within n in omega (arith, p, pow-suc 2 n))

  -- ---- weights

  -- weights on proper coalitions that pass, at least 1 on the coalition d + 1, that balance
  pub record SideWeights (d : ℕ) : Type 0 where
    pub weights : ℕ → ℤ
    pub low : (s : ℕ) → s < 2 ^ n → pos 0 ≤ℤ weights s
    pub here : pos 1 ≤ℤ weights (suc d)
    pub none : (s : ℕ) → is_high s ≡ false → weights s ≡ pos 0
    pub proper : (weights 0 ≡ pos 0) × (weights all ≡ pos 0)
    pub total : ℤ
    pub balance : (i : ℕ) → i < n → sum_below (2 ^ n) (λ s. weights s *ℤ cond (has_player s i) (pos 1) (pos 0)) ≡ total

  module _ (d : ℕ) (lt : d < count) (top : is_high (suc d) ≡ true)
      (no_transfer : (z : ℕ → ℤ) → sum_below n z ≡ pos 0 → pos 1 ≤ℤ sum_over n z (suc d)
      → ((t : ℕ) → t < count → is_high (suc t) ≡ true → pos 0 ≤ℤ sum_over n z (suc t)) → ⊥) where
    -- each who gains and each who loses; and the coalitions that are not to lose
    abbrev row : ℕ → ℕ → ℤ
    row s i =
        cond (nat_eq s all) (neg_ℤ (pos 1))
        (cond (nat_eq s 0) (pos 1) (cond (is_high s) (cond (has_player s i) (pos 1) (pos 0)) (pos 0)))

    abbrev aim : ℕ → ℤ
    aim s = cond (nat_eq s (suc d)) (pos 1) (pos 0)

    all_positive : 0 < all
    all_positive = omega (arith, two)

    row_all : (i : ℕ) → row all i ≡ neg_ℤ (pos 1)
    row_all i = rw (nat_eq-same all) refl

    row_none : (i : ℕ) → row 0 i ≡ pos 1
    row_none i = rw (nat_eq-other 0 all (λ f. omega (arith, all_positive, f))) refl

    row_high : (t i : ℕ) → t < count → is_high (suc t) ≡ true
        → row (suc t) i ≡ cond (has_player (suc t) i) (pos 1) (pos 0)
    row_high t i less h =
        rw (nat_eq-other (suc t) all (λ f. omega (arith, less, f)))
        (rw (nat_eq-other (suc t) 0 (λ f. omega (arith, f))) (rw h refl))

    no_solution : (z : ℕ → ℤ) (q : ℤ) → MeetsAll (2 ^ n) n row aim z q → ⊥
    no_solution z q meets =
        no_transfer z total (gains d lt top (gain d lt top))
        (λ t less high. (let at = gain t less high in let off = aim_low t in
        let p = mul-nonnegativeℤ q (aim (suc t)) (omega (arith, linear, meets.0)) off in omega (arith, linear, at, p)))
      where
        aim_low : (t : ℕ) → pos 0 ≤ℤ aim (suc t)
        aim_low t = one_or_none-low (nat_eq (suc t) (suc d))

        gain : (t : ℕ) → t < count → is_high (suc t) ≡ true → (q *ℤ aim (suc t)) ≤ℤ sum_over n z (suc t)
        gain t less h =
            let meets_it = meets.1 (suc t) (omega (arith, less)) in
            let same = sum_below-same n (λ i. row (suc t) i *ℤ z i)
            (λ i. cond (has_player (suc t) i) (z i) (pos 0))
            (λ i k. ap (λ u. u *ℤ z i) (row_high t i less h) ∙ times_one (has_player (suc t) i) (z i)) in
            omega (arith, linear, meets_it, same)
          where
            times_one : (b : Bool) (u : ℤ) → cond b (pos 1) (pos 0) *ℤ u ≡ cond b u (pos 0)
            times_one b u = grind (arith, one-mulℤ, zero-mulℤ)

        gains : (t : ℕ) → t < count → is_high (suc d) ≡ true → (q *ℤ aim (suc d)) ≤ℤ sum_over n z (suc d)
            → pos 1 ≤ℤ sum_over n z (suc d)
        gains t less h le =
            let one : aim (suc d) ≡ pos 1 = rw (nat_eq-same (suc d)) refl in
            let all_of = ap (◌*ℤ◌ q) one ∙ mul-oneℤ q in omega (arith, linear, le, all_of, meets.0)

        total : sum_below n z ≡ pos 0
        total =
            let up = meets.1 0 (omega (arith, two)) in
            let down = meets.1 all (grand_coalition-within n) in
            let none : aim 0 ≡ pos 0 = rw (nat_eq-other 0 (suc d) (λ f. omega (arith, f))) refl in
            let last : aim all ≡ pos 0 = rw (nat_eq-other all (suc d) (λ f. omega (arith, lt, f))) refl in
            let a = sum_below-same n (λ i. row 0 i *ℤ z i) z
            (λ i k. ap (λ u. u *ℤ z i) (row_none i) ∙ one-mulℤ (z i)) in
            let b = sum_below-same n (λ i. row all i *ℤ z i) (λ i. neg_ℤ (pos 1) *ℤ z i)
            (λ i k. ap (λ u. u *ℤ z i) (row_all i)) in
            let c = sum_below-times n z (neg_ℤ (pos 1)) in
            omega (products, up, down, ap (◌*ℤ◌ q) none, ap (◌*ℤ◌ q) last, a, b, c, minus (sum_below n z))
          where
            minus : (u : ℤ) → neg_ℤ (pos 1) *ℤ u ≡ neg_ℤ u
            minus u = omega (arith, ints)

    -- the factors on proper coalitions
    abbrev weights_of : (ℕ → ℤ) → ℕ → ℤ
    weights_of f s = cond (nat_eq s all) (pos 0) (cond (nat_eq s 0) (pos 0) (cond (is_high s) (f s) (pos 0)))

    balanced : (f : ℕ → ℤ) → Contradicts (2 ^ n) n row aim f → (i : ℕ) → i < n
        → sum_below (2 ^ n) (λ s. weights_of f s *ℤ cond (has_player s i) (pos 1) (pos 0)) ≡ f all -ℤ f 0
    balanced f c i less =
        let k = 2 ^ n in
        let w : ℕ → ℤ = λ s. weights_of f s *ℤ cond (has_player s i) (pos 1) (pos 0) in
        let a : ℕ → ℤ = λ s. cond (nat_eq s all) (neg_ℤ (f s)) (pos 0) in
        let b : ℕ → ℤ = λ s. cond (nat_eq s 0) (f s) (pos 0) in
        let each = sum_below-same k (λ s. f s *ℤ row s i) (λ s. w s +ℤ (a s +ℤ b s))
        (λ s h. term s (nat_eq s all) refl (nat_eq s 0) refl (is_high s)) in
        let parts = sum_below-add k w (λ s. a s +ℤ b s) in
        let rest = sum_below-add k a b in
        let first = sum_at k all (λ s. neg_ℤ (f s)) (grand_coalition-within n) in
        omega (arith, linear, each, parts, rest, first, sum_at k 0 f (omega (arith, two)), c.1 i less)
      where
        term : (s : ℕ) (p : Bool) → nat_eq s all ≡ p → (r : Bool) → nat_eq s 0 ≡ r → (h : Bool)
            → f s *ℤ cond p (neg_ℤ (pos 1)) (cond r (pos 1) (cond h (cond (has_player s i) (pos 1) (pos 0)) (pos 0)))
            ≡ cond p (pos 0) (cond r (pos 0) (cond h (f s) (pos 0))) *ℤ cond (has_player s i) (pos 1) (pos 0)
            +ℤ (cond p (neg_ℤ (f s)) (pos 0) +ℤ cond r (f s) (pos 0))
        term s p e1 r e2 h = grind (arith, linear, all_positive, from_nat_eq, products)

    of_factors : (f : ℕ → ℤ) → Contradicts (2 ^ n) n row aim f → SideWeights d
    of_factors f c = record {
      weights = weights_of f;
      low = λ s within. not_less s (nat_eq s all) (nat_eq s 0) (is_high s) (c.0 s within);
      here = at_here;
      none = λ s fails. off s (nat_eq s all) (nat_eq s 0) (is_high s) fails;
      proper = (
        rw (nat_eq-other 0 all (λ h. omega (arith, all_positive, h))) refl,
        rw (nat_eq-same all) refl,
      );
      total = f all -ℤ f 0;
      balance = balanced f c;
    }
      where
        not_less : (s : ℕ) (p r h : Bool) → pos 0 ≤ℤ f s
            → pos 0 ≤ℤ cond p (pos 0) (cond r (pos 0) (cond h (f s) (pos 0)))
        not_less s p r h low = grind (arith, linear)

        at_here : pos 1 ≤ℤ weights_of f (suc d)
        at_here =
            let one = sum_below-same (2 ^ n) (λ s. f s *ℤ aim s) (λ s. cond (nat_eq s (suc d)) (f s) (pos 0))
            (λ s h. times_one (nat_eq s (suc d)) (f s)) in
            let value : weights_of f (suc d) ≡ f (suc d) = rw (nat_eq-other (suc d) all (λ h. omega (arith, lt, h)))
            (rw (nat_eq-other (suc d) 0 (λ h. omega (arith, h))) (rw top refl)) in
            omega (arith, linear, one, sum_at (2 ^ n) (suc d) f (omega (arith, lt)), c.2, value)
          where
            times_one : (b : Bool) (u : ℤ) → u *ℤ cond b (pos 1) (pos 0) ≡ cond b u (pos 0)
            times_one b u = grind (arith, mul-oneℤ, mul-zeroℤ)

        off : (s : ℕ) (p r h : Bool) → h ≡ false → cond p (pos 0) (cond r (pos 0) (cond h (f s) (pos 0))) ≡ pos 0
        off s p r h e = grind arith

    pub side_weights : SideWeights d
    side_weights = elim (farkas (2 ^ n) n row aim) [
      | inl met ↦ absurd (no_solution met.0 met.1 met.2)
      | inr found ↦ of_factors found.0 found.1
    ]
