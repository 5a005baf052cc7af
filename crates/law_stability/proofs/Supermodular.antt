-- Of a convex game, two coalitions are worth no more than all their members together and those that are in both
-- (Shapley 1971): the members of the first join those in both, and no less the second, one by one.
use Rattle.std.proofs.Common.{◌≡◌, ◌≢◌, ℕ, zero, suc, ◌+◌, ◌^◌, ◌<◌, ◌≤◌, Bool}
use Rattle.std.proofs.Common.{true, false, ◌&&◌, ◌||◌, nat_lt, cond}
use Rattle.std.proofs.Common.{ℤ, pos, ◌+ℤ◌, ◌-ℤ◌, ◌≤ℤ◌, refl, sym, ap, ◌∙◌, inl, inr, arith}
use Rattle.std.proofs.lemmas.Bool.Decides.{nat_tests}
use Rattle.definitions.proofs.Cases.{same_or_other, nat_lt-past, nat_lt-less}
use Rattle.definitions.proofs.Members.{sum_below-same, sum_below-add}
use Rattle.definitions.proofs.Parts.{has_player-more_same, has_player-more_other, has_player-within, more-lt, part}
use Rattle.definitions.proofs.Ring.{linear, mul-leℤ}
use Rattle.definitions.proofs.SumsOver.{amount-at}
use Rattle.definitions.specs.Coalitions.{has_player}
use Rattle.definitions.specs.Convexity.{IsConvex}
use Rattle.definitions.specs.Games.{Game, Allocation, share, amount, excess, IsAllocation}
use Rattle.convexity.proofs.Joining.{adds_more}
use Rattle.law_answers.proofs.RenumberedCoalitions.{coalition_where-within, coalition_where-has, same_below}
use Rattle.law_answers.specs.Renumbering.{coalition_where}
use Rattle.law_stability.proofs.Unions.{union, common}
use Rattle.theorems.proofs.Products.{products}

-- ---- one by one

-- b with the members of a below k, and what is common to that and a
abbrev grown_test : ℕ → ℕ → ℕ → ℕ → Bool
grown_test a b k i = has_player b i || (has_player a i && nat_lt i k)

abbrev shared_test : ℕ → ℕ → ℕ → ℕ → Bool
shared_test a b k i = has_player a i && (has_player b i || nat_lt i k)

lt_next : (i k : ℕ) → i ≢ k → nat_lt i (suc k) ≡ nat_lt i k
lt_next i k ne = grind (arith, nat_tests)

lt_here : (k : ℕ) → nat_lt k (suc k) ≡ true
lt_here k = grind (arith, nat_tests)

module _ (n a b : ℕ) where
  abbrev grown : ℕ → ℕ
  grown k = coalition_where n (grown_test a b k)

  abbrev shared : ℕ → ℕ
  shared k = coalition_where n (shared_test a b k)

  grown-within : (k : ℕ) → grown k < 2 ^ n
  grown-within k = coalition_where-within n (grown_test a b k)

  shared-within : (k : ℕ) → shared k < 2 ^ n
  shared-within k = coalition_where-within n (shared_test a b k)

  grown-has : (k i : ℕ) → i < n → has_player (grown k) i ≡ grown_test a b k i
  grown-has k i lt = coalition_where-has n (grown_test a b k) i lt

  shared-has : (k i : ℕ) → i < n → has_player (shared k) i ≡ shared_test a b k i
  shared-has k i lt = coalition_where-has n (shared_test a b k) i lt

  grown-other : (k i : ℕ) → i ≢ k → grown_test a b (suc k) i ≡ grown_test a b k i
  grown-other k i ne = ap (λ (c : Bool). has_player b i || (has_player a i && c)) (lt_next i k ne)

  shared-other : (k i : ℕ) → i ≢ k → shared_test a b (suc k) i ≡ shared_test a b k i
  shared-other k i ne = ap (λ (c : Bool). has_player a i && (has_player b i || c)) (lt_next i k ne)

  -- where the test changes at k alone
  one_more : (p q : ℕ → Bool) (k : ℕ) → k < n → q k ≡ false → p k ≡ true → ((i : ℕ) → i ≢ k → p i ≡ q i)
      → coalition_where n p ≡ coalition_where n q + 2 ^ k
  one_more p q k lt out inside other =
      same_below n (coalition_where n p) (coalition_where n q + 2 ^ k) (coalition_where-within n p)
      (more-lt n (coalition_where n q) k (coalition_where-within n q) lt lacks)
      (λ i h. elim (same_or_other i k) [
        | inl same ↦
            coalition_where-has n p i h ∙ ap p same ∙ inside
            ∙ sym
            (ap (has_player (coalition_where n q + 2 ^ k)) same
            ∙ has_player-more_same (coalition_where n q) k lacks)
        | inr ne ↦
            coalition_where-has n p i h ∙ other i ne ∙ sym (coalition_where-has n q i h)
            ∙ sym (has_player-more_other (coalition_where n q) k i lacks ne)
      ])
    where
      lacks : has_player (coalition_where n q) k ≡ false
      lacks = coalition_where-has n q k lt ∙ out

  none_more : (p q : ℕ → Bool) → ((i : ℕ) → p i ≡ q i) → coalition_where n p ≡ coalition_where n q
  none_more p q each =
      same_below n (coalition_where n p) (coalition_where n q) (coalition_where-within n p)
      (coalition_where-within n q)
      (λ i h. coalition_where-has n p i h ∙ each i ∙ sym (coalition_where-has n q i h))

  kept : (p q : ℕ → Bool) (k : ℕ) → p k ≡ q k → ((i : ℕ) → i ≢ k → p i ≡ q i) → (i : ℕ) → p i ≡ q i
  kept p q k here other i = elim (same_or_other i k) [
    | inl same ↦ ap p same ∙ here ∙ sym (ap q same)
    | inr ne ↦ other i ne
  ]

  shared-part : (k j : ℕ) → has_player (shared k) j ≡ true → has_player (grown k) j ≡ true
  shared-part k j inside =
      let lt = has_player-within n (shared k) j (shared-within k) inside in
      grown-has k j lt ∙ by_tests (has_player a j) (has_player b j) (nat_lt j k) (sym (shared-has k j lt) ∙ inside)
    where
      by_tests : (p q r : Bool) → (p && (q || r)) ≡ true → (q || (p && r)) ≡ true
      by_tests p q r h = grind arith

module _ (g : Game) (convex : IsConvex g) (a b : ℕ) where
  abbrev n : ℕ
  n = g.players

  abbrev low : ℕ → ℤ
  low k = g.worth (shared n a b k)

  abbrev high : ℕ → ℤ
  high k = g.worth (grown n a b k)

  step : (k : ℕ) → k < n → (low (suc k) -ℤ low k) ≤ℤ (high (suc k) -ℤ high k)
  step k lt = by_tests (has_player a k) (has_player b k) refl refl
    where
      stays : shared_test a b (suc k) k ≡ shared_test a b k k → grown_test a b (suc k) k ≡ grown_test a b k k
          → (low (suc k) -ℤ low k) ≤ℤ (high (suc k) -ℤ high k)
      stays e f =
          let one = ap g.worth
          (none_more n a b (shared_test a b (suc k)) (shared_test a b k)
          (kept n a b (shared_test a b (suc k)) (shared_test a b k) k e (shared-other n a b k))) in
          let two = ap g.worth
          (none_more n a b (grown_test a b (suc k)) (grown_test a b k)
          (kept n a b (grown_test a b (suc k)) (grown_test a b k) k f (grown-other n a b k))) in
          omega (arith, linear, one, two)

      joins : has_player a k ≡ true → has_player b k ≡ false → (low (suc k) -ℤ low k) ≤ℤ (high (suc k) -ℤ high k)
      joins ha hb =
          let out_s : shared_test a b k k ≡ false = rw (ha, hb, nat_lt-past k k (omega arith)) refl in
          let in_s : shared_test a b (suc k) k ≡ true = rw (ha, hb, lt_here k) refl in
          let out_g : grown_test a b k k ≡ false = rw (ha, hb, nat_lt-past k k (omega arith)) refl in
          let in_g : grown_test a b (suc k) k ≡ true = rw (ha, hb, lt_here k) refl in
          let one = ap g.worth
          (one_more n a b (shared_test a b (suc k)) (shared_test a b k) k lt out_s in_s (shared-other n a b k)) in
          let two = ap g.worth
          (one_more n a b (grown_test a b (suc k)) (grown_test a b k) k lt out_g in_g (grown-other n a b k)) in
          let more =
          adds_more g k (shared n a b k) (grown n a b k) convex (shared-within n a b k) (grown-within n a b k) lt
          (grown-has n a b k k lt ∙ out_g) (shared-part n a b k) in
          omega (arith, linear, one, two, more)

      by_tests : (c d : Bool) → has_player a k ≡ c → has_player b k ≡ d
          → (low (suc k) -ℤ low k) ≤ℤ (high (suc k) -ℤ high k)
      by_tests c d ha hb = grind (arith, joins, stays)

  steps : (k : ℕ) → k ≤ n → (low k -ℤ low 0) ≤ℤ (high k -ℤ high 0)
  steps zero le = omega (arith, linear)
  steps (suc k) le = omega (arith, linear, steps k (omega (arith, le)), step k (omega (arith, le)))

  pub supermodular : a < 2 ^ n → b < 2 ^ n
      → (g.worth a +ℤ g.worth b) ≤ℤ (g.worth (union n a b) +ℤ g.worth (common n a b))
  supermodular ha hb =
      let first : low 0 ≡ g.worth (common n a b) = ap g.worth
      (none_more n a b (shared_test a b 0) (λ i. has_player a i && has_player b i)
      (λ i. ap (λ (c : Bool). has_player a i && (has_player b i || c)) (nat_lt-past i 0 (omega arith))
      ∙ ap (λ (c : Bool). has_player a i && c) (or_none (has_player b i)))) in
      let second : high 0 ≡ g.worth b = ap g.worth
      (same_below n (grown n a b 0) b (grown-within n a b 0) hb
      (λ i h. grown-has n a b 0 i h
      ∙ ap (λ (c : Bool). has_player b i || (has_player a i && c)) (nat_lt-past i 0 (omega arith))
      ∙ none_added (has_player a i) (has_player b i))) in
      let third : low n ≡ g.worth a = ap g.worth
      (same_below n (shared n a b n) a (shared-within n a b n) ha
      (λ i h. shared-has n a b n i h
      ∙ ap (λ (c : Bool). has_player a i && (has_player b i || c)) (nat_lt-less i n h)
      ∙ all_added (has_player a i) (has_player b i))) in
      let fourth : high n ≡ g.worth (union n a b) = ap g.worth
      (same_below n (grown n a b n) (union n a b) (grown-within n a b n)
      (coalition_where-within n (λ i. has_player a i || has_player b i))
      (λ i h. grown-has n a b n i h
      ∙ ap (λ (c : Bool). has_player b i || (has_player a i && c)) (nat_lt-less i n h)
      ∙ either_way (has_player a i) (has_player b i)
      ∙ sym (coalition_where-has n (λ i. has_player a i || has_player b i) i h))) in
      omega (arith, linear, steps n (omega arith), first, second, third, fourth)
    where
      or_none : (q : Bool) → (q || false) ≡ q
      or_none q = grind arith

      none_added : (p q : Bool) → (q || (p && false)) ≡ q
      none_added p q = grind arith

      all_added : (p q : Bool) → (p && (q || true)) ≡ p
      all_added p q = grind arith

      either_way : (p q : Bool) → (q || (p && true)) ≡ (p || q)
      either_way p q = grind arith

-- ---- what the members get

amount-both : (g : Game) (x : Allocation) (a b : ℕ) → IsAllocation g x
    → amount x (union g.players a b) +ℤ amount x (common g.players a b) ≡ amount x a +ℤ amount x b
amount-both g x a b hx =
    let n = g.players in
    let f = share x in
    let u = union n a b in
    let c = common n a b in
    let one = sum_below-add n (part f u) (part f c) in
    let two = sum_below-same n (λ i. part f u i +ℤ part f c i) (λ i. part f a i +ℤ part f b i)
    (λ i lt. ap (λ (t : Bool). cond t (f i) (pos 0) +ℤ part f c i)
    (coalition_where-has n (λ i. has_player a i || has_player b i) i lt)
    ∙ ap (λ (t : Bool). cond (has_player a i || has_player b i) (f i) (pos 0) +ℤ cond t (f i) (pos 0))
    (coalition_where-has n (λ i. has_player a i && has_player b i) i lt)
    ∙ by_tests (has_player a i) (has_player b i) (f i)) in
    let three = sum_below-add n (part f a) (part f b) in
    omega
    (products, one, two, three, amount-at g x u hx, amount-at g x c hx, amount-at g x a hx, amount-at g x b hx)
  where
    by_tests : (p q : Bool) (z : ℤ)
        → cond (p || q) z (pos 0) +ℤ cond (p && q) z (pos 0) ≡ cond p z (pos 0) +ℤ cond q z (pos 0)
    by_tests p q z = grind (arith, linear)

pub excess-both : (g : Game) (x : Allocation) (a b : ℕ) → IsConvex g → IsAllocation g x → a < 2 ^ g.players
    → b < 2 ^ g.players
    → (excess g x a +ℤ excess g x b) ≤ℤ (excess g x (union g.players a b) +ℤ excess g x (common g.players a b))
excess-both g x a b convex hx ha hb =
    let n = g.players in
    omega (
      products,
      mul-leℤ x.den (g.worth a +ℤ g.worth b) (g.worth (union n a b) +ℤ g.worth (common n a b))
          (omega (arith, linear, hx.1)) (supermodular g convex a b ha hb),
      amount-both g x a b hx,
    )
