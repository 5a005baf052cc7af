-- The empty coalition and that of all have the same excess at two efficient allocations, and one number more in both of
-- two lists changes no order: so leaving the two out changes no comparison.
use Rattle.std.proofs.Common.{◌≡◌, ◌↔◌, ◌⊎◌, ℕ, zero, suc, ◌+◌, ◌-◌, ◌^◌, ◌≤◌, Bool, true, false, cond, List, [], ◌∷◌}
use Rattle.std.proofs.Common.{length, map, ℤ, pos, ◌*ℤ◌, ◌≤ℤ◌, ◌<ℤ◌, int_lt, refl, sym, ap, subst, ◌∙◌, inl, inr, arith}
use Rattle.std.proofs.lemmas.Int.{ints, by_lt_z}
use Rattle.std.specs.List.{range_with_len}
use Rattle.definitions.proofs.Families.{allocation_of, efficient_of}
use Rattle.definitions.proofs.Masks.{grand_coalition-within}
use Rattle.definitions.proofs.Measured.{weight, measured-weight, measured-zero}
use Rattle.definitions.proofs.Ring.{linear, mul-zeroℤ, mul_left_commℤ}
use Rattle.definitions.proofs.SumsOver.{amount-empty}
use Rattle.law_answers.proofs.NucleolusIsInCore.{excess_grand}
use Rattle.law_answers.proofs.SortedLists.{one_if, Falls-with_number, times_in-with_number, length-with_number}
use Rattle.law_answers.proofs.SortedLists.{Falls-sorted}
use Rattle.law_answers.proofs.SortedLists.{times_in-sorted, falling_same}
use Rattle.theorems.proofs.OneWay.{IsLesser-asymmetric}
use Rattle.definitions.specs.Coalitions.{grand_coalition}
use Rattle.definitions.specs.Games.{Game, Allocation, excess, measured_excess, IsAllocation, IsEfficient, InFamily}
use Rattle.definitions.specs.Games.{Beats, IsNucleolus}
use Rattle.definitions.specs.Order.{with_number, sorted, IsLesser, ComesBefore}
use Rattle.definitions.specs.declared.Family.{Family}
use Rattle.definitions.specs.declared.Measure.{Measure}
use Rattle.law_answers.specs.SortedLists.{times_in, BeatsAmongAll, IsNucleolusAmongAll}

-- ---- one number more in both lists

-- what begins with less than a is lesser than what a stands in
under_with : (a x : ℤ) (u v : List ℤ) → x <ℤ a → IsLesser (x ∷ u) (with_number a v)
under_with a x u [] lt = inl lt
under_with a x u (w ∷ v) lt = lesser_either (int_lt w a) refl
  where
    lesser_either : (b : Bool) → int_lt w a ≡ b → IsLesser (x ∷ u) (cond b (a ∷ (w ∷ v)) (w ∷ with_number a v))
    lesser_either b e = grind (arith, ints)

lesser_with : (a : ℤ) (u v : List ℤ) → IsLesser u v → IsLesser (with_number a u) (with_number a v)
lesser_with a [] v h = absurd h
lesser_with a (x ∷ u) [] h = absurd h
lesser_with a (x ∷ u) (y ∷ v) h = lesser_by_tests (lesser_with a u v) (int_lt x a) (int_lt y a) refl refl h
  where
    at_most : (y : ℤ) → a ≤ℤ y → (a <ℤ y) ⊎ (a ≡ y)
    at_most y le = by_lt_z a y (λ lt. inl lt) (λ ge. inr (omega (arith, linear, le, ge)))

    lesser_by_tests : (IsLesser u v → IsLesser (with_number a u) (with_number a v)) → (b c : Bool) → int_lt x a ≡ b
        → int_lt y a ≡ c → (x <ℤ y) ⊎ ((x ≡ y) × IsLesser u v)
        → IsLesser (cond b (a ∷ (x ∷ u)) (x ∷ with_number a u)) (cond c (a ∷ (y ∷ v)) (y ∷ with_number a v))
    lesser_by_tests ih true true e f k = inr (refl, k)
    lesser_by_tests ih true false e f k = elim (at_most y (omega (arith, ints, f))) [
      | inl lt ↦ inl lt
      | inr same ↦ inr (same, under_with a x u v (omega (arith, ints, e)))
    ]
    lesser_by_tests ih false true e f (inl lt) = absurd (omega (arith, ints, e, f, lt))
    lesser_by_tests ih false true e f (inr k) = absurd (omega (arith, ints, e, f, k.0))
    lesser_by_tests ih false false e f (inl lt) = inl lt
    lesser_by_tests ih false false e f (inr k) = inr (k.0, ih k.1)

-- of two lists of one length one is lesser, or they are one
lesser_or : (u v : List ℤ) → length u ≡ length v → IsLesser u v ⊎ ((u ≡ v) ⊎ IsLesser v u)
lesser_or [] [] e = inr (inl refl)
lesser_or [] (y ∷ v) e = absurd (omega arith)
lesser_or (x ∷ u) [] e = absurd (omega arith)
lesser_or (x ∷ u) (y ∷ v) e =
    by_lt_z x y (λ lt. inl (inl lt))
    (λ le. by_lt_z y x (λ lt. inr (inr (inl lt)))
    (λ ge. further (lesser_or u v (omega arith)) (omega (arith, linear, le, ge))))
  where
    further : IsLesser u v ⊎ ((u ≡ v) ⊎ IsLesser v u) → x ≡ y
        → IsLesser (x ∷ u) (y ∷ v) ⊎ (((x ∷ u) ≡ (y ∷ v)) ⊎ IsLesser (y ∷ v) (x ∷ u))
    further ih same = elim ih [
      | inl less ↦ inl (inr (same, less))
      | inr (inl one) ↦ inr (inl (ap (λ (z : ℤ). z ∷ u) same ∙ ap (λ (zs : List ℤ). y ∷ zs) one))
      | inr (inr more) ↦ inr (inr (inr (sym same, more)))
    ]

pub before_with : (a : ℤ) (u v : List ℤ) → ComesBefore u v ↔ ComesBefore (with_number a u) (with_number a v)
before_with a u v = (
  λ h. (length-with_number a u ∙ ap suc h.0 ∙ sym (length-with_number a v), lesser_with a u v h.1),
  λ h. let long : length u ≡ length v =
      (let p = length-with_number a u in let q = length-with_number a v in omega (arith, p, q, h.0)) in
      (long, back (lesser_or u v long) h.1),
)
  where
    back : IsLesser u v ⊎ ((u ≡ v) ⊎ IsLesser v u) → IsLesser (with_number a u) (with_number a v) → IsLesser u v
    back (inl less) h = less
    back (inr (inl one)) h =
        let same : IsLesser (with_number a v) (with_number a v) =
        subst (λ (zs : List ℤ). IsLesser (with_number a zs) (with_number a v)) one h in
        absurd (IsLesser-asymmetric (with_number a v) (with_number a v) same same)
    back (inr (inr more)) h =
        absurd (IsLesser-asymmetric (with_number a u) (with_number a v) h (lesser_with a v u more))

-- ---- the list of all coalitions is that of the proper ones, with two numbers more

times_in-last : (z : ℤ) (f : ℕ → ℤ) (a k : ℕ)
    → times_in z (map f (range_with_len a (suc k))) ≡ times_in z (map f (range_with_len a k)) + one_if z (f (a + k))
times_in-last z f a zero =
    let here : a + 0 ≡ a = omega arith in
    omega (arith, ap (λ (s : ℕ). one_if z (f s)) here)
times_in-last z f a (suc k) =
    let there : (a + 1) + k ≡ a + suc k = omega arith in
    omega (arith, ap (λ (s : ℕ). one_if z (f s)) there, times_in-last z f (a + 1) k)

-- of at least two masks
sorted_all : (f : ℕ → ℤ) (m : ℕ)
    → sorted (map f (range_with_len 0 (suc (suc m))))
    ≡ with_number (f 0) (with_number (f (suc m)) (sorted (map f (range_with_len 1 m))))
sorted_all f m =
    falling_same (sorted whole) (with_number (f 0) (with_number (f (suc m)) (sorted proper))) (Falls-sorted whole)
    (Falls-with_number (f 0) (with_number (f (suc m)) (sorted proper))
    (Falls-with_number (f (suc m)) (sorted proper) (Falls-sorted proper))) each
  where
    whole : List ℤ
    whole = map f (range_with_len 0 (suc (suc m)))

    proper : List ℤ
    proper = map f (range_with_len 1 m)

    each : (z : ℤ)
        → times_in z (sorted whole) ≡ times_in z (with_number (f 0) (with_number (f (suc m)) (sorted proper)))
    each z =
        let last : 1 + m ≡ suc m = omega arith in
        omega (
          arith,
          times_in-sorted z whole,
          times_in-last z f 1 m,
          ap (λ (s : ℕ). one_if z (f s)) last,
          times_in-with_number z (f 0) (with_number (f (suc m)) (sorted proper)),
          times_in-with_number z (f (suc m)) (sorted proper),
          times_in-sorted z proper,
        )

-- two numbers that are the same in both lists
before_more : (f h : ℕ → ℤ) (m : ℕ) → f 0 ≡ h 0 → f (suc m) ≡ h (suc m)
    → ComesBefore (sorted (map f (range_with_len 1 m))) (sorted (map h (range_with_len 1 m)))
    ↔ ComesBefore (sorted (map f (range_with_len 0 (suc (suc m)))))
    (sorted (map h (range_with_len 0 (suc (suc m)))))
before_more f h m first last =
    subst (λ (us : List ℤ). ComesBefore u v ↔ ComesBefore us (sorted (map h (range_with_len 0 (suc (suc m))))))
    (sym (sorted_all f m))
    (subst (λ (vs : List ℤ). ComesBefore u v ↔ ComesBefore (with_number (f 0) (with_number (f (suc m)) u)) vs)
    (sym right) both)
  where
    u : List ℤ
    u = sorted (map f (range_with_len 1 m))

    v : List ℤ
    v = sorted (map h (range_with_len 1 m))

    right : sorted (map h (range_with_len 0 (suc (suc m)))) ≡ with_number (f 0) (with_number (f (suc m)) v)
    right =
        sorted_all h m
        ∙ ap (λ (z : ℤ). with_number z (with_number (h (suc m)) v)) (sym first)
        ∙ ap (λ (z : ℤ). with_number (f 0) (with_number z v)) (sym last)

    both : ComesBefore u v
        ↔ ComesBefore (with_number (f 0) (with_number (f (suc m)) u))
        (with_number (f 0) (with_number (f (suc m)) v))
    both =
        let inner = before_with (f (suc m)) u v in
        let outer = before_with (f 0) (with_number (f (suc m)) u) (with_number (f (suc m)) v) in
        (λ c. outer.0 (inner.0 c), λ c. inner.1 (outer.1 c))

-- or one, where there is but one mask
before_one : (f h : ℕ → ℤ) → f 0 ≡ h 0 → ComesBefore [] [] ↔ ComesBefore (f 0 ∷ []) (h 0 ∷ [])
before_one f h first =
    subst (λ (z : ℤ). ComesBefore [] [] ↔ ComesBefore (f 0 ∷ []) (z ∷ [])) first (before_with (f 0) [] [])

before_all : (f h : ℕ → ℤ) (k : ℕ) → 1 ≤ k → f 0 ≡ h 0 → f (k - 1) ≡ h (k - 1)
    → ComesBefore (sorted (map f (range_with_len 1 (k - 2)))) (sorted (map h (range_with_len 1 (k - 2))))
    ↔ ComesBefore (sorted (map f (range_with_len 0 k))) (sorted (map h (range_with_len 0 k)))
before_all f h k some first last = elim (one_or_more k some) [
  | inl one ↦ subst (λ (j : ℕ). Both (j - 2) j) (sym one) (before_one f h first)
  | inr more ↦
      let end : k - 1 ≡ suc (k - 2) = omega (arith, more) in
      subst (Both (k - 2)) (sym more) (before_more f h (k - 2) first (sym (ap f end) ∙ last ∙ ap h end))
]
  where
    Both : ℕ → ℕ → Type 0
    Both m j =
        ComesBefore (sorted (map f (range_with_len 1 m))) (sorted (map h (range_with_len 1 m)))
        ↔ ComesBefore (sorted (map f (range_with_len 0 j))) (sorted (map h (range_with_len 0 j)))

    one_or_more : (k : ℕ) → 1 ≤ k → (k ≡ 1) ⊎ (k ≡ suc (suc (k - 2)))
    one_or_more k some = grind arith

-- ---- the two coalitions

empty_same : (measure : Measure) (g : Game) (x y : Allocation)
    → y.den *ℤ measured_excess measure g x 0 ≡ x.den *ℤ measured_excess measure g y 0
empty_same measure g x y =
    let w = weight measure 0 in
    let v = g.worth 0 in
    let ex : excess g x 0 ≡ x.den *ℤ v = omega (arith, linear, amount-empty x) in
    let ey : excess g y 0 ≡ y.den *ℤ v = omega (arith, linear, amount-empty y) in
    ap (◌*ℤ◌ y.den)
    (measured-weight measure 0 (excess g x 0) ∙ ap (◌*ℤ◌ w) ex ∙ mul_left_commℤ w x.den v)
    ∙ mul_left_commℤ y.den x.den (w *ℤ v)
    ∙ sym
    (ap (◌*ℤ◌ x.den)
    (measured-weight measure 0 (excess g y 0) ∙ ap (◌*ℤ◌ w) ey ∙ mul_left_commℤ w y.den v))

grand_zero : (measure : Measure) (g : Game) (x : Allocation) (c : ℤ) → IsEfficient g x
    → c *ℤ measured_excess measure g x (grand_coalition g.players) ≡ pos 0
grand_zero measure g x c e =
    ap (◌*ℤ◌ c)
    (measured-zero measure (grand_coalition g.players) (excess g x (grand_coalition g.players))
    (excess_grand g x e)) ∙ mul-zeroℤ c

pub leaving_out : (measure : Measure) (g : Game) (x y : Allocation) → IsAllocation g x → IsAllocation g y
    → IsEfficient g x → IsEfficient g y → Beats measure g x y ↔ BeatsAmongAll measure g x y
leaving_out measure g x y hx hy ex ey =
    before_all (λ s. y.den *ℤ measured_excess measure g x s) (λ s. x.den *ℤ measured_excess measure g y s)
    (2 ^ g.players) (omega (arith, grand_coalition-within g.players)) (empty_same measure g x y)
    (grand_zero measure g x y.den ex ∙ sym (grand_zero measure g y x.den ey))

pub nucleolus_among_all : (family : Family) (measure : Measure) (g : Game) (x : Allocation)
    → IsNucleolus family measure g x ↔ IsNucleolusAmongAll family measure g x
nucleolus_among_all family measure g x = (
  λ h. (h.0, λ y hy differs. (both y h.0 hy).0 (h.1 y hy differs)),
  λ h. (h.0, λ y hy differs. (both y h.0 hy).1 (h.1 y hy differs)),
)
  where
    both : (y : Allocation) → InFamily family g x → InFamily family g y
        → Beats measure g x y ↔ BeatsAmongAll measure g x y
    both y hx hy =
        leaving_out measure g x y (allocation_of family g x hx) (allocation_of family g y hy)
        (efficient_of family g x hx) (efficient_of family g y hy)
