-- What the levels of a certificate settle of a difference between two members of a family: a column D i per player,
-- and a coalition's column is the sum over its members.
use Rattle.std.proofs.Common.{◌≡◌, ◌⊎◌, ℕ, zero, suc, ◌-◌, ◌<◌, ◌≤◌, Bool, true, false, not, cond, ◌&&◌, ◌||◌, List, []}
use Rattle.std.proofs.Common.{◌∷◌, ◌++◌, ℤ, pos, ◌+ℤ◌, ◌-ℤ◌, ◌*ℤ◌, refl, sym, ap, ◌∙◌, inl, inr, arith, nat_eq, int_le}
use Rattle.std.proofs.Common.{if◌then◌else◌, IsTrue}
use Rattle.std.specs.List.{list_any, AllByRecursion}
use Rattle.std.proofs.lemmas.Bool.{false≢true}
use Rattle.std.proofs.lemmas.Bool.Decides.{nat_tests}
use Rattle.definitions.proofs.Ring.{linear, add-mulℤ, zero-mulℤ}
use Rattle.definitions.proofs.Members.{has_player-singleton, has_player-complement, sum_below-same, sum_below-zero}
use Rattle.definitions.proofs.Members.{sum_below-add, sum_below-times, sum_over-grand_coalition, sum_over-singleton}
use Rattle.definitions.proofs.Members.{sum_over-complement, weighted_sum-sum_over, scaled_either}
use Rattle.definitions.proofs.Cases.{less_or_last, nat_eq-same, or_cases, not_true, nat_eq-less, and_either}
use Rattle.definitions.proofs.Cases.{from_nat_eq, and_left}
use Rattle.definitions.proofs.Splits.{some_below-false}
use Rattle.definitions.proofs.Masks.{singleton-within}
use Rattle.definitions.proofs.Levels.{free_or_fixed}
use Rattle.definitions.specs.Sums.{sum_below, weighted_sum}
use Rattle.definitions.specs.Coalitions.{has_player, singleton, grand_coalition, sum_over, weight_at, some_below}
use Rattle.definitions.specs.Coalitions.{splits}
use Rattle.definitions.specs.Certificates.{Level, is_listed, has_bound, is_fixed, is_free, number_at, IsFixedVector}
use Rattle.definitions.specs.Certificates.{InSpan, IsOutside, IsAllFixed}
use Rattle.definitions.specs.declared.Mode.{Mode}
use Rattle.definitions.specs.declared.Mode.TheVariants.{Players, Span}
use Rattle.real_shares.proofs.Cones.{IsCone, Zero, zero-none, zero-same, zero-plus, zero-minus, zero-divided, zero-sum}
use Rattle.real_shares.proofs.Cones.{weighted-zero_terms}

-- ---- the weights of players

sum_below-one_out : (n k : ℕ) (w : ℤ) (d : ℕ → ℤ) → n ≤ k
    → sum_below n (λ i. (if nat_eq k i then w else pos 0) *ℤ d i) ≡ pos 0
sum_below-one_out n k w d h =
    sum_below-zero n (λ i. (if nat_eq k i then w else pos 0) *ℤ d i) (λ i lt. rw (apart_from i lt) (zero-mulℤ (d i)))
  where
    apart_from : (i : ℕ) → i < n → nat_eq k i ≡ false
    apart_from i lt = grind (arith, nat_tests)

-- the number of one player, times its weight
sum_below-one : (n k : ℕ) (w : ℤ) (d : ℕ → ℤ) → k < n
    → sum_below n (λ i. (if nat_eq k i then w else pos 0) *ℤ d i) ≡ w *ℤ d k
sum_below-one zero k w d h = absurd (omega arith)
sum_below-one (suc n) k w d h = elim (less_or_last k n h) [
  | inl less ↦ rw (nat_eq-less k n less) (omega (arith, linear, sum_below-one n k w d less, zero-mulℤ (d n)))
  | inr same ↦ rw same (rw (nat_eq-same n) (omega (arith, linear, sum_below-one_out n n w d (omega arith))))
]

weighted_sum-number_at : (n : ℕ) (d : ℕ → ℤ) (ps : List (ℕ × ℤ)) → AllByRecursion (λ b. b.0 < n) ps
    → weighted_sum d ps ≡ sum_below n (λ i. number_at ps i *ℤ d i)
weighted_sum-number_at n d [] h = sym (sum_below-zero n (λ i. pos 0 *ℤ d i) (λ i k. zero-mulℤ (d i)))
weighted_sum-number_at n d (p ∷ ps) h =
    let ih = weighted_sum-number_at n d ps h.1 in
    let one = sum_below-one n p.0 p.1 d h.0 in
    let both = sum_below-add n (λ i. (if nat_eq p.0 i then p.1 else pos 0) *ℤ d i) (λ i. number_at ps i *ℤ d i) in
    let same = sum_below-same n (λ i. number_at (p ∷ ps) i *ℤ d i)
    (λ i. (if nat_eq p.0 i then p.1 else pos 0) *ℤ d i +ℤ number_at ps i *ℤ d i)
    (λ i k. add-mulℤ (if nat_eq p.0 i then p.1 else pos 0) (number_at ps i) (d i)) in
    omega (arith, linear, ih, one, both, same)

-- ---- a level

-- the weighted numbers of a balanced level add to its total times the number of all
pub level-sum : (n : ℕ) (d : ℕ → ℤ) (l : Level) → AllByRecursion (λ b. b.0 < n) l.bounds
    → ((i : ℕ) → i < n → weight_at l.coalitions i +ℤ weight_at l.earlier i +ℤ number_at l.bounds i ≡ l.total)
    → weighted_sum (sum_over n d) l.coalitions +ℤ weighted_sum (sum_over n d) l.earlier +ℤ weighted_sum d l.bounds
    ≡ l.total *ℤ sum_over n d (grand_coalition n)
level-sum n d l within balanced =
    let a : ℕ → ℤ = λ i. weight_at l.coalitions i *ℤ d i in
    let b : ℕ → ℤ = λ i. weight_at l.earlier i *ℤ d i in
    let c : ℕ → ℤ = λ i. number_at l.bounds i *ℤ d i in
    let first = weighted_sum-sum_over n d l.coalitions in
    let second = weighted_sum-sum_over n d l.earlier in
    let third = weighted_sum-number_at n d l.bounds within in
    let two = sum_below-add n a b in
    let three = sum_below-add n (λ i. a i +ℤ b i) c in
    let joined = sum_below-same n (λ i. a i +ℤ b i +ℤ c i) (λ i. l.total *ℤ d i)
    (λ i k. joins (weight_at l.coalitions i) (weight_at l.earlier i) (number_at l.bounds i) l.total (d i)
    (balanced i k)) in
    let times = sum_below-times n d l.total in
    let all = ap (◌*ℤ◌ l.total) (sum_over-grand_coalition n d) in
    omega (arith, linear, first, second, third, two, three, joined, times, all)
  where
    joins : (u v w t z : ℤ) → u +ℤ v +ℤ w ≡ t → u *ℤ z +ℤ v *ℤ z +ℤ w *ℤ z ≡ t *ℤ z
    joins u v w t z e = omega (arith, linear, add-mulℤ (u +ℤ v) w z, add-mulℤ u v z, ap (λ k. k *ℤ z) e)

-- ---- what is settled

-- what the members of s differ by together
abbrev pub over : ℕ → (ℕ → ℕ → ℤ) → ℕ → ℕ → ℤ
over n D s k = sum_over n (λ i. D i k) s

-- the coalitions that are listed and the players that have a bound weight differ by nothing
pub record Settled (Low : (ℕ → ℤ) → Type 0) (n : ℕ) (D : ℕ → ℕ → ℤ) (front : List Level) : Type 0 where
  pub listed : (s : ℕ) → IsTrue (is_listed front s) → Zero Low (over n D s)
  pub bounded : (i : ℕ) → i < n → IsTrue (has_bound front i) → Zero Low (D i)

list_any-append : {X : Type 0} (p : X → Bool) (xs ys : List X)
    → list_any p (xs ++ ys) ≡ (list_any p xs || list_any p ys)
list_any-append p [] ys = refl
list_any-append p (x ∷ xs) ys =
    elim_or (p x) (list_any p (xs ++ ys)) (list_any p xs) (list_any p ys) (list_any-append p xs ys)
  where
    elim_or : (a b c e : Bool) → b ≡ (c || e) → (a || b) ≡ ((a || c) || e)
    elim_or a b c e h = grind arith

module _ {Low : (ℕ → ℤ) → Type 0} (K : IsCone Low) where
  pub Settled-none : (n : ℕ) (D : ℕ → ℕ → ℤ) → Settled Low n D []
  Settled-none n D = record { listed = λ s h. absurd (false≢true h); bounded = λ i k h. absurd (false≢true h) }

  -- a coalition of the pairs, each of whose columns is zero
  listed_zero : (F : ℕ → ℕ → ℤ) (ps : List (ℕ × ℤ)) (s : ℕ) → AllByRecursion (λ p. Zero Low (F p.0)) ps
      → list_any (λ c. nat_eq c.0 s) ps ≡ true → Zero Low (F s)
  listed_zero F [] s h e = absurd (false≢true e)
  listed_zero F (p ∷ ps) s h e = elim (or_cases (nat_eq p.0 s) (list_any (λ c. nat_eq c.0 s) ps) e) [
    | inl here ↦ zero-same K (F p.0) (F s) (λ k. ap (λ t. F t k) (sym (from_nat_eq p.0 s here))) h.0
    | inr there ↦ listed_zero F ps s h.1 there
  ]

  bound_zero : (F : ℕ → ℕ → ℤ) (ps : List (ℕ × ℤ)) (i : ℕ) → AllByRecursion (λ p. Zero Low (F p.0)) ps
      → list_any (λ b. nat_eq b.0 i && int_le (pos 1) b.1) ps ≡ true → Zero Low (F i)
  bound_zero F [] i h e = absurd (false≢true e)
  bound_zero F (p ∷ ps) i h e =
      elim (or_cases (nat_eq p.0 i && int_le (pos 1) p.1) (list_any (λ b. nat_eq b.0 i && int_le (pos 1) b.1) ps) e) [
        | inl here ↦
            let same = from_nat_eq p.0 i (and_left (nat_eq p.0 i) (int_le (pos 1) p.1) here) in
            zero-same K (F p.0) (F i) (λ k. ap (λ t. F t k) (sym same)) h.0
        | inr there ↦ bound_zero F ps i h.1 there
      ]

  pub earlier_zero : (n : ℕ) (D : ℕ → ℕ → ℤ) (front : List Level) → Settled Low n D front → (ps : List (ℕ × ℤ))
      → AllByRecursion (λ c. IsTrue (is_listed front c.0)) ps → AllByRecursion (λ p. Zero Low (over n D p.0)) ps
  earlier_zero n D front settled [] h = tt
  earlier_zero n D front settled (p ∷ ps) h = (settled.listed p.0 h.0, earlier_zero n D front settled ps h.1)

  -- a level none of whose coalitions rises is settled too
  pub Settled-more : (n : ℕ) (D : ℕ → ℕ → ℤ) (front : List Level) (l : Level) → Settled Low n D front
      → AllByRecursion (λ p. Zero Low (over n D p.0)) l.coalitions → AllByRecursion (λ p. Zero Low (D p.0)) l.bounds
      → Settled Low n D (front ++ l ∷ [])
  Settled-more n D front l settled zeros bounds = record {
    listed = λ s e. elim
        (or_cases (is_listed front s) (is_listed (l ∷ []) s)
        (sym (list_any-append (λ l. list_any (λ c. nat_eq c.0 s) l.coalitions) front (l ∷ [])) ∙ e)) [
          | inl before ↦ settled.listed s before
          | inr here ↦ elim (or_cases (list_any (λ c. nat_eq c.0 s) l.coalitions) false here)
              [ inl a ↦ listed_zero (over n D) l.coalitions s zeros a | inr a ↦ absurd (false≢true a) ]
        ];
    bounded = λ i k e. elim
        (or_cases (has_bound front i) (has_bound (l ∷ []) i)
        (sym (list_any-append (λ l. list_any (λ b. nat_eq b.0 i && int_le (pos 1) b.1) l.bounds) front (l ∷ []))
        ∙ e)) [
          | inl before ↦ settled.bounded i k before
          | inr here ↦ elim (or_cases (list_any (λ b. nat_eq b.0 i && int_le (pos 1) b.1) l.bounds) false here)
              [ inl a ↦ bound_zero D l.bounds i bounds a | inr a ↦ absurd (false≢true a) ]
        ];
  }

  -- ---- mode players

  -- a player that is fixed differs by nothing
  fixed_zero : (n : ℕ) (D : ℕ → ℕ → ℤ) (front : List Level) → Settled Low n D front
      → Zero Low (over n D (grand_coalition n)) → (i : ℕ) → i < n → is_fixed n front i ≡ true → Zero Low (D i)
  fixed_zero n D front settled all i h e =
      elim
      (or_cases (is_listed front (singleton i) || is_listed front (grand_coalition n - singleton i))
      (has_bound front i) e) [
        | inl a ↦ elim
            (or_cases (is_listed front (singleton i)) (is_listed front (grand_coalition n - singleton i)) a) [
              | inl b ↦ zero-same K (over n D (singleton i)) (D i)
                  (λ k. sym (sum_over-singleton n i (λ j. D j k) h))
                  (settled.listed (singleton i) b)
              | inr b ↦ zero-minus K (over n D (grand_coalition n)) (over n D (grand_coalition n - singleton i))
                  (D i)
                  (rest_is n D i h) all (settled.listed (grand_coalition n - singleton i) b)
            ]
        | inr a ↦ settled.bounded i h a
      ]
    where
      rest_is : (n : ℕ) (D : ℕ → ℕ → ℤ) (i : ℕ) → i < n → (k : ℕ)
          → D i k ≡ over n D (grand_coalition n) k -ℤ over n D (grand_coalition n - singleton i) k
      rest_is n D i h k =
          omega (
            arith,
            linear,
            sum_over-complement n (singleton i) (λ j. D j k) (singleton-within n i h),
            sum_over-singleton n i (λ j. D j k) h,
            sum_over-grand_coalition n (λ j. D j k),
          )

  -- a coalition that holds all or none of the free players differs by nothing
  unsplit_zero : (n : ℕ) (D : ℕ → ℕ → ℤ) (front : List Level) → Settled Low n D front
      → Zero Low (over n D (grand_coalition n)) → (s : ℕ) → splits n (is_free n front) s ≡ false
      → Zero Low (over n D s)
  unsplit_zero n D front settled all s e =
      elim
      (and_either (some_below n (λ i. is_free n front i && has_player s i))
      (some_below n (λ i. is_free n front i && not (has_player s i))) e) [
        | inl none ↦ zero-sum K n (λ i k. if has_player s i then D i k else pos 0)
            (λ i h. in_none i (is_free n front i) (has_player s i) (known i h) (some_below-false n _ none i h))
        | inr every ↦ zero-plus K (λ k. sum_below n (λ i. (if has_player s i then D i k else pos 0) -ℤ D i k))
            (over n D (grand_coalition n)) (over n D s) parts
            (zero-sum K n (λ i k. (if has_player s i then D i k else pos 0) -ℤ D i k)
            (λ i h. in_all i (is_free n front i) (has_player s i) (known i h) (some_below-false n _ every i h)))
            all
      ]
    where
      known : (i : ℕ) → i < n → (is_free n front i ≡ true) ⊎ Zero Low (D i)
      known i h =
          elim (free_or_fixed n front i) [ inl a ↦ inl a | inr a ↦ inr (fixed_zero n D front settled all i h a) ]

      in_none : (i : ℕ) (f t : Bool) → (f ≡ true) ⊎ Zero Low (D i) → (f && t) ≡ false
          → Zero Low (λ k. cond t (D i k) (pos 0))
      in_none i f false u e = zero-none K
      in_none i true true (inl u) e = absurd (false≢true (sym e))
      in_none i false true (inl u) e = absurd (false≢true u)
      in_none i f true (inr u) e = u

      nothing : (i : ℕ) → Zero Low (λ k. D i k -ℤ D i k)
      nothing i = zero-same K (λ k. pos 0) (λ k. D i k -ℤ D i k) (λ k. omega (arith, linear)) (zero-none K)

      in_all : (i : ℕ) (f t : Bool) → (f ≡ true) ⊎ Zero Low (D i) → (f && not t) ≡ false
          → Zero Low (λ k. cond t (D i k) (pos 0) -ℤ D i k)
      in_all i f true u e = nothing i
      in_all i true false (inl u) e = absurd (false≢true (sym e))
      in_all i false false (inl u) e = absurd (false≢true u)
      in_all i f false (inr u) e = zero-minus K (λ k. pos 0) (D i) (λ k. pos 0 -ℤ D i k) (λ k. refl) (zero-none K) u

      parts : (k : ℕ)
          → over n D s k
          ≡ sum_below n (λ i. (if has_player s i then D i k else pos 0) -ℤ D i k)
          +ℤ over n D (grand_coalition n) k
      parts k =
          let a : ℕ → ℤ = λ i. (if has_player s i then D i k else pos 0) -ℤ D i k in
          let b : ℕ → ℤ = λ i. D i k in
          let same = sum_below-same n (λ i. a i +ℤ b i) (λ i. if has_player s i then D i k else pos 0)
          (λ i h. omega (arith, linear)) in
          omega (arith, linear, same, sum_below-add n a b, sum_over-grand_coalition n b)

  -- ---- mode span

  fixed_vector_zero : (n : ℕ) (D : ℕ → ℕ → ℤ) (front : List Level) → Settled Low n D front
      → Zero Low (over n D (grand_coalition n)) → (s : ℕ) → IsFixedVector n front s → Zero Low (over n D s)
  fixed_vector_zero n D front settled all s (inl e) =
      zero-same K (over n D (grand_coalition n)) (over n D s) (λ k. ap (λ t. over n D t k) e) all
  fixed_vector_zero n D front settled all s (inr (inl e)) = settled.listed s e
  fixed_vector_zero n D front settled all s (inr (inr (i, h, e, b))) =
      zero-same K (D i) (over n D s) (λ k. ap (λ t. over n D t k) e ∙ sum_over-singleton n i (λ j. D j k) h)
      (settled.bounded i h b)

  fixed_vectors_zero : (n : ℕ) (D : ℕ → ℕ → ℤ) (front : List Level) → Settled Low n D front
      → Zero Low (over n D (grand_coalition n)) → (ps : List (ℕ × ℤ))
      → AllByRecursion (λ p. IsFixedVector n front p.0) ps → AllByRecursion (λ p. Zero Low (over n D p.0)) ps
  fixed_vectors_zero n D front settled all [] h = tt
  fixed_vectors_zero n D front settled all (p ∷ ps) h =
      (fixed_vector_zero n D front settled all p.0 h.0, fixed_vectors_zero n D front settled all ps h.1)

  span_zero : (n : ℕ) (D : ℕ → ℕ → ℤ) (front : List Level) → Settled Low n D front
      → Zero Low (over n D (grand_coalition n)) → (s : ℕ) → InSpan n (IsFixedVector n front) s
      → Zero Low (over n D s)
  span_zero n D front settled all s (m, ne, ps, fixed, sums) =
      let zero_sum = weighted-zero_terms K (over n D) ps (fixed_vectors_zero n D front settled all ps fixed) in
      zero-divided K m (over n D s) ne
      (zero-same K (λ k. weighted_sum (λ t. over n D t k) ps) (λ k. m *ℤ over n D s k) exchanged zero_sum)
    where
      exchanged : (k : ℕ) → m *ℤ over n D s k ≡ weighted_sum (λ t. over n D t k) ps
      exchanged k =
          let d : ℕ → ℤ = λ i. D i k in
          let exchange = weighted_sum-sum_over n d ps in
          let each = sum_below-same n (λ i. weight_at ps i *ℤ d i) (λ i. m *ℤ (if has_player s i then d i else pos 0))
          (λ i h. ap (λ w. w *ℤ d i) (sums i h) ∙ scaled_either (has_player s i) m (d i)) in
          let times = sum_below-times n (λ i. if has_player s i then d i else pos 0) m in
          sym (exchange ∙ each ∙ times)

  -- ---- both modes

  -- a coalition that isn't outside differs by nothing
  pub inside_zero : (mode : Mode) (n : ℕ) (D : ℕ → ℕ → ℤ) (front : List Level) → Settled Low n D front
      → Zero Low (over n D (grand_coalition n)) → (s : ℕ) → 0 < s → s < grand_coalition n
      → ¬ IsOutside mode n front s → Zero Low (over n D s)
  inside_zero Players n D front settled all s low high not_outside =
      unsplit_zero n D front settled all s (not_true (splits n (is_free n front) s) not_outside)
  inside_zero Span n D front settled all s low high not_outside =
      let minus : ℕ → ℤ = λ k. pos 0 -ℤ over n D s k in
      elim (K.decided (over n D s)) [
        | inr up ↦ absurd (not_outside (low, high, λ spanned. up (span_zero n D front settled all s spanned).0))
        | inl down ↦ elim (K.decided minus) [
          | inr up ↦ absurd (not_outside (low, high, λ spanned. up (span_zero n D front settled all s spanned).1))
          | inl both ↦ (down, both)
        ]
      ]

  -- where everything is fixed, no player differs
  pub all_fixed_zero : (mode : Mode) (n : ℕ) (D : ℕ → ℕ → ℤ) (front : List Level) → Settled Low n D front
      → Zero Low (over n D (grand_coalition n)) → IsAllFixed mode n front → (i : ℕ) → i < n → Zero Low (D i)
  all_fixed_zero Players n D front settled all one i h = elim (free_or_fixed n front i) [
    | inl free ↦
        let same : (j : ℕ) → j < n → (i ≡ j) ⊎ Zero Low (D j) = λ j k. elim (free_or_fixed n front j)
        [ inl a ↦ inl (one i j h k free a) | inr a ↦ inr (fixed_zero n D front settled all j k a) ] in
        let others = zero-sum K n (λ j k. if has_player (grand_coalition n - singleton i) j then D j k else pos 0)
        (λ j k. others_zero j k (same j k)) in
        zero-minus K (over n D (grand_coalition n)) (over n D (grand_coalition n - singleton i)) (D i) rest_is all
        others
    | inr fixed ↦ fixed_zero n D front settled all i h fixed
  ]
    where
      rest_is : (k : ℕ) → D i k ≡ over n D (grand_coalition n) k -ℤ over n D (grand_coalition n - singleton i) k
      rest_is k =
          omega (
            arith,
            linear,
            sum_over-complement n (singleton i) (λ j. D j k) (singleton-within n i h),
            sum_over-singleton n i (λ j. D j k) h,
            sum_over-grand_coalition n (λ j. D j k),
          )

      either : (b : Bool) (j : ℕ) → Zero Low (D j) → Zero Low (λ k. cond b (D j k) (pos 0))
      either true j u = u
      either false j u = zero-none K

      lacks : (b : Bool) (j : ℕ) → b ≡ false → Zero Low (λ k. cond b (D j k) (pos 0))
      lacks b j e = grind (arith, zero-none)

      others_zero : (j : ℕ) → j < n → (i ≡ j) ⊎ Zero Low (D j)
          → Zero Low (λ k. if has_player (grand_coalition n - singleton i) j then D j k else pos 0)
      others_zero j lt (inl e) =
          lacks (has_player (grand_coalition n - singleton i) j) j
          (has_player-complement n (singleton i) j (singleton-within n i h) lt
          ∙ ap not (ap (has_player (singleton i)) (sym e) ∙ has_player-singleton i))
      others_zero j lt (inr u) = either (has_player (grand_coalition n - singleton i) j) j u
  all_fixed_zero Span n D front settled all spanned i h =
      zero-same K (over n D (singleton i)) (D i) (λ k. sym (sum_over-singleton n i (λ j. D j k) h))
      (span_zero n D front settled all (singleton i) (spanned i h))
