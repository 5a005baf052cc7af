-- What is gathered from finitely many numbers, where their order doesn't matter: a bijection of their places changes
-- nothing. Sums are so, and so are lists from the greatest.
use Rattle.std.proofs.Common.{◌≡◌, ◌≢◌, ℕ, zero, suc, ◌+◌, ◌<◌, Bool, cond, nat_eq, List, [], ◌∷◌, map, ℤ, pos, ◌+ℤ◌}
use Rattle.std.proofs.Common.{◌<ℤ◌, int_lt, refl, sym, ap, subst, ◌∙◌, inl, inr, arith, if◌then◌else◌}
use Rattle.std.specs.List.{range_with_len}
use Rattle.std.proofs.lemmas.Int.{by_lt_z, ints}
use Rattle.definitions.proofs.Ring.{linear}
use Rattle.definitions.proofs.Scans.{int_lt-true, int_lt-false}
use Rattle.definitions.proofs.Cases.{less_or_last, same_or_other, nat_eq-other, nat_eq-equal}
use Rattle.definitions.specs.Sums.{sum_below}
use Rattle.definitions.specs.Order.{with_number, sorted}
use Rattle.law_answers.specs.Renumbering.{IsRenumbering}

-- f with another number in the place m
abbrev put : (ℕ → ℤ) → ℕ → ℤ → ℕ → ℤ
put f m v t = if nat_eq t m then v else f t

put_here : (f : ℕ → ℤ) (m t : ℕ) (v : ℤ) → t ≡ m → put f m v t ≡ v
put_here f m t v e = rw (nat_eq-equal t m e) refl

put_other : (f : ℕ → ℤ) (m t : ℕ) (v : ℤ) → t ≢ m → put f m v t ≡ f t
put_other f m t v ne = rw (nat_eq-other t m ne) refl

-- a map with another number in the place m
abbrev placed : (ℕ → ℕ) → ℕ → ℕ → ℕ → ℕ
placed to m p t = if nat_eq t m then p else to t

placed_here : (to : ℕ → ℕ) (m t p : ℕ) → t ≡ m → placed to m p t ≡ p
placed_here to m t p e = rw (nat_eq-equal t m e) refl

placed_other : (to : ℕ → ℕ) (m t p : ℕ) → t ≢ m → placed to m p t ≡ to t
placed_other to m t p ne = rw (nat_eq-other t m ne) refl

-- a bijection of suc k places that keeps the last one is one of k places
kept_last : (k : ℕ) (to back : ℕ → ℕ) → IsRenumbering (suc k) to back → to k ≡ k → IsRenumbering k to back
kept_last k to back r e =
    let back_last : back k ≡ k = ap back (sym e) ∙ r.back_to k (omega arith) in
    record {
      to_within = λ t lt. elim (less_or_last (to t) k (r.to_within t (omega arith))) [
        | inl less ↦ less
        | inr same ↦ absurd
            (let is : t ≡ k = sym (r.back_to t (omega arith)) ∙ ap back same ∙ back_last in omega (arith, lt, is))
      ];
      back_within = λ t lt. elim (less_or_last (back t) k (r.back_within t (omega arith))) [
        | inl less ↦ less
        | inr same ↦ absurd
            (let is : t ≡ k = sym (r.to_back t (omega arith)) ∙ ap to same ∙ e in omega (arith, lt, is))
      ];
      back_to = λ t lt. r.back_to t (omega arith);
      to_back = λ t lt. r.to_back t (omega arith);
    }

-- and one that puts p in the last place, and the last in m, is one of k places where it puts p in m
cut_last : (k : ℕ) (to back : ℕ → ℕ) → IsRenumbering (suc k) to back → to k < k
    → IsRenumbering k (placed to (back k) (to k)) (placed back (to k) (back k))
cut_last k to back r less = record {
  to_within = λ t lt. elim (same_or_other t m) [
    | inl is ↦ rw (placed_here to m t p is) less
    | inr other ↦ rw (placed_other to m t p other) (to_other t lt other)
  ];
  back_within = λ t lt. elim (same_or_other t p) [
    | inl is ↦ rw (placed_here back p t m is) m_less
    | inr other ↦ rw (placed_other back p t m other) (back_other t lt other)
  ];
  back_to = λ t lt. elim (same_or_other t m) [
    | inl is ↦ ap (placed back p m) (placed_here to m t p is) ∙ placed_here back p p m refl ∙ sym is
    | inr other ↦
        ap (placed back p m) (placed_other to m t p other)
        ∙ placed_other back p (to t) m (λ e. to_apart t lt e) ∙ r.back_to t (omega arith)
  ];
  to_back = λ t lt. elim (same_or_other t p) [
    | inl is ↦ ap (placed to m p) (placed_here back p t m is) ∙ placed_here to m m p refl ∙ sym is
    | inr other ↦
        ap (placed to m p) (placed_other back p t m other)
        ∙ placed_other to m (back t) p (λ e. back_apart t lt e) ∙ r.to_back t (omega arith)
  ];
}
  where
    p : ℕ
    p = to k

    m : ℕ
    m = back k

    m_less : back k < k
    m_less = elim (less_or_last (back k) k (r.back_within k (omega arith))) [
      | inl lt ↦ lt
      | inr same ↦ absurd
          (let is : to k ≡ k = ap to (sym same) ∙ r.to_back k (omega arith) in omega (arith, less, is))
    ]

    to_other : (t : ℕ) → t < k → t ≢ back k → to t < k
    to_other t lt other = elim (less_or_last (to t) k (r.to_within t (omega arith))) [
      | inl less ↦ less
      | inr same ↦ absurd (other (sym (r.back_to t (omega arith)) ∙ ap back same))
    ]

    back_other : (t : ℕ) → t < k → t ≢ to k → back t < k
    back_other t lt other = elim (less_or_last (back t) k (r.back_within t (omega arith))) [
      | inl less ↦ less
      | inr same ↦ absurd (other (sym (r.to_back t (omega arith)) ∙ ap to same))
    ]

    to_apart : (t : ℕ) → t < k → to t ≡ to k → ⊥
    to_apart t lt e =
        let is : t ≡ k = sym (r.back_to t (omega arith)) ∙ ap back e ∙ r.back_to k (omega arith) in
        omega (arith, lt, is)

    back_apart : (t : ℕ) → t < k → back t ≡ back k → ⊥
    back_apart t lt e =
        let is : t ≡ k = sym (r.to_back t (omega arith)) ∙ ap to e ∙ r.to_back k (omega arith) in
        omega (arith, lt, is)

module _ {B : Type 0} (op : ℤ → B → B) (none : B) (commutes : (a b : ℤ) (l : B) → op a (op b l) ≡ op b (op a l))
  where
    abbrev pub gathered : (ℕ → ℤ) → ℕ → B
    gathered f zero = none
    gathered f (suc k) = op (f k) (gathered f k)

    pub gathered_same : (f h : ℕ → ℤ) (k : ℕ) → ((t : ℕ) → t < k → f t ≡ h t) → gathered f k ≡ gathered h k
    gathered_same f h zero each = refl
    gathered_same f h (suc k) each =
        ap (λ z. op z (gathered f k)) (each k (omega arith))
        ∙ ap (op (h k)) (gathered_same f h k (λ t lt. each t (omega arith)))

    -- the number from outside and that in the place m can be exchanged
    exchange : (f : ℕ → ℤ) (m k : ℕ) (u v : ℤ) → m < k
        → op u (gathered (put f m v) k) ≡ op v (gathered (put f m u) k)
    exchange f m zero u v lt = absurd (omega arith)
    exchange f m (suc k) u v lt = elim (less_or_last m k lt) [
      | inl less ↦
          (let at_v = put_other f m k v (λ e. omega (arith, less, e)) in
          let at_u = put_other f m k u (λ e. omega (arith, less, e)) in
          ap (λ z. op u (op z (gathered (put f m v) k))) at_v ∙ commutes u (f k) (gathered (put f m v) k)
          ∙ ap (op (f k)) (exchange f m k u v less) ∙ commutes (f k) v (gathered (put f m u) k)
          ∙ ap (λ z. op v (op z (gathered (put f m u) k))) (sym at_u))
      | inr same ↦
          (let rest_v = gathered_same (put f m v) f k (λ t h. put_other f m t v (λ e. omega (arith, h, e, same))) in
          let rest_u = gathered_same (put f m u) f k (λ t h. put_other f m t u (λ e. omega (arith, h, e, same))) in
          ap (λ z. op u (op z (gathered (put f m v) k))) (put_here f m k v (sym same))
          ∙ ap (λ z. op u (op v z)) rest_v ∙ commutes u v (gathered f k) ∙ ap (λ z. op v (op u z)) (sym rest_u)
          ∙ ap (λ z. op v (op z (gathered (put f m u) k))) (sym (put_here f m k u (sym same))))
    ]

    -- a bijection of the places
    pub gathered_renumbered : (k : ℕ) (to back : ℕ → ℕ) (f : ℕ → ℤ) → IsRenumbering k to back
        → gathered (λ t. f (to t)) k ≡ gathered f k
    gathered_renumbered zero to back f r = refl
    gathered_renumbered (suc k) to back f r = elim (less_or_last (to k) k (r.to_within k (omega arith))) [
      | inr same ↦
          ap (op (f (to k))) (gathered_renumbered k to back f (kept_last k to back r same))
          ∙ ap (λ (t : ℕ). op (f t) (gathered f k)) same
      | inl less ↦
          (let p = to k in
          let m = back k in
          let cut = placed to m p in
          let whole = cut_last k to back r less in
          let m_less : m < k = elim (less_or_last m k (r.back_within k (omega arith))) [
            | inl lt ↦ lt
            | inr last ↦ absurd
                (let is : to k ≡ k = ap to (sym last) ∙ r.to_back k (omega arith) in omega (arith, less, is))
          ] in
          let before : gathered (λ t. f (to t)) k ≡ gathered (put (λ t. f (cut t)) m (f k)) k =
          gathered_same (λ t. f (to t)) (put (λ t. f (cut t)) m (f k)) k
          (λ t lt. elim (same_or_other t m) [
            | inl is ↦ ap f (ap to is ∙ r.to_back k (omega arith)) ∙ sym (put_here (λ t. f (cut t)) m t (f k) is)
            | inr other ↦
                ap f (sym (placed_other to m t p other)) ∙ sym (put_other (λ t. f (cut t)) m t (f k) other)
          ]) in
          let after : gathered (put (λ t. f (cut t)) m (f p)) k ≡ gathered (λ t. f (cut t)) k =
          gathered_same (put (λ t. f (cut t)) m (f p)) (λ t. f (cut t)) k
          (λ t lt. elim (same_or_other t m) [
            | inl is ↦ put_here (λ t. f (cut t)) m t (f p) is ∙ ap f (sym (placed_here to m t p is))
            | inr other ↦ put_other (λ t. f (cut t)) m t (f p) other
          ]) in
          ap (op (f p)) before ∙ exchange (λ t. f (cut t)) m k (f p) (f k) m_less
          ∙ ap (op (f k)) (after ∙ gathered_renumbered k cut (placed back p m) f whole))
    ]

    -- the first number can be taken last
    pub gathered_front : (f : ℕ → ℤ) (k : ℕ) → gathered f (suc k) ≡ op (f 0) (gathered (λ t. f (suc t)) k)
    gathered_front f zero = refl
    gathered_front f (suc k) =
        ap (op (f (suc k))) (gathered_front f k) ∙ commutes (f (suc k)) (f 0) (gathered (λ t. f (suc t)) k)

-- ---- sums

abbrev add_last : ℤ → ℤ → ℤ
add_last a l = l +ℤ a

add_commutes : (a b l : ℤ) → add_last a (add_last b l) ≡ add_last b (add_last a l)
add_commutes a b l = omega (arith, linear)

sum_gathered : (f : ℕ → ℤ) (n : ℕ) → sum_below n f ≡ gathered add_last (pos 0) add_commutes f n
sum_gathered f zero = refl
sum_gathered f (suc n) = ap (λ z. z +ℤ f n) (sum_gathered f n)

pub sum_below-renumbered : (n : ℕ) (to back : ℕ → ℕ) (f : ℕ → ℤ) → IsRenumbering n to back
    → sum_below n (λ i. f (to i)) ≡ sum_below n f
sum_below-renumbered n to back f r =
    sum_gathered (λ i. f (to i)) n ∙ gathered_renumbered add_last (pos 0) add_commutes n to back f r
    ∙ sym (sum_gathered f n)

-- ---- lists from the greatest

less_commutes : (a b : ℤ) → a <ℤ b → (l : List ℤ)
    → with_number a (with_number b l) ≡ with_number b (with_number a l)
less_commutes a b lt [] = rw (int_lt-true a b lt) (rw (int_lt-false b a (omega (arith, linear, lt))) refl)
less_commutes a b lt (x ∷ l) = both (int_lt x a) (int_lt x b) refl refl (less_commutes a b lt l)
  where
    both : (p q : Bool) → int_lt x a ≡ p → int_lt x b ≡ q
        → with_number a (with_number b l) ≡ with_number b (with_number a l)
        → with_number a (cond q (b ∷ (x ∷ l)) (x ∷ with_number b l))
        ≡ with_number b (cond p (a ∷ (x ∷ l)) (x ∷ with_number a l))
    both p q e f ih = grind (arith, ints, int_lt-false, int_lt-true)

pub with_number-commutes : (a b : ℤ) (l : List ℤ)
    → with_number a (with_number b l) ≡ with_number b (with_number a l)
with_number-commutes a b l =
    by_lt_z a b (λ lt. less_commutes a b lt l)
    (λ le. by_lt_z b a (λ lt. sym (less_commutes b a lt l))
    (λ ge. subst (λ (c : ℤ). with_number a (with_number c l) ≡ with_number c (with_number a l))
    (omega (arith, linear, le, ge)) refl))

sorted_gathered : (f : ℕ → ℤ) (a k : ℕ)
    → sorted (map f (range_with_len a k)) ≡ gathered with_number [] with_number-commutes (λ t. f (a + t)) k
sorted_gathered f a zero = refl
sorted_gathered f a (suc k) =
    let same : gathered with_number [] with_number-commutes (λ t. f (a + 1 + t)) k
    ≡ gathered with_number [] with_number-commutes (λ t. f (a + suc t)) k =
    gathered_same with_number [] with_number-commutes (λ t. f (a + 1 + t)) (λ t. f (a + suc t)) k
    (λ t lt. ap f (shift t)) in
    let first : f a ≡ f (a + 0) = ap f (omega arith) in
    ap (with_number (f a)) (sorted_gathered f (a + 1) k ∙ same)
    ∙ ap (λ (z : ℤ). with_number z (gathered with_number [] with_number-commutes (λ t. f (a + suc t)) k)) first
    ∙ sym (gathered_front with_number [] with_number-commutes (λ t. f (a + t)) k)
  where
    shift : (t : ℕ) → a + 1 + t ≡ a + suc t
    shift t = omega arith

-- numbers on places from a on, by a bijection of the places
pub sorted-renumbered : (f h : ℕ → ℤ) (a k : ℕ) (to back : ℕ → ℕ) → IsRenumbering k to back
    → ((t : ℕ) → t < k → h (a + t) ≡ f (a + to t))
    → sorted (map h (range_with_len a k)) ≡ sorted (map f (range_with_len a k))
sorted-renumbered f h a k to back r each =
    sorted_gathered h a k
    ∙ gathered_same with_number [] with_number-commutes (λ t. h (a + t)) (λ t. f (a + to t)) k each
    ∙ gathered_renumbered with_number [] with_number-commutes k to back (λ t. f (a + t)) r
    ∙ sym (sorted_gathered f a k)
