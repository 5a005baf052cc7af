-- Of finitely many linear forms on the points that meet rows: a point whose values, from the greatest, come first,
-- found level by level (Maschler, Peleg and Shapley 1979).
use Rattle.std.proofs.Common.{◌≡◌, ◌⊎◌, ℕ, zero, suc, ◌<◌, List, [], ◌∷◌, ◌++◌, length, ℤ, pos, neg_ℤ, ◌+ℤ◌, ◌*ℤ◌, ◌<ℤ◌}
use Rattle.std.proofs.Common.{◌≤ℤ◌, refl, sym, ap, subst, ◌∙◌, inl, inr, arith, nat_eq, if◌then◌else◌}
use Rattle.std.specs.List.{AllByRecursion}
use Rattle.std.proofs.lemmas.Int.{by_lt_z}
use Rattle.definitions.proofs.Ring.{linear, mul-addℤ, mul_left_commℤ, mul-leℤ, mul-le_cancelℤ, mul-nonnegativeℤ}
use Rattle.definitions.proofs.Ring.{mul-positiveℤ}
use Rattle.definitions.proofs.Members.{sum_below-same, sum_below-add, sum_below-times}
use Rattle.definitions.proofs.Alls.{all_weaken, all_with, all_join, all_left, all_right}
use Rattle.definitions.proofs.Cases.{nat_eq-other, less_or_last, same_or_other}
use Rattle.law_duality.proofs.Elimination.{Row, value_at, Meets, combined, value_combined}
use Rattle.law_duality.proofs.Farkas.{unit_at, sum_below-unit}
use Rattle.law_duality.proofs.LeastValues.{In, IsUnder, least_value}
use Rattle.theorems.proofs.Products.{products, sorted_products}

-- ---- lists of numbers

abbrev pub Member : ℕ → List ℕ → Type 0
Member i [] = ⊥
Member i (j ∷ js) = (i ≡ j) ⊎ Member i js

pub all_member : (P : ℕ → Type 0) (js : List ℕ) (i : ℕ) → AllByRecursion P js → Member i js → P i
all_member P [] i h k = absurd k
all_member P (j ∷ js) i h k = elim k [ inl e ↦ subst P (sym e) h.0 | inr rest ↦ all_member P js i h.1 rest ]

-- a member of a kind, and the others
pub record Choice (P : ℕ → Type 0) (js : List ℕ) : Type 0 where
  pub one : ℕ
  pub is : P one
  pub chosen : Member one js
  pub rest : List ℕ
  pub fewer : suc (length rest) ≡ length js
  pub members : (i : ℕ) → Member i js → (i ≡ one) ⊎ Member i rest
  pub kept : (i : ℕ) → Member i rest → Member i js

pub pick : (P Q : ℕ → Type 0) (js : List ℕ) → ((j : ℕ) → Member j js → P j ⊎ Q j)
    → Choice P js ⊎ AllByRecursion Q js
pick P Q [] decide = inr tt
pick P Q (j ∷ js) decide = elim (decide j (inl refl)) [
  | inl p ↦ inl
      (record
      { one = j; is = p; chosen = inl refl; rest = js; fewer = refl; members = λ i k. k; kept = λ i k. inr k })
  | inr q ↦ elim (pick P Q js (λ i k. decide i (inr k))) [
    | inl c ↦ inl (record {
      one = c.one;
      is = c.is;
      chosen = inr c.chosen;
      rest = j ∷ c.rest;
      fewer = ap suc c.fewer;
      members = λ i k. elim k
          [ inl e ↦ inr (inl e) | inr m ↦ elim (c.members i m) [ inl e ↦ inl e | inr r ↦ inr (inr r) ] ];
      kept = λ i k. elim k [ inl e ↦ inl e | inr m ↦ inr (c.kept i m) ];
    })
    | inr all ↦ inr (q, all)
  ]
]

abbrev pub upto : ℕ → List ℕ
upto zero = []
upto (suc m) = m ∷ upto m

pub upto_member : (m i : ℕ) → i < m → Member i (upto m)
upto_member zero i h = absurd (omega arith)
upto_member (suc m) i h = elim (less_or_last i m h) [ inl less ↦ inr (upto_member m i less) | inr same ↦ inl same ]

pub upto_below : (m i : ℕ) → Member i (upto m) → i < m
upto_below zero i h = absurd h
upto_below (suc m) i h =
    elim h [ inl e ↦ omega (arith, e) | inr r ↦ (let lt = upto_below m i r in omega (arith, lt)) ]

-- ---- values at changed points

abbrev pub val : ℕ → Row → Row → ℤ
val n y u = value_at (suc (suc n)) y u

-- no entry for unknown 1
abbrev pub Flat : Row → Type 0
Flat u = u 1 ≡ pos 0

abbrev tight : Row → Row
tight u = combined (pos 1) (neg_ℤ (pos 1)) (unit_at 1) u

val_tight : (n : ℕ) (y u : Row) → val n y (tight u) ≡ y 1 +ℤ neg_ℤ (val n y u)
val_tight n y u =
    omega (
      products,
      value_combined (suc (suc n)) y (pos 1) (neg_ℤ (pos 1)) (unit_at 1) u,
      sum_below-unit (suc (suc n)) 1 y (omega arith),
    )

abbrev capped : ℤ → ℤ → Row → Row
capped p q u = combined p (neg_ℤ q) (unit_at 0) u

pub val_capped : (n : ℕ) (p q : ℤ) (y u : Row) → val n y (capped p q u) ≡ p *ℤ y 0 +ℤ neg_ℤ (q *ℤ val n y u)
val_capped n p q y u =
    omega (
      products,
      value_combined (suc (suc n)) y p (neg_ℤ q) (unit_at 0) u,
      ap (◌*ℤ◌ p) (sum_below-unit (suc (suc n)) 0 y (omega arith)),
    )

capped_flat : (p q : ℤ) (u : Row) → Flat u → Flat (capped p q u)
capped_flat p q u h = omega (products, ap (◌*ℤ◌ (neg_ℤ q)) h)

abbrev pub set_one : ℤ → Row → Row
set_one t y = λ i. if nat_eq i 1 then t else y i

pub set_zero : (t : ℤ) (y : Row) → set_one t y 0 ≡ y 0
set_zero t y = refl

pub set_at : (t : ℤ) (y : Row) → set_one t y 1 ≡ t
set_at t y = refl

pub val_set : (n : ℕ) (t : ℤ) (y u : Row) → Flat u → val n (set_one t y) u ≡ val n y u
val_set n t y u flat =
    sum_below-same (suc (suc n)) (λ i. u i *ℤ set_one t y i) (λ i. u i *ℤ y i) (λ i lt. elim (same_or_other i 1) [
      | inl e ↦
          (let z = ap u e ∙ flat in
          omega (products, ap (λ (k : ℤ). k *ℤ set_one t y i) z, ap (λ (k : ℤ). k *ℤ y i) z))
      | inr ne ↦ rw (nat_eq-other i 1 ne) refl
    ])

pub in_set : (n : ℕ) (us : List Row) (t : ℤ) (y : Row) → AllByRecursion Flat us → In (suc n) us y
    → In (suc n) us (set_one t y)
in_set n us t y flat h = (
  omega (arith, linear, h.0, set_zero t y),
  all_with Flat (Meets (suc (suc n)) y) (Meets (suc (suc n)) (set_one t y)) us
      (λ u f le. omega (arith, linear, le, val_set n t y u f)) flat h.1,
)

abbrev pub added : Row → Row → Row
added y z = λ i. y i +ℤ z i

pub val_added : (n : ℕ) (y z u : Row) → val n (added y z) u ≡ val n y u +ℤ val n z u
val_added n y z u =
    sum_below-same (suc (suc n)) (λ i. u i *ℤ added y z i) (λ i. u i *ℤ y i +ℤ u i *ℤ z i)
    (λ i lt. mul-addℤ (u i) (y i) (z i)) ∙ sum_below-add (suc (suc n)) (λ i. u i *ℤ y i) (λ i. u i *ℤ z i)

in_added : (n : ℕ) (us : List Row) (y z : Row) → In (suc n) us y → In (suc n) us z → In (suc n) us (added y z)
in_added n us y z h k = (
  omega (arith, linear, h.0, k.0),
  all_with (Meets (suc (suc n)) y) (Meets (suc (suc n)) z) (Meets (suc (suc n)) (added y z)) us
      (λ u a b. omega (arith, linear, a, b, val_added n y z u)) h.1 k.1,
)

abbrev pub scaled : ℤ → Row → Row
scaled q y = λ i. q *ℤ y i

pub val_scaled : (n : ℕ) (q : ℤ) (y u : Row) → val n (scaled q y) u ≡ q *ℤ val n y u
val_scaled n q y u =
    sum_below-same (suc (suc n)) (λ i. u i *ℤ scaled q y i) (λ i. q *ℤ (u i *ℤ y i))
    (λ i lt. mul_left_commℤ (u i) q (y i)) ∙ sum_below-times (suc (suc n)) (λ i. u i *ℤ y i) q

pub in_scaled : (n : ℕ) (us : List Row) (q : ℤ) (y : Row) → pos 0 <ℤ q → In (suc n) us y
    → In (suc n) us (scaled q y)
in_scaled n us q y hq h = (
  (let p = mul-positiveℤ q (y 0) hq (omega (arith, linear, h.0)) in omega (arith, linear, p)),
  all_weaken (Meets (suc (suc n)) y) (Meets (suc (suc n)) (scaled q y)) us
      (λ u a. omega
      (arith, linear, mul-nonnegativeℤ q (val n y u) (omega (arith, linear, hq)) a, val_scaled n q y u))
      h.1,
)

-- ---- the least greatest value

module _ (n : ℕ) (e : ℕ → Row) (level : (j : ℕ) → Flat (e j)) where
  abbrev tights : List ℕ → List Row
  tights [] = []
  tights (j ∷ js) = tight (e j) ∷ tights js

  abbrev pub Tops : Row → List ℕ → Type 0
  Tops y js = AllByRecursion (λ (j : ℕ). val n y (e j) ≤ℤ y 1) js

  to_tights : (y : Row) (js : List ℕ) → Tops y js → AllByRecursion (Meets (suc (suc n)) y) (tights js)
  to_tights y [] h = tt
  to_tights y (j ∷ js) h = (omega (arith, linear, h.0, val_tight n y (e j)), to_tights y js h.1)

  from_tights : (y : Row) (js : List ℕ) → AllByRecursion (Meets (suc (suc n)) y) (tights js) → Tops y js
  from_tights y [] h = tt
  from_tights y (j ∷ js) h = (omega (arith, linear, h.0, val_tight n y (e j)), from_tights y js h.1)

  top : (y : Row) (js : List ℕ) → (t : ℤ) × AllByRecursion (λ (j : ℕ). val n y (e j) ≤ℤ t) js
  top y [] = (pos 0, tt)
  top y (j ∷ js) =
      let r = top y js in
      by_lt_z r.0 (val n y (e j))
      (λ lt. (
        val n y (e j),
        (
          omega (arith, linear),
          all_weaken (λ (i : ℕ). val n y (e i) ≤ℤ r.0) (λ (i : ℕ). val n y (e i) ≤ℤ val n y (e j)) js
              (λ i h. omega (arith, linear, h, lt)) r.1,
        ),
      ))
      (λ le. (r.0, (le, r.1)))

  tops_set : (t : ℤ) (y : Row) (js : List ℕ) → AllByRecursion (λ (j : ℕ). val n y (e j) ≤ℤ t) js
      → Tops (set_one t y) js
  tops_set t y js h =
      all_weaken (λ (j : ℕ). val n y (e j) ≤ℤ t) (λ (j : ℕ). val n (set_one t y) (e j) ≤ℤ set_one t y 1) js
      (λ j le. omega (arith, linear, le, set_at t y, val_set n t y (e j) (level j))) h

  pub minimax : (us : List Row) → AllByRecursion Flat us → (z : Row) → In (suc n) us z → (js : List ℕ) (a b : ℤ)
      → pos 1 ≤ℤ b
      → (x : Row) × In (suc n) us x × Tops x js
      × (((y : Row) → In (suc n) us y → Tops y js → (x 1 *ℤ y 0) ≤ℤ (y 1 *ℤ x 0)) ⊎ IsUnder a b x)
  minimax us flat z hz js a b hb =
      let t = top z js in
      let inside = in_set n us t.0 z flat hz in
      let r =
      least_value n (tights js ++ us) (set_one t.0 z) (
        inside.0,
        all_join (Meets (suc (suc n)) (set_one t.0 z)) (tights js) us
            (to_tights (set_one t.0 z) js (tops_set t.0 z js t.1)) inside.1,
      ) a b hb in
      let x = r.0 in (
        x,
        (r.1.0, all_right (Meets (suc (suc n)) x) (tights js) us r.1.1),
        from_tights x js (all_left (Meets (suc (suc n)) x) (tights js) us r.1.1),
        elim r.2 [
          | inl low ↦ inl
              (λ y hy tops. low y
              (hy.0, all_join (Meets (suc (suc n)) y) (tights js) us (to_tights y js tops) hy.1))
          | inr under ↦ inr under
        ],
      )

  -- ---- the values that are least in all such points

  abbrev pub cappeds : ℤ → ℤ → List ℕ → List Row
  cappeds p q [] = []
  cappeds p q (j ∷ js) = capped p q (e j) ∷ cappeds p q js

  pub cappeds_flat : (p q : ℤ) (js : List ℕ) → AllByRecursion Flat (cappeds p q js)
  cappeds_flat p q [] = tt
  cappeds_flat p q (j ∷ js) = (capped_flat p q (e j) (level j), cappeds_flat p q js)

  abbrev pub Caps : ℤ → ℤ → Row → ℕ → Type 0
  Caps p q y j = (q *ℤ val n y (e j)) ≤ℤ (p *ℤ y 0)

  pub to_cappeds : (p q : ℤ) (y : Row) (js : List ℕ) → AllByRecursion (Caps p q y) js
      → AllByRecursion (Meets (suc (suc n)) y) (cappeds p q js)
  to_cappeds p q y [] h = tt
  to_cappeds p q y (j ∷ js) h = (omega (arith, linear, h.0, val_capped n p q y (e j)), to_cappeds p q y js h.1)

  from_cappeds : (p q : ℤ) (y : Row) (js : List ℕ) → AllByRecursion (Meets (suc (suc n)) y) (cappeds p q js)
      → AllByRecursion (Caps p q y) js
  from_cappeds p q y [] h = tt
  from_cappeds p q y (j ∷ js) h = (omega (arith, linear, h.0, val_capped n p q y (e j)), from_cappeds p q y js h.1)

  pub cap_at : (p q : ℤ) (us : List Row) (js : List ℕ) (y : Row) → In (suc n) (cappeds p q js ++ us) y → (j : ℕ)
      → Member j js → Caps p q y j
  cap_at p q us js y h j k =
      all_member (Caps p q y) js j
      (from_cappeds p q y js (all_left (Meets (suc (suc n)) y) (cappeds p q js) us h.1))
      k

  abbrev pub Fixed : ℤ → ℤ → List Row → ℕ → Type 0
  Fixed p q us j = (y : Row) → In (suc n) us y → q *ℤ val n y (e j) ≡ p *ℤ y 0

  abbrev pub Loose : ℤ → ℤ → List Row → ℕ → Type 0
  Loose p q us j = (z : Row) × In (suc n) us z × ((q *ℤ val n z (e j)) <ℤ (p *ℤ z 0))

  pub fixed_or_loose : (p q : ℤ) (us : List Row) → AllByRecursion Flat us → pos 1 ≤ℤ q → (x : Row) → In (suc n) us x
      → (j : ℕ) → ((y : Row) → In (suc n) us y → Caps p q y j) → Fixed p q us j ⊎ Loose p q us j
  fixed_or_loose p q us flat hq x hx j cap =
      let r = minimax us flat x hx (j ∷ []) p q hq in
      let z = r.0 in
      let lower = mul-leℤ q (val n z (e j)) (z 1) (omega (arith, linear, hq)) r.2.0 in
      by_lt_z (q *ℤ z 1) (p *ℤ z 0)
      (λ lt. inr (z, r.1, omega (arith, linear, lt, lower)))
      (λ le. elim r.3 [
        | inr under ↦ absurd (omega (arith, linear, le, under))
        | inl low ↦ inl (λ y hy.
            let t = val n y (e j) in
            let least =
            low (set_one t y) (in_set n us t y flat hy) (tops_set t y (j ∷ []) (omega (arith, linear), tt)) in
            let least' : (z 1 *ℤ y 0) ≤ℤ (t *ℤ z 0) =
            omega (products, least, ap (◌*ℤ◌ (z 1)) (set_zero t y), ap (λ (k : ℤ). k *ℤ z 0) (set_at t y)) in
            let one = mul-leℤ q (z 1 *ℤ y 0) (t *ℤ z 0) (omega (arith, linear, hq)) least' in
            let high = mul-le_cancelℤ (z 0) (p *ℤ y 0) (q *ℤ t) (omega (arith, linear, r.1.0))
            (omega (sorted_products, one, mul-leℤ (y 0) (p *ℤ z 0) (q *ℤ z 1) (omega (arith, linear, hy.0)) le)) in
            omega (arith, linear, high, cap y hy))
      ])

  -- a point that is below the cap for each of the numbers
  pub below_all : (p q : ℤ) (us : List Row) (x : Row) → In (suc n) us x → (ks : List ℕ)
      → ((y : Row) → In (suc n) us y → (k : ℕ) → Member k ks → Caps p q y k) → AllByRecursion (Loose p q us) ks
      → (z : Row) × In (suc n) us z × ((k : ℕ) → Member k ks → (q *ℤ val n z (e k)) <ℤ (p *ℤ z 0))
  below_all p q us x hx [] cap h = (x, hx, λ k m. absurd m)
  below_all p q us x hx (j ∷ ks) cap h =
      let r = below_all p q us x hx ks (λ y hy k m. cap y hy k (inr m)) h.1 in
      let w = h.0.0 in
      let z = r.0 in (
        added w z,
        in_added n us w z h.0.1 r.1,
        λ k m. elim m [
          | inl same ↦ (
              let s : (q *ℤ val n (added w z) (e j)) <ℤ (p *ℤ added w z 0) =
              omega (products, h.0.2, cap z r.1 j (inl refl), ap (◌*ℤ◌ q) (val_added n w z (e j))) in
              subst (λ (i : ℕ). (q *ℤ val n (added w z) (e i)) <ℤ (p *ℤ added w z 0)) (sym same) s)
          | inr rest ↦ (
              omega (products, r.2 k rest, cap w h.0.1 k (inr rest), ap (◌*ℤ◌ q) (val_added n w z (e k))))
        ],
      )
