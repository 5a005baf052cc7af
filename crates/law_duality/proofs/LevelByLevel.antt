-- The levels one after the other: at each, the least greatest value of the forms that are left, and a form that has it
-- at all points which attain it. That form leaves. In the end each form has one value at all points that are left.
--
-- The least value p / q of the greatest of the excesses that are left is attained (`minimax`): a coalition and the
-- others together have a fixed excess, which bounds it. Then each excess that is left is fixed at p / q on all points
-- that attain it, or is below at one of them (`fixed_or_loose`). Were all below somewhere, the sum of these points
-- would have all below, and a mixture would beat the least (`not_all_loose`). After at most 2^n - 2 levels none is
-- left. Each point that is left beats all that fell out.
use Rattle.std.proofs.Common.{◌≡◌, ◌⊎◌, ℕ, zero, suc, ◌<◌, List, [], ◌∷◌, ◌++◌, length, ℤ, pos, neg_ℤ, ◌+ℤ◌, ◌*ℤ◌, ◌<ℤ◌}
use Rattle.std.proofs.Common.{◌≤ℤ◌, refl, sym, ap, subst, inl, inr, arith}
use Rattle.std.specs.List.{AllByRecursion}
use Rattle.std.proofs.lemmas.Int.{by_lt_z}
use Rattle.definitions.proofs.Ring.{linear, mul-leℤ, mul-ltℤ, mul-le_cancelℤ, mul-cancelℤ, mul-positiveℤ}
use Rattle.definitions.proofs.Ring.{mul-lt_cancelℤ}
use Rattle.definitions.proofs.Alls.{all_weaken, all_join, all_right}
use Rattle.law_duality.proofs.Elimination.{Row, Meets}
use Rattle.law_duality.proofs.LeastValues.{In}
use Rattle.law_duality.proofs.Levels.{Member, all_member, Choice, pick, upto, upto_member, upto_below, val, Flat}
use Rattle.law_duality.proofs.Levels.{set_one}
use Rattle.law_duality.proofs.Levels.{val_set, in_set, scaled, val_scaled, in_scaled, Tops, minimax, cappeds}
use Rattle.law_duality.proofs.Levels.{cappeds_flat}
use Rattle.law_duality.proofs.Levels.{Caps, to_cappeds, cap_at, Fixed, Loose, fixed_or_loose, below_all}
use Rattle.theorems.proofs.Products.{products, sorted_products}

module _ (n m : ℕ) (e : ℕ → Row) (level : (j : ℕ) → Flat (e j)) (base : List Row) where
  -- the values of x at y's scale, and those of y at that of x: at some bound the forms are equal or those of x at
  -- most the bound, and one of y is above
  pub record Better (x y : Row) : Type 0 where
    pub bound : ℤ
    pub each : (j : ℕ) → j < m → (y 0 *ℤ val n x (e j) ≡ x 0 *ℤ val n y (e j)) ⊎ ((y 0 *ℤ val n x (e j)) ≤ℤ bound)
    pub one : ℕ
    pub within : one < m
    pub low : (y 0 *ℤ val n x (e one)) ≤ℤ bound
    pub high : bound <ℤ (x 0 *ℤ val n y (e one))

  -- the same values
  abbrev pub Agree : Row → Row → ℕ → Type 0
  Agree x y j = y 0 *ℤ val n x (e j) ≡ x 0 *ℤ val n y (e j)

  -- the points that are left are those that meet us; the forms js are left
  record Stage (us : List Row) (js : List ℕ) : Type 0 where
    pub point : Row
    pub inside : In (suc n) us point
    pub flat : AllByRecursion Flat us
    pub below : (j : ℕ) → Member j js → j < m
    pub within : (y : Row) → In (suc n) us y → In (suc n) base y
    pub apart : (x y : Row) → In (suc n) us x → In (suc n) base y → In (suc n) us y ⊎ Better x y
    pub same : (j : ℕ) → j < m → Member j js ⊎ ((x y : Row) → In (suc n) us x → In (suc n) us y → Agree x y j)

  -- each form has a partner, and the two aren't both low
  pub record Paired (j : ℕ) : Type 0 where
    pub partner : ℕ
    pub within : partner < m
    pub own : ℤ
    pub other : ℤ
    pub least : ℤ
    pub own_positive : pos 1 ≤ℤ own
    pub other_positive : pos 1 ≤ℤ other
    pub bound : (y : Row) → In (suc n) base y
        → (least *ℤ y 0) ≤ℤ (own *ℤ val n y (e j) +ℤ other *ℤ val n y (e partner))

  -- ---- the greatest value of the forms that are left has a lower bound

  record Bound (us : List Row) (js : List ℕ) : Type 0 where
    pub a : ℤ
    pub b : ℤ
    pub positive : pos 1 ≤ℤ b
    pub holds : (y : Row) → In (suc n) us y → Tops n e level y js → (a *ℤ y 0) ≤ℤ (b *ℤ y 1)

  bounded : (us : List Row) (j : ℕ) (js : List ℕ) → Stage us (j ∷ js) → Paired j → Bound us (j ∷ js)
  bounded us j js s p = elim (s.same p.partner p.within) [
    | inl left ↦ record {
      a = p.least;
      b = p.own +ℤ p.other;
      positive = omega (arith, linear, p.own_positive, p.other_positive);
      holds = λ y hy tops.
          let one = mul-leℤ p.own (val n y (e j)) (y 1) (omega (arith, linear, p.own_positive)) tops.0 in
          let two = mul-leℤ p.other (val n y (e p.partner)) (y 1) (omega (arith, linear, p.other_positive))
          (all_member (λ (i : ℕ). val n y (e i) ≤ℤ y 1) (j ∷ js) p.partner tops left) in
          omega (products, p.bound y (s.within y hy), one, two);
    }
    | inr known ↦
        let x = s.point in
        let c = val n x (e p.partner) in
        record {
          a = x 0 *ℤ p.least +ℤ neg_ℤ (p.other *ℤ c);
          b = x 0 *ℤ p.own;
          positive =
              (let q = mul-positiveℤ (x 0) p.own (omega (arith, linear, s.inside.0))
              (omega (arith, linear, p.own_positive)) in
              omega (arith, linear, q));
          holds = λ y hy tops.
              let u = val n y (e j) in
              let v = val n y (e p.partner) in
              let one = mul-leℤ (x 0 *ℤ p.own) u (y 1)
              (let q = mul-positiveℤ (x 0) p.own (omega (arith, linear, s.inside.0))
              (omega (arith, linear, p.own_positive)) in
              omega (arith, linear, q)) tops.0 in
              let two = mul-leℤ (x 0) (p.least *ℤ y 0) (p.own *ℤ u +ℤ p.other *ℤ v)
              (omega (arith, linear, s.inside.0)) (p.bound y (s.within y hy)) in
              let agree : y 0 *ℤ c ≡ x 0 *ℤ v = known x y s.inside hy in
              omega (sorted_products, one, two, ap (◌*ℤ◌ p.other) agree);
        }
  ]

  -- ---- a level

  -- not all forms can be below the least greatest value
  not_all_loose : (us : List Row) (js : List ℕ) (x : Row) → AllByRecursion Flat us → In (suc n) us x
      → ((y : Row) → In (suc n) us y → Tops n e level y js → (x 1 *ℤ y 0) ≤ℤ (y 1 *ℤ x 0)) → (z : Row)
      → In (suc n) us z → ((k : ℕ) → Member k js → (x 0 *ℤ val n z (e k)) <ℤ (x 1 *ℤ z 0)) → ⊥
  not_all_loose us js x flat hx low z hz under =
      let q = x 0 in
      let p = x 1 in
      let some : pos 0 <ℤ q = omega (arith, linear, hx.0) in
      let t = p *ℤ z 0 +ℤ neg_ℤ (pos 1) in
      let y = set_one t (scaled q z) in
      let inside = in_set n us t (scaled q z) flat (in_scaled n us q z some hz) in
      omega (sorted_products, low y inside (tops js (λ k h. h)), some)
    where
      tops : (ks : List ℕ) → ((k : ℕ) → Member k ks → Member k js)
          → Tops n e level (set_one (x 1 *ℤ z 0 +ℤ neg_ℤ (pos 1)) (scaled (x 0) z)) ks
      tops [] sub = tt
      tops (k ∷ ks) sub = (
        omega (
          products,
          under k (sub k (inl refl)),
          val_set n (x 1 *ℤ z 0 +ℤ neg_ℤ (pos 1)) (scaled (x 0) z) (e k) (level k),
          val_scaled n (x 0) z (e k),
        ),
        tops ks (λ i h. sub i (inr h)),
      )

  -- all are at most the cap, or one is above
  caps_or : (p q : ℤ) (y : Row) (js : List ℕ)
      → AllByRecursion (Caps n e level p q y) js ⊎ ((c : ℕ) × Member c js × ((p *ℤ y 0) <ℤ (q *ℤ val n y (e c))))
  caps_or p q y [] = inl tt
  caps_or p q y (j ∷ js) =
      by_lt_z (p *ℤ y 0) (q *ℤ val n y (e j))
      (λ lt. inr (j, inl refl, lt))
      (λ le. elim (caps_or p q y js)
      [ inl rest ↦ inl (le, rest) | inr found ↦ inr (found.0, inr found.1, found.2) ])

  record Further (js : List ℕ) : Type 0 where
    pub us : List Row
    pub rest : List ℕ
    pub fewer : suc (length rest) ≡ length js
    pub stage : Stage us rest

  one_level : (us : List Row) (js : List ℕ) → (s : Stage us js) → (x : Row) → In (suc n) us x
      → AllByRecursion (Caps n e level (x 1) (x 0) x) js
      → (c : Choice (Fixed n e level (x 1) (x 0) (cappeds n e level (x 1) (x 0) js ++ us)) js) → Further js
  one_level us js s x hx caps c =
      let p = x 1 in
      let q = x 0 in
      record {
        us = cappeds n e level p q js ++ us;
        rest = c.rest;
        fewer = c.fewer;
        stage = record {
          point = x;
          inside = (
            hx.0,
            all_join (Meets (suc (suc n)) x) (cappeds n e level p q js) us (to_cappeds n e level p q x js caps)
                hx.1,
          );
          flat = all_join Flat (cappeds n e level p q js) us (cappeds_flat n e level p q js) s.flat;
          below = λ j h. s.below j (c.kept j h);
          within = λ y hy. s.within y (outer y hy);
          apart = λ y z hy hz. elim (s.apart y z (outer y hy) hz) [
            | inr better ↦ inr better
            | inl left ↦ elim (caps_or p q z js) [
              | inl all ↦ inl (
                left.0,
                all_join (Meets (suc (suc n)) z) (cappeds n e level p q js) us
                    (to_cappeds n e level p q z js all) left.1,
              )
              | inr found ↦ inr (better y z hy left found.0 found.1 found.2)
            ]
          ];
          same = λ j lt. elim (s.same j lt) [
            | inl left ↦ elim (c.members j left)
                [ inl is ↦ inr (λ y z hy hz. subst (Agree y z) (sym is) (agree y z hy hz)) | inr rest ↦ inl rest ]
            | inr known ↦ inr (λ y z hy hz. known y z (outer y hy) (outer z hz))
          ];
        };
      }
    where
      some : pos 0 <ℤ x 0
      some = omega (arith, linear, hx.0)

      outer : (y : Row) → In (suc n) (cappeds n e level (x 1) (x 0) js ++ us) y → In (suc n) us y
      outer y hy = (hy.0, all_right (Meets (suc (suc n)) y) (cappeds n e level (x 1) (x 0) js) us hy.1)

      agree : (y z : Row) → In (suc n) (cappeds n e level (x 1) (x 0) js ++ us) y
          → In (suc n) (cappeds n e level (x 1) (x 0) js ++ us) z → Agree y z c.one
      agree y z hy hz =
          let u = val n y (e c.one) in
          let v = val n z (e c.one) in
          mul-cancelℤ (x 0) (z 0 *ℤ u) (y 0 *ℤ v) some
          (omega (sorted_products, ap (◌*ℤ◌ (z 0)) (c.is y hy), ap (◌*ℤ◌ (y 0)) (c.is z hz)))

      better : (y z : Row) → In (suc n) (cappeds n e level (x 1) (x 0) js ++ us) y → In (suc n) us z → (k : ℕ)
          → Member k js → (x 1 *ℤ z 0) <ℤ (x 0 *ℤ val n z (e k)) → Better y z
      better y z hy hz k member above = record {
        bound = z 0 *ℤ val n y (e c.one);
        each = λ j lt. elim (s.same j lt) [
          | inl left ↦ inr (low j left)
          | inr known ↦ inl (known y z (outer y hy) hz)
        ];
        one = k;
        within = s.below k member;
        low = low k member;
        high = (let scaled = mul-ltℤ (y 0) (x 1 *ℤ z 0) (x 0 *ℤ val n z (e k)) (omega (arith, linear, hy.0)) above in
            mul-lt_cancelℤ (x 0) (z 0 *ℤ val n y (e c.one)) (y 0 *ℤ val n z (e k)) some
            (omega (sorted_products, scaled, ap (◌*ℤ◌ (z 0)) (c.is y hy))));
      }
        where
          low : (j : ℕ) → Member j js → (z 0 *ℤ val n y (e j)) ≤ℤ (z 0 *ℤ val n y (e c.one))
          low j left =
              let le = mul-le_cancelℤ (x 0) (val n y (e j)) (val n y (e c.one)) some
              (omega (arith, linear, cap_at n e level (x 1) (x 0) us js y hy j left, c.is y hy)) in
              mul-leℤ (z 0) (val n y (e j)) (val n y (e c.one)) (omega (arith, linear, hz.0)) le

  next_level : (us : List Row) (j : ℕ) (js : List ℕ) → Stage us (j ∷ js) → Paired j → Further (j ∷ js)
  next_level us j js s paired =
      let b = bounded us j js s paired in
      let r = minimax n e level us s.flat s.point s.inside (j ∷ js) b.a b.b b.positive in
      let x = r.0 in
      let p = x 1 in
      let q = x 0 in
      let caps = all_weaken (λ (i : ℕ). val n x (e i) ≤ℤ x 1) (Caps n e level p q x) (j ∷ js)
      (λ i le.
      (omega (sorted_products, mul-leℤ q (val n x (e i)) p (omega (arith, linear, r.1.0)) le))) r.2 in
      let vs = cappeds n e level p q (j ∷ js) ++ us in
      let flat = all_join Flat (cappeds n e level p q (j ∷ js)) us (cappeds_flat n e level p q (j ∷ js)) s.flat in
      let hx : In (suc n) vs x = (
        r.1.0,
        all_join (Meets (suc (suc n)) x) (cappeds n e level p q (j ∷ js)) us
            (to_cappeds n e level p q x (j ∷ js) caps) r.1.1,
      ) in
      elim r.3 [
        | inr under ↦ absurd (omega (arith, linear, under, b.holds x r.1 r.2))
        | inl low ↦ elim
            (pick (Fixed n e level p q vs) (Loose n e level p q vs) (j ∷ js)
            (λ i member. fixed_or_loose n e level p q vs flat r.1.0 x hx i
            (λ y hy. cap_at n e level p q us (j ∷ js) y hy i member))) [
              | inl c ↦ one_level us (j ∷ js) s x r.1 caps c
              | inr loose ↦ (
                  let z = below_all n e level p q vs x hx (j ∷ js)
                  (λ y hy k member. cap_at n e level p q us (j ∷ js) y hy k member) loose in
                  absurd
                  (not_all_loose us (j ∷ js) x s.flat r.1 low z.0
                  (z.1.0, all_right (Meets (suc (suc n)) z.0) (cappeds n e level p q (j ∷ js)) us z.1.1) z.2))
            ]
      ]

  -- ---- all levels

  pub record First : Type 0 where
    pub point : Row
    pub inside : In (suc n) base point
    pub first : (y : Row) → In (suc n) base y → ((j : ℕ) → j < m → Agree point y j) ⊎ Better point y

  all_levels : (k : ℕ) (us : List Row) (js : List ℕ) → length js ≡ k → Stage us js → ((j : ℕ) → j < m → Paired j)
      → First
  all_levels k us [] few s paired = record {
    point = s.point;
    inside = s.within s.point s.inside;
    first = λ y hy. elim (s.apart s.point y s.inside hy) [
      | inr better ↦ inr better
      | inl left ↦ inl
          (λ j lt. elim (s.same j lt) [ inl member ↦ absurd member | inr known ↦ known s.point y s.inside left ])
    ];
  }
  all_levels zero us (j ∷ js) few s paired = absurd (omega (arith, few))
  all_levels (suc k) us (j ∷ js) few s paired =
      let f = next_level us j js s (paired j (s.below j (inl refl))) in
      all_levels k f.us f.rest (omega (arith, f.fewer, few)) f.stage paired

  -- some point comes first
  pub first_point : AllByRecursion Flat base → (z : Row) → In (suc n) base z → ((j : ℕ) → j < m → Paired j) → First
  first_point flat z hz paired = all_levels (length (upto m)) base (upto m) refl stage paired
    where
      stage : Stage base (upto m)
      stage = record {
        point = z;
        inside = hz;
        flat = flat;
        below = λ j h. upto_below m j h;
        within = λ y hy. hy;
        apart = λ x y hx hy. inl hy;
        same = λ j lt. inl (upto_member m j lt);
      }
