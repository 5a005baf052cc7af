-- The shares that a division gives are those of the rule.
use Rattle.std.proofs.Common.{◌≡◌, ◌≢◌, ℕ, zero, suc, ◌-◌, ◌*◌, ◌^◌, ◌<◌, ◌≤◌}
use Rattle.std.proofs.Common.{Bool, true, false, cond, List}
use Rattle.std.proofs.Common.{length, get_or, map, min, int_le, ℤ, pos, ◌+ℤ◌, ◌-ℤ◌}
use Rattle.std.proofs.Common.{◌*ℤ◌, ◌<ℤ◌, ◌≤ℤ◌}
use Rattle.std.proofs.Common.{unsigned_abs, refl, sym, ap, ◌∙◌, inl, inr, arith}
use Rattle.std.specs.Int.{int_min}
use Rattle.std.proofs.lemmas.Int.{ints}
use Rattle.std.proofs.lemmas.List.{length-map, get_or-map}
use Rattle.std.proofs.Math.Nat.{mul-le-mul}
use Rattle.definitions.proofs.Ring.{linear, mul-addℤ, mul-subℤ, mul-zeroℤ}
use Rattle.definitions.proofs.Members.{sum_below-same}
use Rattle.definitions.specs.Sums.{sum_below}
use Rattle.definitions.specs.Games.{Allocation, share, IsShares}
use Rattle.worth_core.specs.Allocations.{allocation}
use Rattle.orders.specs.Orders.{IsOrder}
use Rattle.orders.proofs.Fronts.{order-place}
use Rattle.talmud.specs.Rule.{cut_claims, cut, cut_sum, loss, is_little, part, IsTalmud}
use Rattle.talmud.specs.Levels.{IsHalfOrder}
use Rattle.orders.specs.Ordered.{OrderedNumbers, IsOrdered, place, number_at}
use Rattle.talmud.specs.Division.{claim_sum, divided, IsDivision, award}
use Rattle.talmud.proofs.Cuts.{length-cut, claim_sum-cut}
use Rattle.talmud.proofs.ByPlace.{IsRule}
use Rattle.definitions.proofs.Cases.{below_or_above, int_min-left, int_min-right}

-- ---- the awards, as shares

-- the share of each player is the award of its cut claim, over twice h
pub record IsAwarded (estate : ℕ) (claims : List ℕ) (gain : Bool) (h t : ℕ) (x : Allocation) : Type 0 where
  pub players : length x.shares ≡ length claims
  pub den : x.den ≡ pos (2 * h)
  pub each : (i : ℕ) → i < length claims → share x i ≡ pos (award gain h t (cut estate claims i))

pub IsAwarded-awards : (estate : ℕ) (claims cuts : List ℕ) (gain : Bool) (h t : ℕ) → cuts ≡ cut_claims estate claims
    → IsAwarded estate claims gain h t (allocation (map (λ c. pos (award gain h t c)) cuts) (pos (2 * h)))
IsAwarded-awards estate claims cuts gain h t e = record {
  players = length-map cuts (λ c. pos (award gain h t c)) ∙ length-cut estate claims cuts e;
  den = refl;
  each = λ i lt. get_or-map (λ c. pos (award gain h t c)) cuts i 0 (pos 0) (rw (length-cut estate claims cuts e) lt)
      ∙ ap (λ (ds : List ℕ). pos (award gain h t (get_or ds i 0))) e;
}

-- ---- one award: u is the claim times h, so half of the claim

at_bound_half : (g : Bool) (u t : ℕ) → u ≤ t
    → (pos (cond g (min u t) (2 * u - min u t)) ≡ pos u)
    × (pos (2 * u) -ℤ pos (cond g (min u t) (2 * u - min u t)) ≡ pos u)
at_bound_half true u t h = (omega (arith, ints), omega (arith, ints))
at_bound_half false u t h = (omega (arith, ints), omega (arith, ints))

above_bound : (g : Bool) (u t : ℕ) (y z : ℤ) → t < u → y ≡ pos (cond g (min u t) (2 * u - min u t))
    → z ≡ pos (2 * u) -ℤ y → (cond g y z ≡ pos t) × (pos t <ℤ cond g z y)
above_bound true u t y z h e f = (omega (arith, ints), omega (arith, ints))
above_bound false u t y z h e f = (omega (arith, ints), omega (arith, ints))

doubled : (h d : ℕ) (den : ℤ) → den ≡ pos (2 * h) → den *ℤ pos d ≡ pos (2 * (d * h))
doubled h d den e = ap (λ (z : ℤ). z *ℤ pos d) e ∙ product h d
  where
    product : (h d : ℕ) → pos (2 * h) *ℤ pos d ≡ pos (2 * (d * h))
    product h d = omega (arith, ints)

-- ---- sums

sum-less : (n : ℕ) (q : ℤ) (d p s : ℕ → ℤ) → ((i : ℕ) → i < n → s i ≡ q *ℤ d i -ℤ p i)
    → sum_below n s ≡ q *ℤ sum_below n d -ℤ sum_below n p
sum-less zero q d p s e = omega (arith, linear, mul-zeroℤ q)
sum-less (suc n) q d p s e =
    let ih = sum-less n q d p s (λ i lt. e i (omega arith)) in
    omega (arith, linear, e n (omega arith), mul-addℤ q (sum_below n d) (d n))

-- ---- the rule by place

pub IsRule-division : (estate : ℕ) (claims : List ℕ) (c : OrderedNumbers) (gain : Bool) (m h t : ℕ) (x : Allocation)
    → IsOrdered c → c.numbers ≡ cut_claims estate claims → IsDivision estate c gain m h t
    → IsAwarded estate claims gain h t x → IsRule estate claims (place c) m gain (pos t) x
IsRule-division estate claims c gain m h t x o e d a = record {
  order = order;
  players = a.players;
  positive = omega (arith, ints);
  all = all_of gain d a;
  within = omega (arith, long);
  low = omega (arith, ints);
  half = λ j lt.
      let b = at_half j lt in
      let u = award_at j (inside j lt) in let v = scaled j in omega (arith, linear);
  under = λ j lt. rw (award_at j (inside j lt), (at_half j lt).0)
      (omega (arith, ints, rw (at j) at (d.half j lt)));
  rest = λ j low high. (at_rest j low high).0;
  over = λ j low high. (at_rest j low high).1;
  little = λ g. rw sums at (d.side.little g);
  much = λ g. rw sums at (d.side.much g);
}
  where
    long : length c.numbers ≡ length claims
    long = length-cut estate claims c.numbers e

    order : IsOrder (length claims) (cut estate claims) (place c)
    order =
        let listed : IsOrder (length (cut_claims estate claims)) (cut estate claims) (place c) =
        rw e at o.sorted.lists in
        rw (length-map claims (λ c. min c estate)) at listed

    sums : claim_sum c ≡ cut_sum estate claims
    sums = claim_sum-cut estate claims c.numbers e

    at : (j : ℕ) → number_at c j ≡ cut estate claims (place c j)
    at j = ap (λ (ds : List ℕ). get_or ds (place c j) 0) e

    inside : (j : ℕ) → j < m → j < length claims
    inside j lt = omega (arith, long)

    award_at : (j : ℕ) → j < length claims
        → share x (place c j) ≡ pos (award gain h t (cut estate claims (place c j)))
    award_at j lt = a.each (place c j) (order.below j lt)

    scaled : (j : ℕ) → x.den *ℤ pos (cut estate claims (place c j)) ≡ pos (2 * (cut estate claims (place c j) * h))
    scaled j = doubled h (cut estate claims (place c j)) x.den a.den

    at_half : (j : ℕ) → j < m
        → (pos (award gain h t (cut estate claims (place c j))) ≡ pos (cut estate claims (place c j) * h))
        × (pos (2 * (cut estate claims (place c j) * h)) -ℤ pos (award gain h t (cut estate claims (place c j)))
        ≡ pos (cut estate claims (place c j) * h))
    at_half j lt =
        at_bound_half gain (cut estate claims (place c j) * h) t (rw (at j) at (d.half j lt))

    at_rest : (j : ℕ) → m ≤ j → j < length claims
        → (cond gain (share x (place c j)) (loss estate claims x (place c j)) ≡ pos t)
        × (pos t <ℤ cond gain (loss estate claims x (place c j)) (share x (place c j)))
    at_rest j low high =
        above_bound gain (cut estate claims (place c j) * h) t (share x (place c j))
        (loss estate claims x (place c j))
        (rw (at j) at (d.rest j low (omega (arith, long)))) (award_at j high)
        (ap (λ (z : ℤ). z -ℤ share x (place c j)) (scaled j))

    parts : ℤ
    parts = sum_below (length claims) (λ i. pos (min (cut estate claims i * h) t))

    parts_of : (g : Bool) → IsDivision estate c g m h t → parts ≡ (pos h +ℤ pos h) *ℤ divided estate c g
    parts_of g d =
        sym (ap (λ (ds : List ℕ). sum_below (length ds) (λ i. pos (min (get_or ds i 0 * h) t))) e
        ∙ ap (λ (n : ℕ). sum_below n (λ i. pos (min (cut estate claims i * h) t)))
        (length-map claims (λ c. min c estate)))
        ∙ d.sum

    twice : x.den ≡ pos h +ℤ pos h
    twice = a.den ∙ both h
      where
        both : (h : ℕ) → pos (2 * h) ≡ pos h +ℤ pos h
        both h = omega (arith, ints)

    less : (u : ℕ) → pos (2 * u - min u t) ≡ pos (2 * u) -ℤ pos (min u t)
    less u = omega (arith, ints)

    all_of : (g : Bool) → IsDivision estate c g m h t → IsAwarded estate claims g h t x
        → sum_below (length claims) (share x) ≡ x.den *ℤ pos estate
    all_of true d a =
        sum_below-same (length claims) (share x) (λ i. pos (min (cut estate claims i * h) t)) a.each
        ∙ parts_of true d ∙ ap (λ (z : ℤ). z *ℤ pos estate) (sym twice)
    all_of false d a =
        let each : (i : ℕ) → i < length claims
        → share x i ≡ x.den *ℤ pos (cut estate claims i) -ℤ pos (min (cut estate claims i * h) t) = λ i lt.
        a.each i lt ∙ less (cut estate claims i * h)
        ∙ ap (λ (z : ℤ). z -ℤ pos (min (cut estate claims i * h) t))
        (sym (doubled h (cut estate claims i) x.den a.den)) in
        let sum =
        sum-less (length claims) x.den (λ i. pos (cut estate claims i))
        (λ i. pos (min (cut estate claims i * h) t)) (share x) each in
        let over = parts_of false d ∙ ap (λ (z : ℤ). z *ℤ (claim_sum c -ℤ pos estate)) (sym twice) in
        omega (arith, linear, mul-subℤ x.den (claim_sum c) (pos estate), ap (λ (z : ℤ). x.den *ℤ z) sums)

-- ---- the rule by player

side-is : (gain : Bool) (a b : ℤ) → (gain ≡ true → a ≤ℤ b) → (gain ≡ false → b <ℤ a) → gain ≡ int_le a b
side-is true a b le more = sym (grind (arith, ints, le refl))
side-is false a b le more = sym (grind (arith, ints, more refl))

pub little-is : (estate : ℕ) (claims : List ℕ) (at : ℕ → ℕ) (m : ℕ) (gain : Bool) (t : ℤ) (x : Allocation)
    → IsRule estate claims at m gain t x → gain ≡ is_little estate claims
little-is estate claims at m gain t x r =
    side-is gain (pos estate +ℤ pos estate) (cut_sum estate claims) r.little r.much

-- the part at a place
half_part : (g : Bool) (y z w t : ℤ) → y ≡ z → z ≡ w -ℤ y → y ≤ℤ t → cond g y z +ℤ cond g y z ≡ int_min w (t +ℤ t)
half_part true y z w t e f h =
    (let s : y +ℤ y ≡ w = omega (arith, linear) in
    s ∙ sym (int_min-left w (t +ℤ t) (omega (arith, linear))))
half_part false y z w t e f h =
    (let s : z +ℤ z ≡ w = omega (arith, linear) in
    s ∙ sym (int_min-left w (t +ℤ t) (omega (arith, linear))))

rest_part : (g : Bool) (y z w t : ℤ) → cond g y z ≡ t → t <ℤ cond g z y → z ≡ w -ℤ y
    → cond g y z +ℤ cond g y z ≡ int_min w (t +ℤ t)
rest_part true y z w t e o f =
    (let s : y +ℤ y ≡ t +ℤ t = omega (arith, linear) in
    s ∙ sym (int_min-right w (t +ℤ t) (omega (arith, linear))))
rest_part false y z w t e o f =
    (let s : z +ℤ z ≡ t +ℤ t = omega (arith, linear) in
    s ∙ sym (int_min-right w (t +ℤ t) (omega (arith, linear))))

pub IsTalmud-rule : (estate : ℕ) (claims : List ℕ) (at : ℕ → ℕ) (m : ℕ) (gain : Bool) (t : ℤ) (x : Allocation)
    → IsRule estate claims at m gain t x → IsTalmud estate claims x
IsTalmud-rule estate claims at m gain t x r = record {
  players = r.players;
  positive = r.positive;
  all = r.all;
  parts = (
    t,
    r.low,
    λ i lt.
        let p = order-place (length claims) (cut estate claims) at r.order i lt in
        rw p.2 at (at_place p.0 p.1),
  );
}
  where
    IsPart : ℕ → Type 0
    IsPart i =
        part estate claims x i +ℤ part estate claims x i ≡ int_min (x.den *ℤ pos (cut estate claims i)) (t +ℤ t)

    place_part : (p : ℕ) → p < length claims
        → cond gain (share x (at p)) (loss estate claims x (at p))
        +ℤ cond gain (share x (at p)) (loss estate claims x (at p))
        ≡ int_min (x.den *ℤ pos (cut estate claims (at p))) (t +ℤ t)
    place_part p lt = elim (below_or_above p m) [
      | inl half ↦ half_part gain (share x (at p)) (loss estate claims x (at p))
          (x.den *ℤ pos (cut estate claims (at p))) t (r.half p half) refl (r.under p half)
      | inr rest ↦ rest_part gain (share x (at p)) (loss estate claims x (at p))
          (x.den *ℤ pos (cut estate claims (at p))) t (r.rest p rest lt) (r.over p rest lt) refl
    ]

    at_place : (p : ℕ) → p < length claims → IsPart (at p)
    at_place p lt =
        rw (little-is estate claims at m gain t x r) at (place_part p lt)

not_half : (g : Bool) (y z t : ℤ) → cond g y z ≡ t → t <ℤ cond g z y → y ≢ z
not_half true y z t e o f = omega (arith, linear)
not_half false y z t e o f = omega (arith, linear)

pub IsHalfOrder-rule : (estate : ℕ) (claims : List ℕ) (at : ℕ → ℕ) (m : ℕ) (gain : Bool) (t : ℤ) (x : Allocation)
    → IsRule estate claims at m gain t x → IsHalfOrder estate claims x at m t
IsHalfOrder-rule estate claims at m gain t x r = record {
  order = r.order;
  within = r.within;
  half = r.half;
  not_half = λ j low high. not_half gain (share x (at j)) (loss estate claims x (at j)) t (r.rest j low high)
      (r.over j low high);
  rest = λ j low high. rw (little-is estate claims at m gain t x r) at (r.rest j low high);
}

-- ---- the sizes of the shares

award_small : (g : Bool) (h t d : ℕ) → h ≤ 64 → d < 2 ^ 40 → unsigned_abs (pos (award g h t d)) < 2 ^ 110
award_small g h t d few small = grind (arith, ints, mul-le-mul most few)
  where
    most : d ≤ 2 ^ 40
    most = omega arith

pub IsShares-awards : (c : OrderedNumbers) (gain : Bool) (h t : ℕ) → IsOrdered c → 1 ≤ h → h ≤ 64
    → IsShares (allocation (map (λ d. pos (award gain h t d)) c.numbers) (pos (2 * h)))
IsShares-awards c gain h t o some few =
    let long = length-map c.numbers (λ d. pos (award gain h t d)) in
    record {
      some = omega (arith, long);
      few = omega (arith, long);
      positive = omega (arith, ints);
      common = omega (arith, ints);
      small = λ i lt.
          let within : i < length c.numbers = rw (← long) lt in
          rw (get_or-map (λ d. pos (award gain h t d)) c.numbers i 0 (pos 0) within)
          (award_small gain h t (get_or c.numbers i 0) few (o.small i 0 within));
    }
