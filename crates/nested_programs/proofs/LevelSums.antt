-- What a level made from weights sums to at a player, as sums of weight times a part that the column's number has.
--
--   is_at           1 at one number and 0 elsewhere
--   outer_part      1 at the coalitions outside that hold the player
--   earlier_part    1 at a coalition of the levels in front that holds the player, and -1 at the same negated
use Rattle.std.proofs.Common.{◌≡◌, ℕ, zero, suc, ◌+◌, ◌-◌, ◌<◌, ◌≤◌, Bool, true}
use Rattle.std.proofs.Common.{false, cond, List, [], ◌∷◌, ◌++◌, ℤ, pos, ◌+ℤ◌, ◌-ℤ◌}
use Rattle.std.proofs.Common.{◌*ℤ◌, refl, sym, ap, ◌∙◌, inl, inr, arith, nat_eq, nat_le}
use Rattle.std.proofs.Common.{if◌then◌else◌}
use Rattle.std.proofs.lemmas.Bool.Decides.{nat_tests, Decides-int_eq}
use Rattle.std.specs.Ordering.{int_eq}
use Rattle.definitions.proofs.Ring.{linear, mul-zeroℤ, mul-subℤ}
use Rattle.definitions.specs.Sums.{weighted_sum}
use Rattle.definitions.specs.Coalitions.{has_player, weight_at}
use Rattle.definitions.specs.Certificates.{number_at}
use Rattle.nested_programs.specs.Numbers.{outer_pairs, net, kept, earlier_pairs, bound_pairs}
use Rattle.definitions.proofs.Members.{times_bit, weighted_sum-zero, weighted_sum-add, weight_at-append}
use Rattle.definitions.proofs.Cases.{true_or_false}

-- ---- weighted sums

pub weighted-sub : (f g : ℕ → ℤ) (ws : List (ℕ × ℤ))
    → weighted_sum (λ id. f id -ℤ g id) ws ≡ weighted_sum f ws -ℤ weighted_sum g ws
weighted-sub f g [] = refl
weighted-sub f g (w ∷ ws) = omega (arith, linear, weighted-sub f g ws, mul-subℤ w.1 (f w.0) (g w.0))

pub weighted-same : (f g : ℕ → ℤ) (ws : List (ℕ × ℤ)) → ((id : ℕ) → f id ≡ g id)
    → weighted_sum f ws ≡ weighted_sum g ws
weighted-same f g [] h = refl
weighted-same f g (w ∷ ws) h = omega (arith, linear, weighted-same f g ws h, ap (λ z. w.1 *ℤ z) (h w.0))

-- ---- pairs

number_at-append : (ps qs : List (ℕ × ℤ)) (i : ℕ) → number_at (ps ++ qs) i ≡ number_at ps i +ℤ number_at qs i
number_at-append [] qs i = omega (arith, linear)
number_at-append (p ∷ ps) qs i = omega (arith, linear, number_at-append ps qs i)

when_zero : (b : Bool) (z : ℤ) → z ≡ pos 0 → (if b then z else pos 0) ≡ pos 0
when_zero true z h = h
when_zero false z h = refl

weight_at-kept : (key : ℕ) (z : ℤ) (i : ℕ) → weight_at (kept key z) i ≡ (if has_player key i then z else pos 0)
weight_at-kept key z i = elim (true_or_false (int_eq z (pos 0))) [
  | inl none ↦ rw none (sym (when_zero (has_player key i) z ((Decides-int_eq z (pos 0)).0 none)))
  | inr some ↦ rw some (omega (arith, linear))
]

number_at-kept : (key : ℕ) (z : ℤ) (i : ℕ) → number_at (kept key z) i ≡ (if nat_eq key i then z else pos 0)
number_at-kept key z i = elim (true_or_false (int_eq z (pos 0))) [
  | inl none ↦ rw none (sym (when_zero (nat_eq key i) z ((Decides-int_eq z (pos 0)).0 none)))
  | inr some ↦ rw some (omega (arith, linear))
]

-- ---- a number

abbrev pub is_at : ℕ → ℕ → ℤ
is_at id k = if nat_eq k id then pos 1 else pos 0

pub number_weighted : (id : ℕ) (ws : List (ℕ × ℤ)) → number_at ws id ≡ weighted_sum (is_at id) ws
number_weighted id [] = refl
number_weighted id (w ∷ ws) = omega (arith, linear, number_weighted id ws, times_bit (nat_eq w.0 id) w.1)

pub net_weighted : (id other : ℕ) (ws : List (ℕ × ℤ))
    → net ws id other ≡ weighted_sum (λ k. is_at id k -ℤ is_at other k) ws
net_weighted id other ws =
    omega (arith, linear, number_weighted id ws, number_weighted other ws, weighted-sub (is_at id) (is_at other) ws)

-- ---- the coalitions outside

abbrev pub outer_part : ℕ → ℕ → ℕ → ℤ
outer_part first i id = if nat_le first id then (if has_player (id - first) i then pos 1 else pos 0) else pos 0

outer_step : (first i : ℕ) (w : ℕ × ℤ) (ws : List (ℕ × ℤ)) (b : Bool)
    → weight_at (outer_pairs first ws) i ≡ weighted_sum (outer_part first i) ws
    → weight_at (cond b ((w.0 - first, w.1) ∷ outer_pairs first ws) (outer_pairs first ws)) i
    ≡ w.1 *ℤ cond b (if has_player (w.0 - first) i then pos 1 else pos 0) (pos 0)
    +ℤ weighted_sum (outer_part first i) ws
outer_step first i w ws true ih = omega (arith, linear, ih, times_bit (has_player (w.0 - first) i) w.1)
outer_step first i w ws false ih = omega (arith, linear, ih, mul-zeroℤ w.1)

pub outer_weighted : (first i : ℕ) (ws : List (ℕ × ℤ))
    → weight_at (outer_pairs first ws) i ≡ weighted_sum (outer_part first i) ws
outer_weighted first i [] = refl
outer_weighted first i (w ∷ ws) = outer_step first i w ws (nat_le first w.0) (outer_weighted first i ws)

-- ---- the coalitions of the levels in front

abbrev pub pair_part : Bool → ℕ → ℕ → ℤ
pair_part b id k = if b then is_at id k -ℤ is_at (id + 1) k else pos 0

abbrev pub earlier_part : ℕ → ℕ → List (ℕ × ℕ) → ℕ → ℤ
earlier_part i id [] k = pos 0
earlier_part i id (c ∷ cs) k = pair_part (has_player c.0 i) id k +ℤ earlier_part i (id + 2) cs k

pair_weighted : (b : Bool) (id : ℕ) (ws : List (ℕ × ℤ))
    → (if b then net ws id (id + 1) else pos 0) ≡ weighted_sum (pair_part b id) ws
pair_weighted true id ws = net_weighted id (id + 1) ws
pair_weighted false id ws = sym (weighted_sum-zero ws)

pub earlier_weighted : (i : ℕ) (ws : List (ℕ × ℤ)) (id : ℕ) (cs : List (ℕ × ℕ))
    → weight_at (earlier_pairs ws id cs) i ≡ weighted_sum (earlier_part i id cs) ws
earlier_weighted i ws id [] = sym (weighted_sum-zero ws)
earlier_weighted i ws id (c ∷ cs) =
    let z : ℤ = net ws id (id + 1) in
    let more = weighted_sum-add (pair_part (has_player c.0 i) id) (earlier_part i (id + 2) cs) ws in
    let front = weight_at-append (kept c.0 z) (earlier_pairs ws (id + 2) cs) i in
    omega (
      arith,
      linear,
      weight_at-kept c.0 z i,
      pair_weighted (has_player c.0 i) id ws,
      earlier_weighted i ws
          (id + 2) cs,
    )

-- ---- the bounds

number_past : (ws : List (ℕ × ℤ)) (first n count i : ℕ) → count ≤ i
    → number_at (bound_pairs ws first n count) i ≡ pos 0
number_past ws first n zero i h = refl
number_past ws first n (suc j) i h =
    let z : ℤ = net ws (first + j) (first + j + n) in
    let t : nat_eq j i ≡ false = grind (arith, nat_tests) in
    let last : number_at (kept j z) i ≡ pos 0 = number_at-kept j z i ∙ ap (λ (b : Bool). cond b z (pos 0)) t in
    omega (
      arith,
      linear,
      number_at-append (bound_pairs ws first n j) (kept j z) i,
      number_past ws first n j i
          (omega arith),
    )

-- the number of a player's bound is the net number of its column
pub number_within : (ws : List (ℕ × ℤ)) (first n count i : ℕ) → i < count
    → number_at (bound_pairs ws first n count) i ≡ net ws (first + i) (first + i + n)
number_within ws first n zero i h = absurd (omega arith)
number_within ws first n (suc j) i h = elim (true_or_false (nat_eq j i)) [
  | inl same ↦
      let e : j ≡ i = grind (arith, nat_tests) in
      let here = ap (λ (b : Bool). cond b z (pos 0)) same in
      let net_is = ap (λ (k : ℕ). net ws (first + k) (first + k + n)) e in
      omega (
        arith,
        linear,
        number_at-append (bound_pairs ws first n j) (kept j z) i,
        number_at-kept j z i,
        number_past ws first n j i (omega arith),
      )
  | inr apart ↦
      let none = ap (λ (b : Bool). cond b z (pos 0)) apart in
      let lt : i < j = grind (arith, nat_tests) in
      omega (
        arith,
        linear,
        number_at-append (bound_pairs ws first n j) (kept j z) i,
        number_at-kept j z i,
        number_within ws first n j i lt,
      )
]
  where
    z : ℤ
    z = net ws (first + j) (first + j + n)
