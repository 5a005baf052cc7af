-- A level has no more entries than its stage has weights: each entry has a column of its own.
--
-- Weights are at most as many as rows, so a level has fewer than twice as many entries as there are players
-- (`level_short`).
use Rattle.std.proofs.Common.{◌≡◌, ◌≢◌, ◌⊎◌, ℕ, zero, suc, ◌+◌, ◌-◌, ◌*◌, ◌≤◌}
use Rattle.std.proofs.Common.{Bool, true, false, cond, nat_eq, nat_le, List, [], ◌∷◌, length}
use Rattle.std.proofs.Common.{ℤ, pos, ◌+ℤ◌, refl, sym, ap, ◌∙◌, inl, inr, arith}
use Rattle.std.proofs.Common.{if◌then◌else◌}
use Rattle.std.proofs.lemmas.Bool.{false≢true}
use Rattle.std.proofs.lemmas.Bool.Decides.{nat_tests, Decides-int_eq}
use Rattle.std.proofs.lemmas.List.{length-append}
use Rattle.std.specs.Ordering.{int_eq}
use Rattle.definitions.proofs.Ring.{linear}
use Rattle.definitions.specs.Certificates.{Level, number_at}
use Rattle.kohlberg.proofs.Placed.{length-placed}
use Rattle.separation.specs.Stage.{earlier_of}
use Rattle.simplex.specs.declared.answer.Optimal.{Optimal}
use Rattle.nested_programs.specs.Answer.{IsShort}
use Rattle.nested_programs.specs.Numbers.{first_single, outer_pairs, net, kept, earlier_pairs, bound_pairs, IsLevelOf}
use Rattle.definitions.proofs.Cases.{true_or_false}

-- ---- weights from a column on

-- how many weights have a column of number k or more
abbrev pub count_from : ℕ → List (ℕ × ℤ) → ℕ
count_from k [] = 0
count_from k (w ∷ ws) = if nat_le k w.0 then suc (count_from k ws) else count_from k ws

bit_most : (b : Bool) (x y : ℕ) → x ≤ y → cond b (suc x) x ≤ suc y
bit_most true x y h = omega arith
bit_most false x y h = omega arith

count_most : (k : ℕ) (ws : List (ℕ × ℤ)) → count_from k ws ≤ length ws
count_most k [] = omega arith
count_most k (w ∷ ws) = bit_most (nat_le k w.0) (count_from k ws) (length ws) (count_most k ws)

bit_next : (a b : Bool) (c x y : ℕ) → (b ≡ true → a ≡ true) → y + c ≤ x → cond b (suc y) y + c ≤ cond a (suc x) x
bit_next true true c x y t h = omega arith
bit_next true false c x y t h = omega arith
bit_next false true c x y t h = absurd (false≢true (t refl))
bit_next false false c x y t h = h

next_test : (k i : ℕ) → nat_le (k + 1) i ≡ true → nat_le k i ≡ true
next_test k i h = grind (arith, nat_tests)

count_next : (k : ℕ) (ws : List (ℕ × ℤ)) → count_from (k + 1) ws + 0 ≤ count_from k ws
count_next k [] = omega arith
count_next k (w ∷ ws) =
    bit_next (nat_le k w.0) (nat_le (k + 1) w.0) 0 (count_from k ws) (count_from (k + 1) ws) (next_test k w.0)
    (count_next k ws)

-- a column with a number has a weight
count_weighs : (k : ℕ) (ws : List (ℕ × ℤ)) → number_at ws k ≢ pos 0 → count_from (k + 1) ws + 1 ≤ count_from k ws
count_weighs k [] ne = absurd (ne refl)
count_weighs k (w ∷ ws) ne = elim (true_or_false (nat_eq w.0 k)) [
  | inl here ↦
      let t : nat_le k w.0 ≡ true = grind (arith, nat_tests) in
      let u : nat_le (k + 1) w.0 ≡ false = grind (arith, nat_tests) in
      let low = count_next k ws in
      rw t (rw u (omega (arith, low)))
  | inr other ↦ bit_next (nat_le k w.0) (nat_le (k + 1) w.0) 1 (count_from k ws) (count_from (k + 1) ws)
      (next_test k w.0) (count_weighs k ws (λ e. ne (rest (nat_eq w.0 k) w.1 (number_at ws k) other e)))
]
  where
    rest : (b : Bool) (x y : ℤ) → b ≡ false → y ≡ pos 0 → cond b x (pos 0) +ℤ y ≡ pos 0
    rest true x y h e = absurd (false≢true (sym h))
    rest false x y h e = omega (arith, linear, e)

-- ---- net numbers

pub kept_cases : (key : ℕ) (z : ℤ) → (kept key z ≡ []) ⊎ ((kept key z ≡ (key, z) ∷ []) × (z ≢ pos 0))
kept_cases key z = elim (true_or_false (int_eq z (pos 0))) [
  | inl none ↦ inl (rw none refl)
  | inr some ↦ inr (rw some refl, λ e. false≢true (sym some ∙ (Decides-int_eq z (pos 0)).1 e))
]

zero_cases : (z : ℤ) → (z ≡ pos 0) ⊎ (z ≢ pos 0)
zero_cases z = elim (true_or_false (int_eq z (pos 0))) [
  | inl none ↦ inl ((Decides-int_eq z (pos 0)).0 none)
  | inr some ↦ inr (λ e. false≢true (sym some ∙ (Decides-int_eq z (pos 0)).1 e))
]

-- a net number that isn't 0 has a weight on one of its two columns
kept_few : (ws : List (ℕ × ℤ)) (key a b : ℕ)
    → length (kept key (net ws a b)) + (count_from (a + 1) ws + count_from (b + 1) ws)
    ≤ count_from a ws + count_from b ws
kept_few ws key a b =
    let na = count_next a ws in
    let nb = count_next b ws in
    elim (kept_cases key (net ws a b)) [
      | inl none ↦ rw none (omega arith)
      | inr some ↦ elim (zero_cases (number_at ws a)) [
        | inl za ↦
            let wb = count_weighs b ws (λ zb. some.1 (omega (arith, linear))) in
            rw some.0 (omega arith)
        | inr wa ↦
            let ha = count_weighs a ws wa in
            rw some.0 (omega arith)
      ]
    ]

earlier_few : (ws : List (ℕ × ℤ)) (id : ℕ) (cs : List (ℕ × ℕ))
    → length (earlier_pairs ws id cs) + count_from (id + 2 * length cs) ws ≤ count_from id ws
earlier_few ws id [] = let e : id + 2 * 0 ≡ id = omega arith in rw e (omega arith)
earlier_few ws id (c ∷ cs) =
    let here = kept_few ws c.0 id (id + 1) in
    let after : id + 1 + 1 ≡ id + 2 = omega arith in
    let there = ap (λ (z : ℕ). count_from z ws) after in
    let e : id + 2 * length (c ∷ cs) ≡ id + 2 + 2 * length cs = omega arith in
    let end = ap (λ (z : ℕ). count_from z ws) e in
    let ih = earlier_few ws (id + 2) cs in
    let long = length-append (kept c.0 (net ws id (id + 1))) (earlier_pairs ws (id + 2) cs) in
    omega arith

bound_few : (ws : List (ℕ × ℤ)) (first n i : ℕ)
    → length (bound_pairs ws first n i) + (count_from (first + i) ws + count_from (first + i + n) ws)
    ≤ count_from first ws + count_from (first + n) ws
bound_few ws first n zero = let e : first + 0 ≡ first = omega arith in rw e (omega arith)
bound_few ws first n (suc i) =
    let here = kept_few ws i (first + i) (first + i + n) in
    let e : first + suc i ≡ first + i + 1 = omega arith in
    let plus = ap (λ (z : ℕ). count_from z ws) e in
    let e' : first + suc i + n ≡ first + i + n + 1 = omega arith in
    let minus = ap (λ (z : ℕ). count_from z ws) e' in
    let ih = bound_few ws first n i in
    let long = length-append (bound_pairs ws first n i) (kept i (net ws (first + i) (first + i + n))) in
    omega arith

either_more : (b : Bool) (q : ℕ × ℤ) (qs : List (ℕ × ℤ)) (k : ℕ) → length qs ≡ k
    → length (cond b (q ∷ qs) qs) ≡ cond b (suc k) k
either_more true q qs k h = ap suc h
either_more false q qs k h = h

outer_few : (first : ℕ) (ws : List (ℕ × ℤ)) → length (outer_pairs first ws) ≡ count_from first ws
outer_few first [] = refl
outer_few first (w ∷ ws) =
    either_more (nat_le first w.0) (w.0 - first, w.1) (outer_pairs first ws) (count_from first ws)
    (outer_few first ws)

-- ---- the level

pub level_entries : (n : ℕ) (front : List Level) (best : Optimal) (l : Level)
    → IsLevelOf n front best l → length l.coalitions + length l.earlier + length l.bounds ≤ length best.weights.items
level_entries n front best l is =
    let ws : List (ℕ × ℤ) = best.weights.items in
    let first : ℕ = first_single front in
    let a = ap length is.coalitions ∙ length-placed (outer_pairs (first + (n + n)) ws) in
    let a' = outer_few (first + (n + n)) ws in
    let b = ap length is.earlier ∙ length-placed (earlier_pairs ws 2 (earlier_of 0 front)) in
    let b' = earlier_few ws 2 (earlier_of 0 front) in
    let c = ap length is.bounds in
    let c' = bound_few ws first n n in
    let e : first + n + n ≡ first + (n + n) = omega arith in
    let ends = ap (λ (z : ℕ). count_from z ws) e in
    let most = count_most 2 ws in
    omega arith

-- the level of a stage is short: each entry has a column of its own among the weights
pub level_short : (n : ℕ) (front : List Level) (best : Optimal) (l : Level)
    → IsLevelOf n front best l → length best.weights.items ≤ n + (length front + 1) → length front + 2 ≤ n
    → IsShort n l
level_short n front best l is few low =
    let most = level_entries n front best l is in
    omega arith
