-- Coalitions that split the players of a part, of which any two that meet there and leave somebody out have their union
-- and their common players among them, and with which any player who is in and another who isn't can change sides. If
-- each of them has a positive sum, so has the part: one with the fewest players inside or outside, and the greatest
-- ones beside it, make up the part (Maschler, Peleg and Shapley 1972).
--
--   inside p s, outside p s   the players of the part p that are in s, and those that aren't
--   Some n test               a player that passes a test
--   IsNearRing n p z d        the coalitions that pass d are such, and each has a positive sum
use Rattle.std.proofs.Common.{◌≡◌, ◌⊎◌, ℕ, zero, suc, ◌^◌, ◌<◌, Bool, true, false, ◌&&◌, ◌||◌, not, ℤ, pos, ◌<ℤ◌, ◌≤ℤ◌}
use Rattle.std.proofs.Common.{refl, sym, ap, ◌∙◌, inl, inr, arith}
use Rattle.std.proofs.lemmas.Bool.{false≢true}
use Rattle.std.proofs.lemmas.Int.{ints}
use Rattle.definitions.proofs.Cases.{true_or_false, and_parts, and_both, and_false, from_not, or_left, or_right}
use Rattle.definitions.proofs.Ring.{linear}
use Rattle.definitions.proofs.Splits.{some_below-true, some_below-false, some_below-none}
use Rattle.definitions.specs.Sums.{IsGreatest}
use Rattle.definitions.specs.Coalitions.{has_player, some_below}
use Rattle.theorems.proofs.Transfers.{some_greatest}
use Rattle.law_stability.proofs.Unions.{union, common, union-has, union-within, common-has, common-within}
use Rattle.law_stability.proofs.SumsByTest.{total, total-same, total-parts, count, count-some, count-less, count-most}

-- the players of the part that are in s, and those that aren't
abbrev pub inside : (ℕ → Bool) → ℕ → ℕ → Bool
inside p s i = p i && has_player s i

abbrev pub outside : (ℕ → Bool) → ℕ → ℕ → Bool
outside p s i = p i && not (has_player s i)

-- a player that passes a test
abbrev pub Some : ℕ → (ℕ → Bool) → Type 0
Some n test = (i : ℕ) × (i < n) × (test i ≡ true)

pub record IsNearRing (n : ℕ) (p : ℕ → Bool) (z : ℕ → ℤ) (d : ℕ → Bool) : Type 0 where
  pub splits : (s : ℕ) → s < 2 ^ n → d s ≡ true → Some n (inside p s) × Some n (outside p s)
  pub ring : (a b : ℕ) → a < 2 ^ n → b < 2 ^ n → d a ≡ true → d b ≡ true
      → Some n (λ i. inside p a i && inside p b i) → Some n (λ i. outside p a i && outside p b i)
      → (d (union n a b) ≡ true) × (d (common n a b) ≡ true)
  pub apart : (s i j : ℕ) → s < 2 ^ n → d s ≡ true → i < n → j < n → inside p s i ≡ true → outside p s j ≡ true
      → (t : ℕ) × (t < 2 ^ n) × (d t ≡ true) × (has_player t j ≡ true) × (has_player t i ≡ false)
  pub positive : (s : ℕ) → s < 2 ^ n → d s ≡ true → pos 0 <ℤ total n z (inside p s)

-- ---- one with the fewest players of the part inside or outside, and those beside it

module _ (n : ℕ) (p : ℕ → Bool) (z : ℕ → ℤ) (d : ℕ → Bool) (nr : IsNearRing n p z d) (nothing : total n z p ≡ pos 0)
    (t : ℕ) (ht : t < 2 ^ n) (dt : d t ≡ true)
    (fewest : (s : ℕ) → s < 2 ^ n → d s ≡ true
    → (count n (inside p t) ≤ℤ count n (inside p s)) × (count n (inside p t) ≤ℤ count n (outside p s))) where
  abbrev meets : ℕ → ℕ → ℕ → Bool
  meets a b k = inside p a k && inside p b k

  abbrev misses : ℕ → Bool
  misses s = not (some_below n (meets t s))

  -- a coalition that some player of t has left doesn't meet t
  none_meets : (e i : ℕ) → e < 2 ^ n → d e ≡ true → i < n → inside p t i ≡ true → has_player e i ≡ false
      → Some n (meets t e) → ⊥
  none_meets e i he de hi in_t lacks k =
      elim (true_or_false (some_below n (λ l. outside p t l && outside p e l))) [
        | inl left ↦
            let both = (nr.ring t e ht he dt de k (some_below-true n (λ l. outside p t l && outside p e l) left)).1 in
            let le = (fewest (common n t e) (common-within n t e) both).0 in
            let lt = count-less n i (inside p t) (inside p (common n t e)) hi in_t
            (lost (p i) (has_player t i) (has_player e i) (has_player (common n t e) i) (common-has n t e i hi) lacks)
            (λ l h. first_of (p l) (has_player t l) (has_player e l) (has_player (common n t e) l)
            (common-has n t e l h)) in
            omega (arith, linear, le, lt)
        | inr none ↦
            let le = (fewest e he de).1 in
            let both = and_parts (inside p t k.0) (inside p e k.0) k.2 in
            let lt = count-less n k.0 (inside p t) (outside p e) k.1 both.0
            (not_out (p k.0) (has_player e k.0) both.1)
            (λ l h. must (p l) (has_player t l) (has_player e l)
            (some_below-false n (λ l. outside p t l && outside p e l) none l h)) in
            omega (arith, linear, le, lt)
      ]
    where
      lost : (q a b c : Bool) → c ≡ (a && b) → b ≡ false → (q && c) ≡ false
      lost q a b c e f = grind arith

      first_of : (q a b c : Bool) → c ≡ (a && b) → (q && c) ≡ true → (q && a) ≡ true
      first_of q a b c e f = grind arith

      not_out : (q b : Bool) → (q && b) ≡ true → (q && not b) ≡ false
      not_out q b e = grind arith

      must : (q a b : Bool) → ((q && not a) && (q && not b)) ≡ false → (q && not b) ≡ true → (q && a) ≡ true
      must q a b e f = grind arith

  -- so a player outside is in one that misses t
  beside : (j : ℕ) → j < n → outside p t j ≡ true
      → (e : ℕ) × (e < 2 ^ n) × (d e ≡ true) × (has_player e j ≡ true) × (misses e ≡ true)
  beside j hj out =
      let i = (nr.splits t ht dt).0 in
      let e = nr.apart t i.0 j ht dt i.1 hj i.2 out in (
        e.0,
        e.1,
        e.2,
        e.3,
        elim (true_or_false (some_below n (meets t e.0))) [
          | inl some ↦ absurd
              (none_meets e.0 i.0 e.1 e.2 i.1 i.2 e.4 (some_below-true n (meets t e.0) some))
          | inr none ↦ ap not none
        ],
      )

  -- each that misses t lies in w, or has no player of the part there
  abbrev IsKept : (ℕ → Bool) → Type 0
  IsKept w =
      (e : ℕ) → e < 2 ^ n → d e ≡ true → misses e ≡ true
      → ((k : ℕ) → k < n → inside p e k ≡ true → w k ≡ true) ⊎ ((k : ℕ) → k < n → inside p e k ≡ true → w k ≡ false)

  -- all of the part is in w, whose sum is positive
  full : (w : ℕ → Bool) → pos 0 <ℤ total n z (λ i. p i && w i) → ((j : ℕ) → j < n → (p j && not (w j)) ≡ false) → ⊥
  full w up none =
      omega (arith, linear, up, total-same n z (λ i. p i && w i) p (λ i lt. by_test (p i) (w i) (none i lt)), nothing)
    where
      by_test : (a b : Bool) → (a && not b) ≡ false → (a && b) ≡ a
      by_test true true e = refl
      by_test true false e = absurd (false≢true (sym e))
      by_test false b e = refl

  -- the greatest with j that misses t
  module _ (w : ℕ → Bool) (j : ℕ) (hj : j < n) (here : p j ≡ true) (lacks : w j ≡ false)
      (start : (k : ℕ) → k < n → inside p t k ≡ true → w k ≡ true) (up : pos 0 <ℤ total n z (λ i. p i && w i))
      (each : IsKept w) where
    abbrev fits : ℕ → Bool
    fits s = d s && (has_player s j && misses s)

    out_t : outside p t j ≡ true
    out_t = elim (true_or_false (has_player t j)) [
      | inl has ↦ absurd (false≢true (sym lacks ∙ start j hj (and_both (p j) (has_player t j) here has)))
      | inr out ↦ and_both (p j) (not (has_player t j)) here (ap not out)
    ]

    greatest : (m : ℤ) × IsGreatest (λ s. (s < 2 ^ n) × (fits s ≡ true)) (λ s. count n (inside p s)) m
    greatest = elim (some_greatest fits (λ s. count n (inside p s)) (2 ^ n)) [
      | inl none ↦
          let e = beside j hj out_t in
          absurd
          (false≢true
          (sym (none e.0 e.1)
          ∙ and_both (d e.0) (has_player e.0 j && misses e.0) e.2 (and_both (has_player e.0 j) (misses e.0) e.3 e.4)))
      | inr found ↦ found
    ]

    abbrev most : ℕ
    most = greatest.1.0.0

    most-within : most < 2 ^ n
    most-within = greatest.1.0.1.0

    most-in : d most ≡ true
    most-in = (and_parts (d most) (has_player most j && misses most) greatest.1.0.1.1).0

    most-fits : (has_player most j ≡ true) × (misses most ≡ true)
    most-fits =
        and_parts (has_player most j) (misses most)
        (and_parts (d most) (has_player most j && misses most) greatest.1.0.1.1).1

    abbrev wider : ℕ → Bool
    wider i = w i || has_player most i

    fresh : (k : ℕ) → k < n → inside p most k ≡ true → w k ≡ false
    fresh = elim (each most most-within most-in most-fits.1) [
      | inl all ↦ absurd (false≢true (sym lacks ∙ all j hj (and_both (p j) (has_player most j) here most-fits.0)))
      | inr none ↦ none
    ]

    wider-start : (k : ℕ) → k < n → inside p t k ≡ true → wider k ≡ true
    wider-start k lt h = or_left (w k) (has_player most k) (start k lt h)

    wider-positive : pos 0 <ℤ total n z (λ i. p i && wider i)
    wider-positive =
        let parts = total-parts n z (λ i. p i && wider i) (λ i. p i && w i) (inside p most)
        (λ i lt. (
          either (p i) (w i) (has_player most i),
          apart_of (p i) (w i) (has_player most i) (fresh i lt),
        )) in
        omega (arith, linear, parts, up, nr.positive most most-within most-in)
      where
        either : (a b c : Bool) → (a && (b || c)) ≡ ((a && b) || (a && c))
        either true b c = refl
        either false b c = refl

        apart_of : (a b c : Bool) → ((a && c) ≡ true → b ≡ false) → ((a && b) && (a && c)) ≡ false
        apart_of false b c h = refl
        apart_of true false c h = refl
        apart_of true true true h = absurd (false≢true (sym (h refl)))
        apart_of true true false h = refl

    wider-fewer : count n (λ i. p i && not (wider i)) <ℤ count n (λ i. p i && not (w i))
    wider-fewer =
        count-less n j (λ i. p i && not (w i)) (λ i. p i && not (wider i)) hj
        (and_both (p j) (not (w j)) here (ap not lacks))
        (lost (p j) (w j) (has_player most j) most-fits.0)
        (λ i lt. still (p i) (w i) (has_player most i))
      where
        lost : (a b c : Bool) → c ≡ true → (a && not (b || c)) ≡ false
        lost false b c e = refl
        lost true true c e = refl
        lost true false c e = ap not e

        still : (a b c : Bool) → (a && not (b || c)) ≡ true → (a && not b) ≡ true
        still true true c e = e
        still true false c e = refl
        still false b c e = e

    -- one that meets the greatest lies in it
    lies : (e k : ℕ) → e < 2 ^ n → d e ≡ true → misses e ≡ true → k < n → (inside p most k && inside p e k) ≡ true
        → (l : ℕ) → l < n → inside p e l ≡ true → has_player most l ≡ true
    lies e k he de m hk both l hl in_e = elim (true_or_false (has_player most l)) [
      | inl has ↦ has
      | inr out ↦ absurd
          (let i = (nr.splits t ht dt).0 in
          let r = union n most e in
          let one =
          (nr.ring most e most-within he most-in de (k, hk, both) (
            i.0,
            i.1,
            both_out (p i.0) (has_player t i.0) (has_player most i.0) (has_player e i.0) i.2
                (some_below-false n (meets t most) (from_not (some_below n (meets t most)) most-fits.1) i.0 i.1)
                (some_below-false n (meets t e) (from_not (some_below n (meets t e)) m) i.0 i.1),
          )).0 in
          let le =
          greatest.1.1 r (
            union-within n most e,
            and_both (d r) (has_player r j && misses r) one
                (and_both (has_player r j) (misses r)
                (union-has n most e j hj ∙ or_left (has_player most j) (has_player e j) most-fits.0)
                (ap not (some_below-none n (meets t r)
                (λ i h. neither_meets (p i) (has_player t i) (has_player most i) (has_player e i) (has_player r i)
                (union-has n most e i h)
                (some_below-false n (meets t most) (from_not (some_below n (meets t most)) most-fits.1) i h)
                (some_below-false n (meets t e) (from_not (some_below n (meets t e)) m) i h))))),
          ) in
          let lt = count-less n l (inside p r) (inside p most) hl
          (joined (p l) (has_player most l) (has_player e l) (has_player r l) (union-has n most e l hl) in_e)
          (ap (λ (c : Bool). p l && c) out ∙ and_false (p l))
          (λ i h. joined_first (p i) (has_player most i) (has_player e i) (has_player r i) (union-has n most e i h)) in
          omega (arith, linear, le, lt, greatest.1.0.2))
    ]
      where
        both_out : (q a b c : Bool) → (q && a) ≡ true → ((q && a) && (q && b)) ≡ false → ((q && a) && (q && c)) ≡ false
            → ((q && not b) && (q && not c)) ≡ true
        both_out q a b c e f g = grind (arith, and_both)

        neither_meets : (q a b c u : Bool) → u ≡ (b || c) → ((q && a) && (q && b)) ≡ false
            → ((q && a) && (q && c)) ≡ false → ((q && a) && (q && u)) ≡ false
        neither_meets q a b c u e f g = grind arith

        joined : (q b c u : Bool) → u ≡ (b || c) → (q && c) ≡ true → (q && u) ≡ true
        joined q b c u e f = grind arith

        joined_first : (q b c u : Bool) → u ≡ (b || c) → (q && b) ≡ true → (q && u) ≡ true
        joined_first q b c u e f = grind arith

    wider-kept : IsKept wider
    wider-kept e he de m = elim (each e he de m) [
      | inl all ↦ inl (λ k lt h. or_left (w k) (has_player most k) (all k lt h))
      | inr none ↦ elim (true_or_false (some_below n (meets most e))) [
        | inl some ↦
            let k = some_below-true n (meets most e) some in
            inl
            (λ l lt h. or_right (w l) (has_player most l) (lies e k.0 he de m k.1 k.2 l lt h))
        | inr apart ↦ inr
            (λ k lt h. neither_has (p k) (w k) (has_player most k) (has_player e k) h (none k lt h)
            (some_below-false n (meets most e) apart k lt))
      ]
    ]
      where
        neither_has : (q b c e : Bool) → (q && e) ≡ true → b ≡ false → ((q && c) && (q && e)) ≡ false → (b || c) ≡ false
        neither_has true b true e f g h = absurd (false≢true (sym h ∙ f))
        neither_has true true false e f g h = g
        neither_has true false false e f g h = refl
        neither_has false b c e f g h = absurd (false≢true f)

  -- by the number of players of the part outside w
  grow : (m : ℕ) (w : ℕ → Bool) → count n (λ i. p i && not (w i)) ≤ℤ pos m
      → ((k : ℕ) → k < n → inside p t k ≡ true → w k ≡ true) → pos 0 <ℤ total n z (λ i. p i && w i) → IsKept w → ⊥
  grow zero w few start up each = elim (true_or_false (some_below n (λ j. p j && not (w j)))) [
    | inl some ↦
        let j = some_below-true n (λ j. p j && not (w j)) some in
        omega (arith, ints, count-some n j.0 (λ i. p i && not (w i)) j.1 j.2, few)
    | inr none ↦ full w up (some_below-false n (λ j. p j && not (w j)) none)
  ]
  grow (suc m) w few start up each = elim (true_or_false (some_below n (λ j. p j && not (w j)))) [
    | inl some ↦
        let j = some_below-true n (λ j. p j && not (w j)) some in
        let both = and_parts (p j.0) (not (w j.0)) j.2 in
        let lacks = from_not (w j.0) both.1 in
        grow m (wider w j.0 j.1 both.0 lacks start up each)
        (let less = wider-fewer w j.0 j.1 both.0 lacks start up each in omega (arith, ints, less, few))
        (wider-start w j.0 j.1 both.0 lacks start up each) (wider-positive w j.0 j.1 both.0 lacks start up each)
        (wider-kept w j.0 j.1 both.0 lacks start up each)
    | inr none ↦ full w up (some_below-false n (λ j. p j && not (w j)) none)
  ]

  pub impossible : ⊥
  impossible =
      grow n (has_player t) (count-most n (λ i. p i && not (has_player t i)))
      (λ k lt h. (and_parts (p k) (has_player t k) h).1) (nr.positive t ht dt)
      (λ e he de m. inr
      (λ k lt h. not_both (p k) (has_player t k) (has_player e k) h
      (some_below-false n (meets t e) (from_not (some_below n (meets t e)) m) k lt)))
    where
      not_both : (q a b : Bool) → (q && b) ≡ true → ((q && a) && (q && b)) ≡ false → a ≡ false
      not_both true true b e f = absurd (false≢true (sym f ∙ e))
      not_both true false b e f = refl
      not_both false a b e f = absurd (false≢true e)
