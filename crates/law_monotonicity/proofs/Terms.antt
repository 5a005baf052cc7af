-- A game in which the empty coalition is worth nothing is a sum of games in each of which only one coalition counts. A
-- player adds in it what it adds in the terms whose coalition holds it.
--
--   IsTerm n p      a coalition of n players that isn't empty, with a number
--   value n ps s    the numbers of the terms whose coalition lies in s, added
--   held i ps       the terms whose coalition holds player i
--   each_holds      all terms' coalitions hold player i
use Rattle.std.proofs.Common.{◌≡◌, ◌≢◌, ℕ, zero, suc, ◌+◌, ◌-◌, ◌^◌, ◌<◌, ◌≤◌, Bool, true, false, cond, ◌&&◌, List, []}
use Rattle.std.proofs.Common.{◌∷◌, length, ℤ, pos, ◌+ℤ◌, ◌-ℤ◌, refl, sym, ap, ◌∙◌, arith}
use Rattle.std.specs.List.{AllByRecursion}
use Rattle.std.proofs.lemmas.Bool.{false≢true}
use Rattle.definitions.proofs.Cases.{and_parts}
use Rattle.definitions.proofs.Masks.{grand_coalition-within}
use Rattle.definitions.proofs.Parts.{has_player-more_other}
use Rattle.definitions.proofs.Ring.{linear}
use Rattle.definitions.specs.Coalitions.{has_player}
use Rattle.law_answers.proofs.UnanimityGames.{carried, misses-member, misses-outside, misses-less, below_next}

abbrev pub IsTerm : ℕ → ℕ × ℤ → Type 0
IsTerm n p = (1 ≤ p.0) × (p.0 < 2 ^ n)

abbrev pub value : ℕ → List (ℕ × ℤ) → ℕ → ℤ
value n [] s = pos 0
value n (p ∷ ps) s = carried n p.0 p.1 s +ℤ value n ps s

pub value-nobody : (n : ℕ) (ps : List (ℕ × ℤ)) → AllByRecursion (IsTerm n) ps → value n ps 0 ≡ pos 0
value-nobody n [] h = refl
value-nobody n (p ∷ ps) h =
    let none = ap (λ (b : Bool). cond b (pos 0) p.1) (misses-less n p.0 0 h.0.1 (omega (arith, h.0.0))) in
    omega (arith, linear, none, value-nobody n ps h.1)

-- ---- the terms of one player

abbrev pub held : ℕ → List (ℕ × ℤ) → List (ℕ × ℤ)
held i [] = []
held i (p ∷ ps) = cond (has_player p.0 i) (p ∷ held i ps) (held i ps)

pub held-all : (P : ℕ × ℤ → Type 0) (i : ℕ) (ps : List (ℕ × ℤ)) → AllByRecursion P ps → AllByRecursion P (held i ps)
held-all P i [] h = tt
held-all P i (p ∷ ps) h = by_test (has_player p.0 i) (held-all P i ps h.1)
  where
    by_test : (b : Bool) → AllByRecursion P (held i ps) → AllByRecursion P (cond b (p ∷ held i ps) (held i ps))
    by_test b rest = grind arith

abbrev pub each_holds : List (ℕ × ℤ) → ℕ → Bool
each_holds [] i = true
each_holds (p ∷ ps) i = has_player p.0 i && each_holds ps i

held-most : (i : ℕ) (ps : List (ℕ × ℤ)) → length (held i ps) ≤ length ps
held-most i [] = omega arith
held-most i (p ∷ ps) = by_test (has_player p.0 i) (held-most i ps)
  where
    by_test : (b : Bool) → length (held i ps) ≤ length ps
        → length (cond b (p ∷ held i ps) (held i ps)) ≤ suc (length ps)
    by_test b most = grind arith

-- some term's coalition lacks player i
pub held-fewer : (i : ℕ) (ps : List (ℕ × ℤ)) → each_holds ps i ≡ false → length (held i ps) < length ps
held-fewer i [] e = absurd (false≢true (sym e))
held-fewer i (p ∷ ps) e = by_test (has_player p.0 i) e (held-fewer i ps)
  where
    by_test : (b : Bool) → (b && each_holds ps i) ≡ false
        → (each_holds ps i ≡ false → length (held i ps) < length ps)
        → length (cond b (p ∷ held i ps) (held i ps)) < suc (length ps)
    by_test b f fewer = grind (arith, held-most)

-- player i adds in all terms what it adds in its own
pub held-adds : (n i : ℕ) (ps : List (ℕ × ℤ)) (s : ℕ) → has_player s i ≡ false
    → value n (held i ps) (s + 2 ^ i) -ℤ value n (held i ps) s ≡ value n ps (s + 2 ^ i) -ℤ value n ps s
held-adds n i [] s out = refl
held-adds n i (p ∷ ps) s out = by_test (has_player p.0 i) refl (held-adds n i ps s out)
  where
    by_test : (b : Bool) → has_player p.0 i ≡ b
        → value n (held i ps) (s + 2 ^ i) -ℤ value n (held i ps) s ≡ value n ps (s + 2 ^ i) -ℤ value n ps s
        → value n (cond b (p ∷ held i ps) (held i ps)) (s + 2 ^ i) -ℤ value n (cond b (p ∷ held i ps) (held i ps)) s
        ≡ (carried n p.0 p.1 (s + 2 ^ i) +ℤ value n ps (s + 2 ^ i)) -ℤ (carried n p.0 p.1 s +ℤ value n ps s)
    by_test true e ih = omega (arith, linear, ih)
    by_test false e ih =
        omega (arith, linear, ih, ap (λ (b : Bool). cond b (pos 0) p.1) (misses-outside n p.0 s i e out))

-- two players that all terms' coalitions hold are alike
pub both_held-alike : (n i j : ℕ) (ps : List (ℕ × ℤ)) (s : ℕ) → i < n → j < n → i ≢ j → each_holds ps i ≡ true
    → each_holds ps j ≡ true → has_player s i ≡ false → has_player s j ≡ false
    → value n ps (s + 2 ^ i) ≡ value n ps (s + 2 ^ j)
both_held-alike n i j [] s hi hj ne ei ej si sj = refl
both_held-alike n i j (p ∷ ps) s hi hj ne ei ej si sj =
    let ki = and_parts (has_player p.0 i) (each_holds ps i) ei in
    let kj = and_parts (has_player p.0 j) (each_holds ps j) ej in
    let one = misses-member n p.0 (s + 2 ^ i) j hj kj.0 (has_player-more_other s i j si (λ e. ne (sym e)) ∙ sj) in
    let two = misses-member n p.0 (s + 2 ^ j) i hi ki.0 (has_player-more_other s j i sj ne ∙ si) in
    let same = ap (λ (b : Bool). cond b (pos 0) p.1) (one ∙ sym two) in
    omega (arith, linear, same, both_held-alike n i j ps s hi hj ne ki.1 kj.1 si sj)

-- ---- every game is such a sum

-- terms that add to these worths
abbrev pub HasTerms : ℕ → (ℕ → ℤ) → Type 0
HasTerms n v = (ps : List (ℕ × ℤ)) × AllByRecursion (IsTerm n) ps × ((s : ℕ) → s < 2 ^ n → v s ≡ value n ps s)

terms_from : (n d k : ℕ) → k + d ≡ 2 ^ n → 1 ≤ k → (v : ℕ → ℤ) → ((s : ℕ) → s < k → v s ≡ pos 0) → HasTerms n v
terms_from n zero k e some v none = ([], tt, λ s lt. none s (omega (arith, e, lt)))
terms_from n (suc d) k e some v none =
    let small : k < 2 ^ n = omega (arith, e) in
    let r = terms_from n d (suc k) (omega (arith, e)) (omega arith) (λ s. v s -ℤ carried n k (v k) s)
    (below_next n k v none small) in (
      (k, v k) ∷ r.0,
      ((some, small), r.1),
      λ s lt. let rest = r.2 s lt in omega (arith, linear, rest),
    )

pub terms_of : (n : ℕ) (v : ℕ → ℤ) → v 0 ≡ pos 0 → HasTerms n v
terms_of n v nobody =
    terms_from n (2 ^ n - 1) 1 (omega (arith, power)) (omega arith) v
    (λ s lt. let none : s ≡ 0 = omega arith in ap v none ∙ nobody)
  where
    power : 1 ≤ 2 ^ n
    power = let within = grand_coalition-within n in omega (arith, within)
