-- The numbers below a bound that pass a test, numbered from 0.
use Rattle.std.proofs.Common.{◌≡◌, ℕ, zero, suc, ◌<◌, Bool, true, false, cond, ◌&&◌, nat_eq, refl, ap, inl, inr, arith}
use Rattle.definitions.proofs.Cases.{true_or_false, less_or_last, less_same_or_greater, from_nat_eq, from_not_nat_eq}

-- how many below r pass
abbrev pub place : (ℕ → Bool) → ℕ → ℕ
place test zero = 0
place test (suc r) = cond (test r) (suc (place test r)) (place test r)

-- the one of number k that does, below the bound
abbrev pub passing : (ℕ → Bool) → ℕ → ℕ → ℕ
passing test zero k = 0
passing test (suc b) k = cond (test b && nat_eq (place test b) k) b (passing test b k)

place_yes : (test : ℕ → Bool) (r : ℕ) → test r ≡ true → place test (suc r) ≡ suc (place test r)
place_yes test r e = ap (λ (b : Bool). cond b (suc (place test r)) (place test r)) e

place_no : (test : ℕ → Bool) (r : ℕ) → test r ≡ false → place test (suc r) ≡ place test r
place_no test r e = ap (λ (b : Bool). cond b (suc (place test r)) (place test r)) e

pub place_less : (test : ℕ → Bool) (r c : ℕ) → test r ≡ true → r < c → place test r < place test c
place_less test r zero e lt = absurd (omega arith)
place_less test r (suc c) e lt = elim (less_or_last r c lt) [
  | inl less ↦
      let ih = place_less test r c e less in
      elim (true_or_false (test c)) [
        | inl passes ↦ (let step = place_yes test c passes in omega (arith, ih, step))
        | inr fails ↦ (let step = place_no test c fails in omega (arith, ih, step))
      ]
  | inr same ↦ (omega (arith, place_yes test r e, ap (λ k. place test (suc k)) same))
]

-- numbers that pass have places of their own
pub place_once : (test : ℕ → Bool) (r s : ℕ) → test r ≡ true → test s ≡ true → place test r ≡ place test s → r ≡ s
place_once test r s hr hs e = elim (less_same_or_greater r s) [
  | inl less ↦ absurd (let lt = place_less test r s hr less in omega (arith, lt, e))
  | inr (inl same) ↦ same
  | inr (inr more) ↦ absurd (let lt = place_less test s r hs more in omega (arith, lt, e))
]

-- r is below the bound, passes, and has the place k
abbrev pub IsFound : (ℕ → Bool) → ℕ → ℕ → ℕ → Type 0
IsFound test b k r = (r < b) × (test r ≡ true) × (place test r ≡ k)

-- each number below that of all that pass is the place of one
pub passing_is : (test : ℕ → Bool) (b k : ℕ) → k < place test b → IsFound test b k (passing test b k)
passing_is test zero k lt = absurd (omega arith)
passing_is test (suc b) k lt = by_test (λ less. passing_is test b k less) (test b) refl (nat_eq (place test b) k) refl
  where
    by_test : (k < place test b → IsFound test b k (passing test b k)) → (p : Bool) → test b ≡ p → (q : Bool)
        → nat_eq (place test b) k ≡ q → IsFound test (suc b) k (cond (p && q) b (passing test b k))
    by_test ih true e true f = (omega arith, e, from_nat_eq (place test b) k f)
    by_test ih true e false f =
        let before = ih (omega (arith, lt, place_yes test b e, from_not_nat_eq (place test b) k f)) in
        (omega (arith, before.0), before.1, before.2)
    by_test ih false e q f =
        let before = ih (let step = place_no test b e in omega (arith, lt, step)) in
        (omega (arith, before.0), before.1, before.2)

-- and the one of that place
pub passing_place : (test : ℕ → Bool) (b r : ℕ) → r < b → test r ≡ true → passing test b (place test r) ≡ r
passing_place test b r lt e = (let found = passing_is test b (place test r) (place_less test r b e lt) in
    place_once test (passing test b (place test r)) r found.1 e found.2)

pub place_within : (test : ℕ → Bool) (b r : ℕ) → r < b → test r ≡ true → place test r < place test b
place_within test b r lt e = place_less test r b e lt
