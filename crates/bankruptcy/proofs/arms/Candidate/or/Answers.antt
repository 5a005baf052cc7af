use Rattle.std.proofs.Common.{◌≡◌, ℕ, ◌<◌, ◌≤◌, true, false, ℤ, ◌<ℤ◌, ◌≤ℤ◌, to_z}
use Rattle.std.proofs.Common.{of_z}
use Rattle.std.proofs.Common.{FitsSigned, is_lt, nat_cmp, sym, ap, ◌∙◌, arith, rules}
use Rattle.std.proofs.lemmas.Int.{ints, to_z-of_z}
use Rattle.std.specs.Int.{int_max}
use lib.Signed.{lt_z}
use mir.Syntax.{w128}
use Rattle.bankruptcy.specs.Arms.{IsLeastGreatest}
use Rattle.bankruptcy.proofs.arms.Candidate.or.Goals as goal
use Rattle.bankruptcy.proofs.arms.Candidate.or.Goals.{else-other-self-2-via-then-other-self-2+else-lt}
use Rattle.bankruptcy.proofs.arms.Candidate.or.Goals.{else-other-self-2-via-else-other-self-2}

-- ---- the greater of two numbers

max_at_most : (a b m : ℤ) → a ≤ℤ m → b ≤ℤ m → int_max a b ≤ℤ m
max_at_most a b m h k = grind (arith, ints)

max_below : (a b m : ℤ) → a <ℤ m → b <ℤ m → int_max a b <ℤ m
max_below a b m h k = grind (arith, ints)

max_second : (a b : ℤ) → a ≤ℤ b → b ≡ int_max a b
max_second a b h = grind (arith, ints)

max_first : (a b : ℤ) → b ≤ℤ a → a ≡ int_max a b
max_first a b h = grind (arith, ints)

-- ---- the candidate that has it

-- the second, where no lesser mask of the first has as much
second : (v w : ℕ → ℤ) (top s t : ℕ) (m k : ℤ) → m ≤ℤ k → ((u : ℕ) → u < t → v u <ℤ k) → IsLeastGreatest v top s m
    → IsLeastGreatest w top t k → IsLeastGreatest (λ u. int_max (v u) (w u)) top t k
second v w top s t m k le less h j = record {
  within = j.within;
  value =
      j.value ∙ max_second (v t) (w t) (let a = h.greatest t j.within in let b = j.value in omega (arith, ints));
  greatest = λ u lt. max_at_most (v u) (w u) k (let a = h.greatest u lt in omega (arith, ints)) (j.greatest u lt);
  least = λ u lt. max_below (v u) (w u) k (less u lt) (j.least u lt);
}

-- the first, where no lesser mask of the second has as much
first : (v w : ℕ → ℤ) (top s t : ℕ) (m k : ℤ) → k ≤ℤ m → ((u : ℕ) → u < s → w u <ℤ m) → IsLeastGreatest v top s m
    → IsLeastGreatest w top t k → IsLeastGreatest (λ u. int_max (v u) (w u)) top s m
first v w top s t m k le less h j = record {
  within = h.within;
  value = h.value ∙ max_first (v s) (w s) (let a = j.greatest s h.within in let b = h.value in omega (arith, ints));
  greatest = λ u lt. max_at_most (v u) (w u) m (h.greatest u lt) (let a = j.greatest u lt in omega (arith, ints));
  least = λ u lt. max_below (v u) (w u) m (h.least u lt) (less u lt);
}

greater : (v w : ℕ → ℤ) (top s t : ℕ) (m k : ℤ) → m <ℤ k → IsLeastGreatest v top s m → IsLeastGreatest w top t k
    → IsLeastGreatest (λ u. int_max (v u) (w u)) top t k
greater v w top s t m k lt h j =
    let within = j.within in
    second v w top s t m k (omega (arith, ints))
    (λ u below. let a = h.greatest u (omega (arith, below, within)) in omega (arith, ints)) h j

same_lesser : (v w : ℕ → ℤ) (top s t : ℕ) (m k : ℤ) → m ≡ k → t < s → IsLeastGreatest v top s m
    → IsLeastGreatest w top t k → IsLeastGreatest (λ u. int_max (v u) (w u)) top t k
same_lesser v w top s t m k same lt h j =
    second v w top s t m k (omega (arith, ints))
    (λ u below. let a = h.least u (omega (arith, below, lt)) in omega (arith, ints)) h j

same_greater : (v w : ℕ → ℤ) (top s t : ℕ) (m k : ℤ) → m ≡ k → s ≤ t → IsLeastGreatest v top s m
    → IsLeastGreatest w top t k → IsLeastGreatest (λ u. int_max (v u) (w u)) top s m
same_greater v w top s t m k same le h j =
    first v w top s t m k (omega (arith, ints))
    (λ u below. let a = j.least u (omega (arith, below, le)) in omega (arith, ints)) h j

lesser : (v w : ℕ → ℤ) (top s t : ℕ) (m k : ℤ) → k <ℤ m → IsLeastGreatest v top s m → IsLeastGreatest w top t k
    → IsLeastGreatest (λ u. int_max (v u) (w u)) top s m
lesser v w top s t m k lt h j =
    let within = h.within in
    first v w top s t m k (omega (arith, ints))
    (λ u below. let a = j.greatest u (omega (arith, below, within)) in omega (arith, ints)) h j

-- ---- the tests of the code

is_less : (m k : ℤ) → FitsSigned w128 m → FitsSigned w128 k
    → lt_z (to_z w128 (of_z w128 m)) (to_z w128 (of_z w128 k)) ≡ true → m <ℤ k
is_less m k f g h = let e = rw (to_z-of_z w128 m f, to_z-of_z w128 k g) at h in omega (arith, ints)

isnt_less : (m k : ℤ) → FitsSigned w128 m → FitsSigned w128 k
    → lt_z (to_z w128 (of_z w128 m)) (to_z w128 (of_z w128 k)) ≡ false → k ≤ℤ m
isnt_less m k f g h = let e = rw (to_z-of_z w128 m f, to_z-of_z w128 k g) at h in omega (arith, ints)

is_same : (m k : ℤ) → FitsSigned w128 m → FitsSigned w128 k → of_z w128 k ≡ of_z w128 m → m ≡ k
is_same m k f g e = sym (to_z-of_z w128 m f) ∙ ap (to_z w128) (sym e) ∙ to_z-of_z w128 k g

isnt_same : (m k : ℤ) → k ≤ℤ m → (of_z w128 k ≡ of_z w128 m → ⊥) → k <ℤ m
isnt_same m k le differ = let other : k ≡ m → ⊥ = λ e. differ (ap (of_z w128) e) in omega (arith, ints, other)

is_before : (t s : ℕ) → is_lt (nat_cmp t s) ≡ true → t < s
is_before t s h = search rules

isnt_before : (t s : ℕ) → is_lt (nat_cmp t s) ≡ false → s ≤ t
isnt_before t s h = search rules

pub returns-then-other-self : goal.returns-then-other-self
returns-then-other-self c =
    let f : FitsSigned w128 c.args.self.excess = search rules in
    let g : FitsSigned w128 c.args.other.excess = search rules in
    let lt = is_less c.args.self.excess c.args.other.excess f g c.if-other-self.true in
    λ v w top h j. greater v w top c.args.self.coalition c.args.other.coalition c.args.self.excess
    c.args.other.excess lt h j

pub returns-then-lt : goal.returns-then-lt
returns-then-lt c =
    let f : FitsSigned w128 c.args.self.excess = search rules in
    let g : FitsSigned w128 c.args.other.excess = search rules in
    let same = is_same c.args.self.excess c.args.other.excess f g c.if-other-self-2.true in
    let lt = is_before c.args.other.coalition c.args.self.coalition (sym c.lt.ensures ∙ c.if-lt.true) in
    λ v w top h j. same_lesser v w top c.args.self.coalition c.args.other.coalition c.args.self.excess
    c.args.other.excess same lt h j

pub returns : goal.returns
returns c =
    let s = c.args.self in
    let o = c.args.other in
    let f : FitsSigned w128 c.args.self.excess = search rules in
    let g : FitsSigned w128 c.args.other.excess = search rules in
    let le = isnt_less c.args.self.excess c.args.other.excess f g c.if-other-self.false in
    λ v w top h j. elim c.else-other-self-2.branch [
      | else-other-self-2-via-then-other-self-2+else-lt b ↦
          let same = is_same s.excess o.excess f g b.if-other-self-2.true in
          same_greater v w top s.coalition o.coalition s.excess o.excess same
          (isnt_before o.coalition s.coalition (sym b.lt.ensures ∙ b.if-lt.false)) h j
      | else-other-self-2-via-else-other-self-2 b ↦
          lesser v w top s.coalition o.coalition s.excess o.excess
          (isnt_same s.excess o.excess le b.if-other-self-2.false) h j
    ]
