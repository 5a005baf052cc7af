-- Either fractions meet all inequalities, or factors contradict them, and never both (Farkas 1902).
use Rattle.std.proofs.Common.{◌≡◌, ◌≢◌, ℕ, zero, suc, ◌<◌, ◌≤◌, Bool, cond, List, [], ◌∷◌, ℤ, pos, neg_ℤ, ◌*ℤ◌, ◌≤ℤ◌}
use Rattle.std.proofs.Common.{refl, sym, ap, ◌∙◌, inl, inr, arith, nat_eq, if◌then◌else◌}
use Rattle.std.specs.List.{AllByRecursion}
use Rattle.definitions.proofs.Ring.{linear, mul-zeroℤ, zero-mulℤ, one-mulℤ, mul_assocℤ, mul-leℤ, mul-nonnegativeℤ}
use Rattle.definitions.proofs.Ring.{mul-positiveℤ}
use Rattle.definitions.proofs.Members.{sum_below-same, sum_below-add, sum_below-times, sum_below-zero, sum_below-front}
use Rattle.definitions.proofs.Cases.{nat_eq-same, nat_eq-other, less_or_last}
use Rattle.definitions.proofs.Parts.{sum_below-le}
use Rattle.definitions.specs.Sums.{sum_below}
use Rattle.law_duality.specs.Farkas.{MeetsAll, Contradicts, Farkas}
use Rattle.law_duality.proofs.Elimination.{Row, Meets, IsClosed, combined, Point, Contradiction, value_combined}
use Rattle.law_duality.proofs.Elimination.{eliminate}
use Rattle.std.proofs.Math.Nat.{le_refl}
use lib.IntN.{*ℤ_comm}
use Rattle.theorems.proofs.Products.{products, sorted_products}

-- ---- sums

sum_below-negative : (n : ℕ) (w b : ℕ → ℤ)
    → sum_below n (λ s. w s *ℤ neg_ℤ (b s)) ≡ neg_ℤ (sum_below n (λ s. w s *ℤ b s))
sum_below-negative zero w b = refl
sum_below-negative (suc n) w b = omega (products, sum_below-negative n w b)

sum_below-exchange : (m n : ℕ) (f : ℕ → ℕ → ℤ)
    → sum_below m (λ s. sum_below n (λ i. f s i)) ≡ sum_below n (λ i. sum_below m (λ s. f s i))
sum_below-exchange zero n f = sym (sum_below-zero n (λ i. pos 0) (λ i lt. refl))
sum_below-exchange (suc m) n f =
    omega (arith, linear, sum_below-exchange m n f, sum_below-add n (λ i. sum_below m (λ s. f s i)) (λ i. f m i))

-- the factor 1 at one number
abbrev pub unit_at : ℕ → ℕ → ℤ
unit_at s t = if nat_eq t s then pos 1 else pos 0

pub unit_at-other : (s t : ℕ) (z : ℤ) → t ≢ s → unit_at s t *ℤ z ≡ pos 0
unit_at-other s t z h = rw (nat_eq-other t s h) (zero-mulℤ z)

unit_at-same : (s : ℕ) (z : ℤ) → unit_at s s *ℤ z ≡ z
unit_at-same s z = rw (nat_eq-same s) (one-mulℤ z)

pub one_or_none-low : (b : Bool) → pos 0 ≤ℤ cond b (pos 1) (pos 0)
one_or_none-low b = grind (arith, linear)

pub unit_at-low : (s t : ℕ) → pos 0 ≤ℤ unit_at s t
unit_at-low s t = one_or_none-low (nat_eq t s)

pub sum_below-unit : (m s : ℕ) (f : ℕ → ℤ) → s < m → sum_below m (λ t. unit_at s t *ℤ f t) ≡ f s
sum_below-unit zero s f lt = absurd (omega arith)
sum_below-unit (suc m) s f lt = elim (less_or_last s m lt) [
  | inl less ↦ omega (arith, linear, sum_below-unit m s f less, unit_at-other s m (f m) (λ e. omega arith))
  | inr same ↦ rw (sym same)
      (omega (
        products,
        sum_below-zero s (λ t. unit_at s t *ℤ f t) (λ t less. unit_at-other s t (f t) (λ e. omega arith)),
        unit_at-same s (f s),
      ))
]

-- ---- the inequalities as rows

-- the right side, and the coefficients behind it
abbrev row : (ℕ → ℕ → ℤ) → (ℕ → ℤ) → ℕ → Row
row a b s zero = neg_ℤ (b s)
row a b s (suc i) = a s i

abbrev rows : (ℕ → ℕ → ℤ) → (ℕ → ℤ) → ℕ → List Row
rows a b zero = []
rows a b (suc m) = row a b m ∷ rows a b m

-- the row is what factors of at least 0 make of the first m rows
record Made (m : ℕ) (a : ℕ → ℕ → ℤ) (b : ℕ → ℤ) (u : Row) : Type 0 where
  pub factor : ℕ → ℤ
  pub low : (s : ℕ) → s < m → pos 0 ≤ℤ factor s
  pub entries : (i : ℕ) → u i ≡ sum_below m (λ s. factor s *ℤ row a b s i)

made_closed : (m : ℕ) (a : ℕ → ℕ → ℤ) (b : ℕ → ℤ) → IsClosed (Made m a b)
made_closed m a b c d u v hc hd p q = record {
  factor = combined c d p.factor q.factor;
  low = λ s lt. omega (
    products,
    mul-nonnegativeℤ c (p.factor s) hc (p.low s lt),
    mul-nonnegativeℤ d (q.factor s) hd (q.low s lt),
  );
  entries = λ i. omega (
    products,
    value_combined m (λ s. row a b s i) c d p.factor q.factor,
    ap (◌*ℤ◌ c) (p.entries i),
    ap (◌*ℤ◌ d) (q.entries i),
  );
}

made_one : (m s : ℕ) (a : ℕ → ℕ → ℤ) (b : ℕ → ℤ) → s < m → Made m a b (row a b s)
made_one m s a b lt = record {
  factor = unit_at s;
  low = λ t k. unit_at-low s t;
  entries = λ i. sym (sum_below-unit m s (λ t. row a b t i) lt);
}

made_rows : (m k : ℕ) (a : ℕ → ℕ → ℤ) (b : ℕ → ℤ) → k ≤ m → AllByRecursion (Made m a b) (rows a b k)
made_rows m zero a b le = tt
made_rows m (suc k) a b le = (made_one m k a b (omega arith), made_rows m k a b (omega arith))

at_row : (Q : Row → Type 0) (m s : ℕ) (a : ℕ → ℕ → ℤ) (b : ℕ → ℤ) → AllByRecursion Q (rows a b m) → s < m
    → Q (row a b s)
at_row Q zero s a b h lt = absurd (omega arith)
at_row Q (suc m) s a b h lt = elim (less_or_last s m lt) [
  | inl less ↦ at_row Q m s a b h.1 less
  | inr same ↦ rw same h.0
]

-- ---- one of the two, and never both

met : (m n : ℕ) (a : ℕ → ℕ → ℤ) (b : ℕ → ℤ) (r : Point n (rows a b m))
    → MeetsAll m n a b (λ i. r.at (suc i)) (r.at 0)
met m n a b r = (
  r.unit,
  λ s lt.
      let le = at_row (Meets (suc n) r.at) m s a b r.meets lt in
      omega (sorted_products, le, sum_below-front n (λ i. row a b s i *ℤ r.at i)),
)

contradicted : (m n : ℕ) (a : ℕ → ℕ → ℤ) (b : ℕ → ℤ) (r : Contradiction n (Made m a b))
    → Contradicts m n a b r.made.factor
contradicted m n a b r =
    let w = r.made.factor in
    let first = r.made.entries 0 in (
      r.made.low,
      λ i lt. sym (r.made.entries (suc i)) ∙ r.zeros (suc i) (omega arith) (omega arith),
      omega (arith, linear, r.negative, first, sum_below-negative m w b),
    )

pub never_both : (m n : ℕ) (a : ℕ → ℕ → ℤ) (b x : ℕ → ℤ) (q : ℤ) (w : ℕ → ℤ) → MeetsAll m n a b x q
    → Contradicts m n a b w → ⊥
never_both m n a b x q w meets c =
    let each = sum_below-le m (λ s. q *ℤ (w s *ℤ b s)) (λ s. sum_below n (λ i. w s *ℤ (a s i *ℤ x i)))
    (λ s lt. omega (
      sorted_products,
      mul-leℤ (w s) (q *ℤ b s) (sum_below n (λ i. a s i *ℤ x i)) (c.0 s lt) (meets.1 s lt),
      sum_below-times n (λ i. a s i *ℤ x i) (w s),
    )) in
    let exchange = sum_below-exchange m n (λ s i. w s *ℤ (a s i *ℤ x i)) in
    let none = sum_below-zero n (λ i. sum_below m (λ s. w s *ℤ (a s i *ℤ x i)))
    (λ i lt. sum_below-same m (λ s. w s *ℤ (a s i *ℤ x i)) (λ s. x i *ℤ (w s *ℤ a s i))
    (λ s k. sym (mul_assocℤ (w s) (a s i) (x i)) ∙ *ℤ_comm (w s *ℤ a s i) (x i))
    ∙ sum_below-times m (λ s. w s *ℤ a s i) (x i) ∙ ap (◌*ℤ◌ (x i)) (c.1 i lt)
    ∙ mul-zeroℤ (x i)) in
    let more = mul-positiveℤ q (sum_below m (λ s. w s *ℤ b s)) (omega (arith, linear, meets.0)) c.2 in
    omega (arith, linear, each, exchange, none, more, sum_below-times m (λ s. w s *ℤ b s) q)

pub farkas : Farkas
farkas m n a b = elim (eliminate n (Made m a b) (made_closed m a b) (rows a b m) (made_rows m m a b (le_refl m))) [
  | inl r ↦ inl (
    (λ i. r.at (suc i)),
    r.at 0,
    met m n a b r,
    λ w c. never_both m n a b (λ i. r.at (suc i)) (r.at 0) w (met m n a b r) c,
  )
  | inr r ↦ inr (
    r.made.factor,
    contradicted m n a b r,
    λ x q meets. never_both m n a b x q r.made.factor meets (contradicted m n a b r),
  )
]
