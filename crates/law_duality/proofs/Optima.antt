-- A linear program that has a solution and a bound attains its least value: one form, and the least greatest value
-- of one.
use Rattle.std.proofs.Common.{◌≡◌, ℕ, zero, suc, ◌<◌, List, [], ◌∷◌, ℤ, pos, neg_ℤ, ◌+ℤ◌, ◌*ℤ◌, ◌≤ℤ◌, refl, inl, inr}
use Rattle.std.proofs.Common.{arith}
use Rattle.std.specs.List.{AllByRecursion}
use Rattle.definitions.proofs.Ring.{linear, mul-leℤ}
use Rattle.definitions.proofs.Cases.{less_or_last}
use Rattle.definitions.specs.Sums.{sum_below}
use Rattle.law_duality.specs.Farkas.{MeetsAll}
use Rattle.law_duality.specs.Optima.{linear_value, OptimaExist}
use Rattle.law_duality.proofs.Elimination.{Row, Meets}
use Rattle.law_duality.proofs.Levels.{val, Flat, minimax}
use Rattle.law_duality.proofs.Nucleoli.{asks, shares_of, val_asks}
use Rattle.theorems.proofs.Products.{products, sorted_products}

module _ (n : ℕ) (a : ℕ → ℕ → ℤ) (b c : ℕ → ℤ) where
  abbrev rows : ℕ → List Row
  rows zero = []
  rows (suc m) = asks (neg_ℤ (b m)) (a m) ∷ rows m

  rows_flat : (m : ℕ) → AllByRecursion Flat (rows m)
  rows_flat zero = tt
  rows_flat (suc m) = (refl, rows_flat m)

  abbrev objective : ℕ → Row
  objective j = asks (pos 0) c

  val_row : (s : ℕ) (y : Row)
      → val n y (asks (neg_ℤ (b s)) (a s)) ≡ sum_below n (λ i. a s i *ℤ shares_of y i) +ℤ neg_ℤ (y 0 *ℤ b s)
  val_row s y = omega (sorted_products, val_asks n (neg_ℤ (b s)) (a s) y)

  val_objective : (y : Row) → val n y (asks (pos 0) c) ≡ linear_value n c (shares_of y)
  val_objective y = omega (products, val_asks n (pos 0) c y)

  to_rows : (y : Row) (m : ℕ) → ((s : ℕ) → s < m → (y 0 *ℤ b s) ≤ℤ sum_below n (λ i. a s i *ℤ shares_of y i))
      → AllByRecursion (Meets (suc (suc n)) y) (rows m)
  to_rows y zero h = tt
  to_rows y (suc m) h =
      (omega (arith, linear, h m (omega arith), val_row m y), to_rows y m (λ s lt. h s (omega arith)))

  from_rows : (y : Row) (m : ℕ) → AllByRecursion (Meets (suc (suc n)) y) (rows m) → (s : ℕ) → s < m
      → (y 0 *ℤ b s) ≤ℤ sum_below n (λ i. a s i *ℤ shares_of y i)
  from_rows y zero h s lt = absurd (omega arith)
  from_rows y (suc m) h s lt = elim (less_or_last s m lt) [
    | inl less ↦ from_rows y m h.1 s less
    | inr same ↦ rw same (omega (arith, linear, h.0, val_row m y))
  ]

  -- numbers over a denominator, with a value for the level, as a point
  abbrev with_level : (ℕ → ℤ) → ℤ → ℤ → Row
  with_level x q t zero = q
  with_level x q t (suc zero) = t
  with_level x q t (suc (suc i)) = x i

  pub optimum : (m : ℕ) (x : ℕ → ℤ) (q low : ℤ) → MeetsAll m n a b x q
      → ((y : ℕ → ℤ) (r : ℤ) → MeetsAll m n a b y r → (low *ℤ r) ≤ℤ linear_value n c y)
      → (y : ℕ → ℤ) × (r : ℤ) × MeetsAll m n a b y r
      × ((z : ℕ → ℤ) (p : ℤ) → MeetsAll m n a b z p → (linear_value n c y *ℤ p) ≤ℤ (linear_value n c z *ℤ r))
  optimum m x q low meets bound =
      let z = with_level x q (pos 0) in
      let r = minimax n objective (λ j. refl) (rows m) (rows_flat m) z (meets.0, to_rows z m meets.1) (0 ∷ []) low
      (pos 1) (omega (arith, linear)) in
      let y = r.0 in
      let solves : MeetsAll m n a b (shares_of y) (y 0) = (r.1.0, from_rows y m r.1.1) in
      let top : linear_value n c (shares_of y) ≤ℤ y 1 =
      (omega (arith, linear, r.2.0, val_objective y)) in (
        shares_of y,
        y 0,
        solves,
        elim r.3 [
          | inr under ↦ absurd (omega (products, under, bound (shares_of y) (y 0) solves, top))
          | inl least ↦ λ u p hu.
              let t = linear_value n c u in
              let w = with_level u p t in
              let le = least w (hu.0, to_rows w m hu.1) (omega (arith, linear, val_objective w), tt) in
              let scaled = mul-leℤ p (linear_value n c (shares_of y)) (y 1) (omega (arith, linear, hu.0)) top in
              omega (sorted_products, le, scaled)
        ],
      )

pub optima_exist : OptimaExist
optima_exist m n a b c x q low meets bound = optimum n a b c m x q low meets bound
