-- Laws of sums of products, of cuts, and of columns read from the last row.
use Rattle.std.proofs.Common.{◌≡◌, inl, inr, ℕ, zero, suc, ◌-◌, ◌<◌, ◌≤◌, cond}
use Rattle.std.proofs.Common.{nat_lt, arith, refl, sym, ap, ◌∙◌, ℤ, pos, ◌+ℤ◌, ◌*ℤ◌}
use Rattle.std.proofs.lemmas.Bool.Decides.{nat_tests}
use Rattle.definitions.proofs.Ring.{ring_laws, unit_laws, linear}
use Rattle.determinants.proofs.DotProducts.{backwards, dot_backwards, dot_cong, zero_row, dot_times}
use Rattle.determinants.specs.Determinant.{Column}
use Rattle.determinants.specs.Basis.{dot, IsWithin}
use Rattle.determinants.specs.Lexicographic.{IsLexPositive, IsLexNonnegative}
use Rattle.definitions.specs.Sums.{sum_below}
use Rattle.simplex.specs.Measure.{cut}
use Rattle.simplex.specs.Program.{flipped}
use lib.IntN.{*ℤ_comm}

pub dot_comm : (n : ℕ) (a b : ℕ → ℤ) → dot n a b ≡ dot n b a
dot_comm zero a b = refl
dot_comm (suc n) a b = cc (dot_comm n a b, *ℤ_comm (a n) (b n))

pub dot_scaled : (n : ℕ) (s : ℤ) (a w : ℕ → ℤ) → dot n (λ i. s *ℤ a i) w ≡ s *ℤ dot n a w
dot_scaled n s a w = cc (dot_comm n (λ i. s *ℤ a i) w, dot_times n w s a, dot_comm n w a)

-- the sum of products, as the definitions write it
pub sum_dot : (n : ℕ) (a f : ℕ → ℤ) → sum_below n (λ r. a r *ℤ f r) ≡ dot n a f
sum_dot zero a f = refl
sum_dot (suc n) a f = ap (λ (z : ℤ). z +ℤ a n *ℤ f n) (sum_dot n a f)

dot_add : (n : ℕ) (c a b : ℕ → ℤ) (t : ℤ) → dot n c (λ k. a k +ℤ b k *ℤ t) ≡ dot n c a +ℤ dot n c b *ℤ t
dot_add zero c a b t = simp unit_laws
dot_add (suc n) c a b t =
    cc (dot_add n c a b t, terms_by_factor (dot n c a) (dot n c b) (c n) (a n) (b n) t)
  where
    terms_by_factor : (p q c a b t : ℤ) → (p +ℤ q *ℤ t) +ℤ c *ℤ (a +ℤ b *ℤ t) ≡ (p +ℤ c *ℤ a) +ℤ (q +ℤ c *ℤ b) *ℤ t
    terms_by_factor p q c a b t = simp ring_laws (omega (arith, linear))

-- the two orders of a double sum
pub dot_swap : (n m : ℕ) (c : ℕ → ℤ) (x : ℕ → ℕ → ℤ) (s : Column)
    → dot n c (λ k. dot m (x k) s) ≡ dot m (λ i. dot n c (λ k. x k i)) s
dot_swap n zero c x s = zero_row n c
dot_swap n (suc m) c x s = cc (dot_add n c (λ k. dot m (x k) s) (λ k. x k m) (s m), dot_swap n m c x s)

-- ---- columns read from the last row
cond_in : (j n : ℕ) (u v : ℤ) → j < n → cond (nat_lt j n) u v ≡ u
cond_in j n u v lt = grind (arith, nat_tests)

cond_out : (j n : ℕ) (u v : ℤ) → n ≤ j → cond (nat_lt j n) u v ≡ v
cond_out j n u v le = grind (arith, nat_tests)

pub flipped_within : (n : ℕ) (a : ℕ → ℤ) → IsWithin n (flipped n a)
unfolding flipped
flipped_within n a j le = cond_out j n (a (n - 1 - j)) (pos 0) le

pub flipped_at : (n : ℕ) (a : ℕ → ℤ) (i : ℕ) → i < n → flipped n a i ≡ a (n - 1 - i)
unfolding flipped
flipped_at n a i lt = cond_in i n (a (n - 1 - i)) (pos 0) lt

-- a sum over the program's rows
pub dot_flipped : (n : ℕ) (num m a : ℕ → ℤ) → ((i : ℕ) → i < n → num (n - 1 - i) ≡ m i)
    → dot n num a ≡ dot n m (flipped n a)
dot_flipped n num m a h =
    sym (dot_backwards n num a)
    ∙ dot_cong n (backwards n num) m (backwards n a) (flipped n a) h (λ i lt. sym (flipped_at n a i lt))

-- ---- cuts
pub cut_in : (m : ℕ) (a : ℕ → ℤ) (j : ℕ) → j < m → cut m a j ≡ a j
cut_in m a j lt = cond_in j m (a j) (pos 0) lt

pub cut_out : (m : ℕ) (a : ℕ → ℤ) (j : ℕ) → m ≤ j → cut m a j ≡ pos 0
cut_out m a j le = cond_out j m (a j) (pos 0) le

-- ---- lexicographic signs depend on the numbers alone
pub nonneg_same : (m : ℕ) (a b : ℕ → ℤ) → ((j : ℕ) → j < m → a j ≡ b j) → IsLexNonnegative m a
    → IsLexNonnegative m b
nonneg_same zero a b h p = tt
nonneg_same (suc m) a b h (inl p) = inl (rw (h 0 (omega arith)) at p)
nonneg_same (suc m) a b h (inr p) =
    inr (
      sym (h 0 (omega arith)) ∙ p.0,
      nonneg_same m (λ j. a (suc j)) (λ j. b (suc j)) (λ j lt. h (suc j) (omega arith)) p.1,
    )

pub positive_same : (m : ℕ) (a b : ℕ → ℤ) → ((j : ℕ) → j < m → a j ≡ b j) → IsLexPositive m a → IsLexPositive m b
positive_same zero a b h p = p
positive_same (suc m) a b h (inl p) = inl (rw (h 0 (omega arith)) at p)
positive_same (suc m) a b h (inr p) =
    inr (
      sym (h 0 (omega arith)) ∙ p.0,
      positive_same m (λ j. a (suc j)) (λ j. b (suc j)) (λ j lt. h (suc j) (omega arith)) p.1,
    )
