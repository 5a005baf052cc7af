-- The players in ascending order are an order.
use Rattle.std.proofs.Common.{◌≡◌, ℕ, zero, suc, ◌+◌, ◌<◌, ◌≤◌, false, nat_eq, List}
use Rattle.std.proofs.Common.{[], ◌∷◌, ◌++◌, ap, ◌∙◌, arith}
use Rattle.std.specs.List.{AllByRecursion, range_with_len}
use Rattle.std.proofs.lemmas.List.FromFn.{length-range_with_len}
use Rattle.definitions.specs.Shapley.{AllDiffer, IsOrder}
use Rattle.definitions.proofs.Cases.{nat_eq-less}

range-below : (a n m : ℕ) → a + n ≤ m → AllByRecursion (λ p. p < m) (range_with_len a n)
range-below a zero m h = tt
range-below a (suc n) m h = (omega arith, range-below (a + 1) n m (omega arith))

range-apart : (x a n : ℕ) → x < a → AllByRecursion (λ p. nat_eq x p ≡ false) (range_with_len a n)
range-apart x a zero h = tt
range-apart x a (suc n) h = (nat_eq-less x a h, range-apart x (a + 1) n (omega arith))

range-differ : (a n : ℕ) → AllDiffer (range_with_len a n)
range-differ a zero = tt
range-differ a (suc n) = (range-apart a (a + 1) n (omega arith), range-differ (a + 1) n)

pub range_is_order : (n : ℕ) → IsOrder n (range_with_len 0 n)
range_is_order n = record {
  all = length-range_with_len 0 n;
  below = range-below 0 n n (omega arith);
  once = range-differ 0 n;
}

pub range_more : (a n : ℕ) → range_with_len a (suc n) ≡ range_with_len a n ++ (a + n) ∷ []
range_more a zero = ap (λ (k : ℕ). k ∷ []) (plus_zero a)
  where
    plus_zero : (a : ℕ) → a ≡ a + 0
    plus_zero a = omega arith
range_more a (suc n) =
    let next : a + 1 + n ≡ a + suc n = omega arith in
    ap (λ (ks : List ℕ). a ∷ ks) (range_more (a + 1) n ∙ ap (λ (k : ℕ). range_with_len (a + 1) n ++ k ∷ []) next)
