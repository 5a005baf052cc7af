-- What a scan over the numbers in ascending order knows, one number further on.
use Rattle.std.proofs.Common.{◌≡◌, ℕ, zero, suc, ◌+◌, ◌-◌, ◌^◌, ◌<◌, ◌≤◌, ◌↔◌}
use Rattle.std.proofs.Common.{IsTrue, Bool, true, false}
use Rattle.std.proofs.Common.{cond, List, [], ◌∷◌, ◌++◌, map, ℤ, pos, ◌<ℤ◌, ◌≤ℤ◌}
use Rattle.std.proofs.Common.{int_lt, arith, refl}
use Rattle.std.proofs.Common.{sym, ap, subst, ◌∙◌, inl, inr, add-one, append-nil}
use Rattle.std.proofs.lemmas.Bool.{false≢true}
use Rattle.std.proofs.lemmas.Int.{ints, by_lt_z}
use Rattle.std.proofs.lemmas.List.Elements.{filter-append}
use Rattle.std.proofs.lemmas.List.FromFn.{map-range_with_len_more}
use Rattle.std.specs.Int.{int_max}
use Rattle.std.specs.List.{filter, range_with_len}
use Rattle.definitions.proofs.Ring.{linear}
use Rattle.definitions.specs.Sums.{IsGreatest}
use Rattle.definitions.specs.Games.{Game, Allocation, excess, Blocks, IsChosenBlocker}
use Rattle.definitions.proofs.Cases.{less_or_last_of}

-- ---- the greatest, and the greatest so far

pub IsGreatest-unique : (P : ℕ → Type 0) (f : ℕ → ℤ) (m k : ℤ) → IsGreatest P f m → IsGreatest P f k → m ≡ k
IsGreatest-unique P f m k h l = omega (arith, linear, h.0.2, l.0.2, h.1 l.0.0 l.0.1, l.1 h.0.0 h.0.1)

greatest-kept : (f : ℕ → ℤ) (k : ℕ) (m : ℤ) → IsGreatest (λ s. s < k) f m → f k ≤ℤ m
    → IsGreatest (λ s. s < k + 1) f m
greatest-kept f k m h le = (
  (h.0.0, omega (arith, h.0.1), h.0.2),
  λ t lt. elim (less_or_last_of t k lt)
      [ inl less ↦ h.1 t less | inr same ↦ subst (λ (u : ℕ). f u ≤ℤ m) (sym same) le ],
)

greatest-raised : (f : ℕ → ℤ) (k : ℕ) (m : ℤ) → IsGreatest (λ s. s < k) f m → m <ℤ f k
    → IsGreatest (λ s. s < k + 1) f (f k)
greatest-raised f k m h lt = (
  (k, omega arith, refl),
  λ t below. elim (less_or_last_of t k below) [
    | inl less ↦ omega (arith, ints, h.1 t less)
    | inr same ↦ subst (λ (u : ℕ). f u ≤ℤ f k) (sym same) (omega (arith, ints))
  ],
)

int_max-high : (a b : ℤ) → a <ℤ b → int_max a b ≡ b
int_max-high a b h = grind (arith, ints)

int_max-low : (a b : ℤ) → b ≤ℤ a → int_max a b ≡ a
int_max-low a b h = grind (arith, ints)

pub IsGreatest-more : (f : ℕ → ℤ) (k : ℕ) (m : ℤ) → IsGreatest (λ s. s < k) f m
    → IsGreatest (λ s. s < k + 1) f (int_max m (f k))
IsGreatest-more f k m h =
    by_lt_z m (f k)
    (λ lt. rw (int_max-high m (f k) lt) (greatest-raised f k m h lt))
    (λ le. rw (int_max-low m (f k) le) (greatest-kept f k m h le))

-- ---- one mask more in a list

range_with_len-suc : (a n j : ℕ) → a + n ≡ j → range_with_len a (suc n) ≡ range_with_len a n ++ j ∷ []
range_with_len-suc a zero j e = let same : a ≡ j = omega arith in rw same refl
range_with_len-suc a (suc n) j e = ap (λ (xs : List ℕ). a ∷ xs) (range_with_len-suc (a + 1) n j (omega arith))

filter-more : (test : ℕ → Bool) (n : ℕ)
    → filter test (range_with_len 0 (n + 1)) ≡ filter test (range_with_len 0 n) ++ cond (test n) (n ∷ []) []
filter-more test n =
    ap (λ (k : ℕ). filter test (range_with_len 0 k)) (add-one n)
    ∙ ap (filter test) (range_with_len-suc 0 n n (omega arith))
    ∙ filter-append test (range_with_len 0 n) (n ∷ [])

pub map-more : (f : ℕ → ℤ) (s : ℕ) → 1 ≤ s
    → map f (range_with_len 1 (s + 1 - 1)) ≡ map f (range_with_len 1 (s - 1)) ++ f s ∷ []
map-more f s low =
    let step : s + 1 - 1 ≡ (s - 1) + 1 = omega arith in
    ap (λ (k : ℕ). map f (range_with_len 1 k)) step ∙ map-range_with_len_more f 1 (s - 1) s (omega arith)

pub filter-passed : (test : ℕ → Bool) (n : ℕ) (xs ys : List ℕ) → test n ≡ true
    → xs ≡ filter test (range_with_len 0 n) → ys ≡ xs ++ n ∷ [] → ys ≡ filter test (range_with_len 0 (n + 1))
filter-passed test n xs ys passes before pushed =
    let more = filter-more test n in
    let one = ap (λ (b : Bool). cond b (n ∷ []) []) passes in
    cc

pub filter-failed : (test : ℕ → Bool) (n : ℕ) (xs ys : List ℕ) → test n ≡ false
    → xs ≡ filter test (range_with_len 0 n) → ys ≡ xs → ys ≡ filter test (range_with_len 0 (n + 1))
filter-failed test n xs ys fails before kept =
    let more = filter-more test n in
    let none =
    ap (λ (b : Bool). filter test (range_with_len 0 n) ++ cond b (n ∷ []) []) fails
    ∙ append-nil (filter test (range_with_len 0 n)) in
    cc

pub int_lt-true : (a b : ℤ) → a <ℤ b → int_lt a b ≡ true
int_lt-true a b lt = grind (arith, ints)

pub int_lt-false : (a b : ℤ) → b ≤ℤ a → int_lt a b ≡ false
int_lt-false a b le = grind (arith, ints)

-- the two tests of an order have one answer
pub int_lt-from_test : (a b : ℤ) (r : Bool) → (IsTrue r ↔ (a <ℤ b)) → int_lt a b ≡ r
int_lt-from_test a b true h = int_lt-true a b (h.0 refl)
int_lt-from_test a b false h =
    let le : b ≤ℤ a = by_lt_z a b (λ lt. absurd (false≢true (h.1 lt))) (λ le. le) in
    int_lt-false a b le

-- ---- the first mask of greatest excess

-- a number at most m that isn't m joins those below m
pub below-more : (f : ℕ → ℤ) (k : ℕ) (m : ℤ) → ((t : ℕ) → t < k → f t <ℤ m) → f k ≤ℤ m → (f k ≡ m → ⊥) → (t : ℕ)
    → t < k + 1 → f t <ℤ m
below-more f k m h le differs t below =
    elim (less_or_last_of t k below) [
      | inl less ↦ h t less
      | inr same ↦ subst (λ (u : ℕ). f u <ℤ m) (sym same)
          (by_lt_z (f k) m (λ lt. lt) (λ ge. absurd (differs (omega (arith, ints)))))
    ]

pub none_blocks : (g : Game) (x : Allocation) (m : ℤ) → IsGreatest (λ s. s < 2 ^ g.players) (excess g x) m
    → m ≤ℤ pos 0 → (s : ℕ) → s < 2 ^ g.players → ¬ Blocks g x s
none_blocks g x m h low s lt blocks = omega (arith, linear, h.1 s lt, blocks)

pub IsChosenBlocker-first : (g : Game) (x : Allocation) (m : ℤ) (s : ℕ)
    → IsGreatest (λ s. s < 2 ^ g.players) (excess g x) m → pos 0 <ℤ m → s < 2 ^ g.players → excess g x s ≡ m
    → ((t : ℕ) → t < s → excess g x t <ℤ m) → IsChosenBlocker g x s
IsChosenBlocker-first g x m s h up lt same below = record {
  within = lt;
  blocks = omega (arith, linear);
  greatest = λ t k. omega (arith, linear, h.1 t k);
  least = λ t k. omega (arith, linear, below t k);
}

pub some_greatest : (g : Game) (x : Allocation) (m : ℤ) → IsGreatest (λ s. s < 2 ^ g.players) (excess g x) m
    → ((t : ℕ) → t < 2 ^ g.players → excess g x t <ℤ m) → ⊥
some_greatest g x m h below = omega (arith, linear, below h.0.0 h.0.1, h.0.2)
