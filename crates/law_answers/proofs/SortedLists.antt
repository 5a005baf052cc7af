-- The sorted list falls and holds the same numbers, and two such lists are one.
use Rattle.std.proofs.Common.{◌≡◌, ℕ, suc, ◌+◌, ◌≤◌, Bool, cond, List, [], ◌∷◌, length, ℤ, ◌≤ℤ◌, int_lt, refl, sym, ap}
use Rattle.std.proofs.Common.{ap₂, subst, ◌∙◌, arith}
use Rattle.std.proofs.lemmas.Int.{ints}
use Rattle.std.specs.List.{AllByRecursion}
use Rattle.std.specs.Ordering.{int_eq}
use Rattle.definitions.proofs.Alls.{all_weaken}
use Rattle.definitions.proofs.Ring.{linear}
use Rattle.theorems.proofs.Examples.{from_int_eq}
use Rattle.definitions.specs.Order.{with_number, sorted}
use Rattle.law_answers.specs.SortedLists.{times_in, Falls, IsSortingOf, SortedIsTheSorting}

-- 1 for a number that is z
abbrev pub one_if : ℤ → ℤ → ℕ
one_if z x = cond (int_eq x z) 1 0

-- ---- one number more

all_with_number : (m f : ℤ) (xs : List ℤ) → f ≤ℤ m → AllByRecursion (λ y. y ≤ℤ m) xs
    → AllByRecursion (λ y. y ≤ℤ m) (with_number f xs)
all_with_number m f [] le h = (le, tt)
all_with_number m f (x ∷ xs) le h = next_all (all_with_number m f xs le h.1) (int_lt x f)
  where
    next_all : AllByRecursion (λ y. y ≤ℤ m) (with_number f xs) → (b : Bool)
        → AllByRecursion (λ y. y ≤ℤ m) (cond b (f ∷ (x ∷ xs)) (x ∷ with_number f xs))
    next_all ih b = grind arith

pub Falls-with_number : (f : ℤ) (xs : List ℤ) → Falls xs → Falls (with_number f xs)
Falls-with_number f [] h = (tt, tt)
Falls-with_number f (x ∷ xs) h = next_falls (Falls-with_number f xs h.1) (int_lt x f) refl
  where
    next_falls : Falls (with_number f xs) → (b : Bool) → int_lt x f ≡ b
        → Falls (cond b (f ∷ (x ∷ xs)) (x ∷ with_number f xs))
    next_falls ih b e = grind (arith, ints, all_weaken, all_with_number)

pub times_in-with_number : (z f : ℤ) (xs : List ℤ) → times_in z (with_number f xs) ≡ one_if z f + times_in z xs
times_in-with_number z f [] = refl
times_in-with_number z f (x ∷ xs) = next_times (times_in-with_number z f xs) (int_lt x f)
  where
    next_times : times_in z (with_number f xs) ≡ one_if z f + times_in z xs → (b : Bool)
        → times_in z (cond b (f ∷ (x ∷ xs)) (x ∷ with_number f xs)) ≡ one_if z f + (one_if z x + times_in z xs)
    next_times ih b = grind arith

pub length-with_number : (f : ℤ) (xs : List ℤ) → length (with_number f xs) ≡ suc (length xs)
length-with_number f [] = refl
length-with_number f (x ∷ xs) = next_length (length-with_number f xs) (int_lt x f)
  where
    next_length : length (with_number f xs) ≡ suc (length xs) → (b : Bool)
        → length (cond b (f ∷ (x ∷ xs)) (x ∷ with_number f xs)) ≡ suc (suc (length xs))
    next_length ih b = grind arith

-- ---- the sorted list

pub Falls-sorted : (xs : List ℤ) → Falls (sorted xs)
Falls-sorted [] = tt
Falls-sorted (x ∷ xs) = Falls-with_number x (sorted xs) (Falls-sorted xs)

pub times_in-sorted : (z : ℤ) (xs : List ℤ) → times_in z (sorted xs) ≡ times_in z xs
times_in-sorted z [] = refl
times_in-sorted z (x ∷ xs) = omega (arith, times_in-with_number z x (sorted xs), times_in-sorted z xs)

-- ---- no other

one_if-same : (x : ℤ) → one_if x x ≡ 1
one_if-same x = grind (arith, ints)

-- what stands in a list that nothing is greater than m in isn't either
standing : (m z : ℤ) (xs : List ℤ) → AllByRecursion (λ y. y ≤ℤ m) xs → 1 ≤ times_in z xs → z ≤ℤ m
standing m z [] h some = absurd (omega arith)
standing m z (x ∷ xs) h some = next_standing (standing m z xs h.1) (int_eq x z) refl
  where
    next_standing : (1 ≤ times_in z xs → z ≤ℤ m) → (b : Bool) → int_eq x z ≡ b → z ≤ℤ m
    next_standing ih b e = grind (arith, linear, from_int_eq)

-- the first of a list that falls is no less than what stands in it
first_greatest : (x z : ℤ) (xs : List ℤ) → Falls (x ∷ xs) → 1 ≤ times_in z (x ∷ xs) → z ≤ℤ x
first_greatest x z xs h some = standing x z (x ∷ xs) (omega (arith, linear), h.0) some

-- two lists that fall and hold the same numbers, each as often, are one
pub falling_same : (xs ys : List ℤ) → Falls xs → Falls ys → ((z : ℤ) → times_in z xs ≡ times_in z ys) → xs ≡ ys
falling_same [] [] f g h = refl
falling_same [] (y ∷ ys) f g h = absurd (let e = h y in let one = one_if-same y in omega (arith, e, one))
falling_same (x ∷ xs) [] f g h = absurd (let e = h x in let one = one_if-same x in omega (arith, e, one))
falling_same (x ∷ xs) (y ∷ ys) f g h =
    let d = h y in
    let low = first_greatest y x ys g (omega (arith, h x, one_if-same x)) in
    let high = first_greatest x y xs f (let one = one_if-same y in omega (arith, d, one)) in
    let same : x ≡ y = omega (arith, linear, low, high) in
    ap₂ (λ (z : ℤ) (zs : List ℤ). z ∷ zs) same
    (falling_same xs ys f.1 g.1 (λ z. let k = h z in let o = ap (one_if z) same in omega (arith, k, o)))

pub sorted_is_the_sorting : SortedIsTheSorting
sorted_is_the_sorting xs ys = (
  λ h. falling_same ys (sorted xs) h.falls (Falls-sorted xs) (λ z. h.same z ∙ sym (times_in-sorted z xs)),
  λ e. subst (IsSortingOf xs) (sym e) (record { falls = Falls-sorted xs; same = λ z. times_in-sorted z xs }),
)
