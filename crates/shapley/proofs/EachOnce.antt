-- The list of orders has only orders, and each one exactly once.
use Rattle.std.proofs.Common.{◌≡◌, ℕ, zero, suc, ◌+◌, ◌*◌, ◌<◌, ◌≤◌, Bool, true}
use Rattle.std.proofs.Common.{false, cond, ◌&&◌, ◌||◌, nat_eq, List}
use Rattle.std.proofs.Common.{[], ◌∷◌, ◌++◌, length, map, refl, sym, ap, ◌∙◌, arith}
use Rattle.std.proofs.Common.{if◌then◌else◌}
use Rattle.std.specs.List.{flat_map, AllByRecursion}
use Rattle.std.proofs.lemmas.Bool.{false≢true}
use Rattle.std.proofs.lemmas.List.{length-append}
use Rattle.std.proofs.lemmas.Bool.Decides.{nat_tests}
use Rattle.definitions.proofs.Cases.{nat_eq-other, from_nat_eq, nat_eq-turned, neither}
use Rattle.definitions.proofs.Alls.{all_weaken}
use Rattle.definitions.specs.Shapley.{AllDiffer, IsOrder, insertions, orders, factorial}
use Rattle.shapley.specs.Each.{is_same, one_if, times}
use Rattle.shapley.proofs.Orders.{orders-below, insertions-length, length-insertions}
use Rattle.shapley.proofs.Orders.{All-map, All-flat_map, All-insertions}

-- the list without the first n
abbrev strip : ℕ → List ℕ → List ℕ
strip n [] = []
strip n (p ∷ o) = if nat_eq p n then o else p ∷ strip n o

abbrev holds : ℕ → List ℕ → Bool
holds n [] = false
holds n (p ∷ o) = nat_eq p n || holds n o

All-strip : (P : ℕ → Type 0) (n : ℕ) (o : List ℕ) → AllByRecursion P o → AllByRecursion P (strip n o)
All-strip P n [] h = tt
All-strip P n (p ∷ o) h = grind (arith, All-strip P n o h.1)

strip-distinct : (n : ℕ) (o : List ℕ) → AllDiffer o → AllDiffer (strip n o)
strip-distinct n [] h = tt
strip-distinct n (p ∷ o) h = differ_either (nat_eq p n) (strip-distinct n o h.1)
  where
    differ_either : (b : Bool) → AllDiffer (strip n o) → AllDiffer (cond b o (p ∷ strip n o))
    differ_either true k = h.1
    differ_either false k = (All-strip (λ y. nat_eq p y ≡ false) n o h.0, k)

not_last : (n p : ℕ) → nat_eq p n ≡ false → p < suc n → p < n
not_last n p f lt = grind (arith, nat_tests)

others_below : (n p : ℕ) (o : List ℕ) → nat_eq p n ≡ true → AllByRecursion (λ y. nat_eq p y ≡ false) o
    → AllByRecursion (λ y. y < suc n) o → AllByRecursion (λ y. y < n) o
others_below n p [] e h k = tt
others_below n p (y ∷ o) e h k = (less p y e h.0 k.0, others_below n p o e h.1 k.1)
  where
    less : (p y : ℕ) → nat_eq p n ≡ true → nat_eq p y ≡ false → y < suc n → y < n
    less p y e f lt = grind (arith, nat_tests)

strip-below : (n : ℕ) (o : List ℕ) → AllDiffer o → AllByRecursion (λ y. y < suc n) o
    → AllByRecursion (λ y. y < n) (strip n o)
strip-below n [] h k = tt
strip-below n (p ∷ o) h k = below_either (nat_eq p n) refl (strip-below n o h.1 k.1)
  where
    below_either : (b : Bool) → nat_eq p n ≡ b → AllByRecursion (λ y. y < n) (strip n o)
        → AllByRecursion (λ y. y < n) (cond b o (p ∷ strip n o))
    below_either true e ih = others_below n p o e h.0 k.1
    below_either false e ih = (not_last n p e k.0, ih)

strip-length : (n : ℕ) (o : List ℕ) → holds n o ≡ true → length o ≡ suc (length (strip n o))
strip-length n [] e = absurd (false≢true e)
strip-length n (p ∷ o) e = grind (arith, strip-length n o)

none_below : (n : ℕ) (o : List ℕ) → holds n o ≡ false → AllByRecursion (λ y. y < suc n) o
    → AllByRecursion (λ y. y < n) o
none_below n [] e k = tt
none_below n (p ∷ o) e k =
    let apart = neither (nat_eq p n) (holds n o) e in
    (not_last n p apart.0 k.0, none_below n o apart.1 k.1)

-- no more than n numbers below n
few_below : (n : ℕ) (o : List ℕ) → AllDiffer o → AllByRecursion (λ y. y < n) o → length o ≤ n
few_below zero [] h k = omega arith
few_below zero (p ∷ o) h k = absurd (omega arith)
few_below (suc n) o h k =
    cases (holds n o) refl (few_below n (strip n o) (strip-distinct n o h) (strip-below n o h k)) (few_below n o h)
  where
    cases : (b : Bool) → holds n o ≡ b → length (strip n o) ≤ n → (AllByRecursion (λ y. y < n) o → length o ≤ n)
        → length o ≤ suc n
    cases true e le f = omega (arith, strip-length n o e)
    cases false e le f = omega (arith, f (none_below n o e k))

-- an order of more players holds the last one
last_held : (n : ℕ) (o : List ℕ) → IsOrder (suc n) o → holds n o ≡ true
last_held n o h = cases (holds n o) refl
  where
    cases : (b : Bool) → holds n o ≡ b → holds n o ≡ true
    cases true e = e
    cases false e =
        let le = few_below n o h.once (none_below n o e h.below) in
        let l = h.all in
        absurd (omega (arith, le, l))

-- ---- how often

times-append : (o : List ℕ) (xs ys : List (List ℕ)) → times o (xs ++ ys) ≡ times o xs + times o ys
times-append o [] ys = omega arith
times-append o (x ∷ xs) ys = omega (arith, times-append o xs ys)

times-map : (p y : ℕ) (o : List ℕ) (xs : List (List ℕ))
    → times (p ∷ o) (map (λ zs. y ∷ zs) xs) ≡ cond (nat_eq p y) (times o xs) 0
times-map p y o [] = grind arith
times-map p y o (x ∷ xs) = grind (arith, times-map p y o xs)

-- o comes of a list by putting n in just where it is the list with n, and then at one place
times-insertions : (n : ℕ) (x o : List ℕ) → holds n o ≡ true → AllByRecursion (λ y. nat_eq y n ≡ false) x
    → times o (insertions n x) ≡ one_if (is_same (strip n o) x)
times-insertions n x [] e others = absurd (false≢true e)
times-insertions n [] (p ∷ o) e others = only_either (nat_eq p n) (is_same o [])
  where
    only_either : (b c : Bool) → one_if (b && is_same o []) + 0 ≡ one_if (is_same (cond b o (p ∷ strip n o)) [])
    only_either true c = omega arith
    only_either false c = omega arith
times-insertions n (y ∷ ys) (p ∷ o) e others =
    cases (nat_eq p n) refl e (λ held. times-insertions n ys o held others.1)
  where
    apart : nat_eq n y ≡ false
    apart = nat_eq-turned y n others.0

    here : nat_eq p n ≡ true → nat_eq p y ≡ false
    here f = ap (λ (k : ℕ). nat_eq k y) (from_nat_eq p n f) ∙ apart

    take : (b : Bool) (k : ℕ) → b ≡ false → cond b k 0 ≡ 0
    take true k e = absurd (false≢true (sym e))
    take false k e = refl

    join : (b : Bool) (k : ℕ) (s : Bool) → k ≡ one_if s → cond b k 0 ≡ one_if (b && s)
    join true k s e = e
    join false k s e = refl

    cases : (b : Bool) → nat_eq p n ≡ b → (b || holds n o) ≡ true
        → (holds n o ≡ true → times o (insertions n ys) ≡ one_if (is_same (strip n o) ys))
        → one_if (b && is_same o (y ∷ ys)) + times (p ∷ o) (map (λ zs. y ∷ zs) (insertions n ys))
        ≡ one_if (is_same (cond b o (p ∷ strip n o)) (y ∷ ys))
    cases true f held ih =
        let none = times-map p y o (insertions n ys) ∙ take (nat_eq p y) (times o (insertions n ys)) (here f) in
        omega arith
    cases false f held ih =
        let some =
        times-map p y o (insertions n ys)
        ∙ join (nat_eq p y) (times o (insertions n ys)) (is_same (strip n o) ys) (ih held) in
        omega arith

times-flat_map : (n : ℕ) (o : List ℕ) (xs : List (List ℕ)) → holds n o ≡ true
    → AllByRecursion (AllByRecursion (λ y. nat_eq y n ≡ false)) xs
    → times o (flat_map (insertions n) xs) ≡ times (strip n o) xs
times-flat_map n o [] e others = refl
times-flat_map n o (x ∷ xs) e others =
    omega (
      arith,
      times-append o (insertions n x) (flat_map (insertions n) xs),
      times-insertions n x o e others.0,
      times-flat_map n o xs e others.1,
    )

-- ---- the orders

insertions-distinct : (n : ℕ) (x : List ℕ) → AllByRecursion (λ p. p < n) x → AllDiffer x
    → AllByRecursion AllDiffer (insertions n x)
insertions-distinct n [] below h = ((tt, tt), tt)
insertions-distinct n (y ∷ ys) below h = (
  (
    all_weaken (λ p. p < n) (λ p. nat_eq n p ≡ false) (y ∷ ys) (λ p lt. nat_eq-other n p (λ same. omega arith))
        below,
    h,
  ),
  All-map AllDiffer (λ zs. y ∷ zs) (insertions n ys)
      (both (insertions n ys)
      (All-insertions (λ z. nat_eq y z ≡ false) n ys
      (nat_eq-other y n (λ same. omega arith)) h.0)
      (insertions-distinct n ys below.1 h.1)),
)
  where
    both : (zss : List (List ℕ)) → AllByRecursion (AllByRecursion (λ z. nat_eq y z ≡ false)) zss
        → AllByRecursion AllDiffer zss → AllByRecursion (λ zs. AllDiffer (y ∷ zs)) zss
    both [] a b = tt
    both (zs ∷ zss) a b = ((a.0, b.0), both zss a.1 b.1)

join_orders : (n : ℕ) (xs : List (List ℕ)) → AllByRecursion (λ o. length o ≡ n) xs
    → AllByRecursion (AllByRecursion (λ p. p < n)) xs → AllByRecursion AllDiffer xs → AllByRecursion (IsOrder n) xs
join_orders n [] a b c = tt
join_orders n (x ∷ xs) a b c = (record { all = a.0; below = b.0; once = c.0 }, join_orders n xs a.1 b.1 c.1)

pub are_orders : (n : ℕ) → AllByRecursion (IsOrder n) (orders n)
are_orders zero = (record { all = refl; below = tt; once = tt }, tt)
are_orders (suc n) =
    let ih = are_orders n in
    join_orders (suc n) (orders (suc n))
    (All-flat_map (λ o. length o ≡ suc n) (insertions n) (orders n)
    (all_weaken (IsOrder n) (λ o. AllByRecursion (λ z. length z ≡ suc n) (insertions n o)) (orders n)
    (λ o h. all_weaken (λ z. length z ≡ suc (length o)) (λ z. length z ≡ suc n) (insertions n o)
    (λ z e. e ∙ ap suc h.all) (insertions-length n o)) ih)) (orders-below (suc n))
    (All-flat_map AllDiffer (insertions n) (orders n)
    (all_weaken (IsOrder n) (λ o. AllByRecursion AllDiffer (insertions n o)) (orders n)
    (λ o h. insertions-distinct n o h.below h.once) ih))

each_once : (n : ℕ) (o : List ℕ) → IsOrder n o → times o (orders n) ≡ 1
each_once zero [] h = refl
each_once zero (p ∷ o) h = absurd (omega arith)
each_once (suc n) o h =
    let held = last_held n o h in
    let all = h.all in
    times-flat_map n o (orders n) held
    (all_weaken (AllByRecursion (λ p. p < n)) (AllByRecursion (λ y. nat_eq y n ≡ false)) (orders n)
    (λ x below. all_weaken (λ p. p < n) (λ y. nat_eq y n ≡ false) x
    (λ p lt. nat_eq-other p n (λ same. omega arith)) below) (orders-below n))
    ∙ each_once n (strip n o)
    (record {
      all = omega (arith, strip-length n o held);
      below = strip-below n o h.once h.below;
      once = strip-distinct n o h.once;
    })

pub orders_all : (n : ℕ)
    → AllByRecursion (IsOrder n) (orders n) × ((o : List ℕ) → IsOrder n o → times o (orders n) ≡ 1)
orders_all n = (are_orders n, each_once n)

-- ---- there are n! orders

length-flat_map : (n : ℕ) (os : List (List ℕ)) → AllByRecursion (IsOrder n) os
    → length (flat_map (insertions n) os) ≡ suc n * length os
length-flat_map n [] h = omega arith
length-flat_map n (o ∷ os) h =
    omega (
      arith,
      length-append (insertions n o) (flat_map (insertions n) os),
      length-insertions n o,
      length-flat_map n os h.1,
    )

pub length-orders : (n : ℕ) → length (orders n) ≡ factorial n
length-orders zero = refl
length-orders (suc n) =
    length-flat_map n (orders n) (are_orders n) ∙ ap (λ (k : ℕ). suc n * k) (length-orders n)
