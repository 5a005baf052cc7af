-- The coalitions without a player, counted by size and weight.
use Rattle.std.proofs.Common.{◌≡◌, ◌≢◌, ℕ, zero, suc, ◌+◌, ◌-◌, ◌^◌, ◌<◌, ◌≤◌}
use Rattle.std.proofs.Common.{Bool, true, false, cond, ◌&&◌}
use Rattle.std.proofs.Common.{nat_eq, nat_le, nat_lt, ℤ, pos, ◌+ℤ◌, ◌*ℤ◌, refl, sym, ap}
use Rattle.std.proofs.Common.{ap₂, ◌∙◌, arith}
use Rattle.std.proofs.lemmas.Bool.Decides.{nat_tests}
use Rattle.definitions.proofs.Ring.{linear}
use Rattle.definitions.proofs.Members.{has_player-empty, sum_below-same, sum_below-add, sum_below-times}
use Rattle.definitions.proofs.Parts.{has_player-more_other}
use Rattle.definitions.specs.Sums.{sum_below}
use Rattle.definitions.specs.Coalitions.{has_player, sum_over}
use Rattle.definitions.proofs.Halves.{has_player-last, has_player-upper, has_player-lower, size_below}
use Rattle.definitions.proofs.Halves.{size_below-zero, size_below-without, size_below-with, sum_below-halves}
use Rattle.voting.specs.Counts.{ways, row_total}

-- ---- what is counted

-- 1 where a test passes, and 0 elsewhere
abbrev pub mark : Bool → ℤ
mark b = cond b (pos 1) (pos 0)

-- the weights of the members below n, added
abbrev pub weigh : (ℕ → ℕ) → ℕ → ℕ → ℕ
weigh weight zero s = 0
weigh weight (suc n) s = weigh weight n s + cond (has_player s n) (weight n) 0

-- whether s is without player i, and has that size and weight
abbrev pub counted : (ℕ → ℕ) → ℕ → ℕ → ℕ → ℕ → ℕ → ℤ
counted weight i n k w s =
    cond (has_player s i) (pos 0) (mark (nat_eq k (size_below n s) && nat_eq w (weigh weight n s)))

pub pos-weigh : (weight : ℕ → ℕ) (n s : ℕ) → pos (weigh weight n s) ≡ sum_over n (λ i. pos (weight i)) s
pos-weigh weight zero s = refl
pos-weigh weight (suc n) s =
    let ih = pos-weigh weight n s in
    let with_last : (b : Bool)
    → pos (weigh weight n s + cond b (weight n) 0)
    ≡ sum_over n (λ i. pos (weight i)) s +ℤ cond b (pos (weight n)) (pos 0) =
    elim [ true ↦ omega (arith, linear) | false ↦ omega (arith, linear) ] in
    with_last (has_player s n)

weigh-upper : (weight : ℕ → ℕ) (n s m : ℕ) → m ≤ n → weigh weight m (2 ^ n + s) ≡ weigh weight m s
weigh-upper weight n s zero h = refl
weigh-upper weight n s (suc m) h =
    let ih = weigh-upper weight n s m (omega arith) in
    let here = has_player-lower n s m (omega arith) in
    rw (here, ih) refl

weigh-without : (weight : ℕ → ℕ) (n s : ℕ) → s < 2 ^ n → weigh weight (suc n) s ≡ weigh weight n s
weigh-without weight n s lt = rw (has_player-last n s lt) (omega arith)

weigh-with : (weight : ℕ → ℕ) (n s : ℕ) → s < 2 ^ n → weigh weight (suc n) (2 ^ n + s) ≡ weigh weight n s + weight n
weigh-with weight n s lt = rw (has_player-upper n s lt, weigh-upper weight n s n (omega arith)) refl

-- ---- one player more

one_more_size : (k a : ℕ) → nat_eq k (suc a) ≡ (nat_le 1 k && nat_eq (k - 1) a)
one_more_size k a = grind (arith, nat_tests)

one_more_weight : (w b c : ℕ) → nat_eq w (b + c) ≡ (nat_le c w && nat_eq (w - c) b)
one_more_weight w b c = grind (arith, nat_tests)

four : (p q r s : Bool) → mark ((p && q) && (r && s)) ≡ cond (p && r) (mark (q && s)) (pos 0)
four = elim [
  | true ↦ elim [
    | true ↦ elim [ true ↦ λ s. refl | false ↦ λ s. refl ]
    | false ↦ elim [ true ↦ λ s. refl | false ↦ λ s. refl ]
  ]
  | false ↦ λ q r s. refl
]

mark-with_player : (k w a b c : ℕ)
    → mark (nat_eq k (suc a) && nat_eq w (b + c))
    ≡ cond (nat_le 1 k && nat_le c w) (mark (nat_eq (k - 1) a && nat_eq (w - c) b)) (pos 0)
mark-with_player k w a b c =
    rw (one_more_size k a, one_more_weight w b c)
    (four (nat_le 1 k) (nat_eq (k - 1) a) (nat_le c w) (nat_eq (w - c) b))

counted-without : (weight : ℕ → ℕ) (i j k w s : ℕ) → s < 2 ^ j
    → counted weight i (suc j) k w s ≡ counted weight i j k w s
counted-without weight i j k w s lt = rw (size_below-without j s lt, weigh-without weight j s lt) refl

counted-with : (weight : ℕ → ℕ) (i j k w s : ℕ) → s < 2 ^ j → i ≢ j
    → counted weight i (suc j) k w (2 ^ j + s)
    ≡ cond (nat_le 1 k && nat_le (weight j) w) (counted weight i j (k - 1) (w - weight j) s) (pos 0)
counted-with weight i j k w s lt ne =
    let same : has_player (2 ^ j + s) i ≡ has_player s i =
    ap (λ (m : ℕ). has_player m i) (swap (2 ^ j) s) ∙ has_player-more_other s j i (has_player-last j s lt) ne in
    rw (same, size_below-with j s lt, weigh-with weight j s lt)
    (grind (arith, mark-with_player k w (size_below j s) (weigh weight j s) (weight j)))
  where
    swap : (a b : ℕ) → a + b ≡ b + a
    swap a b = omega arith

counted-self : (weight : ℕ → ℕ) (i j k w s : ℕ) → j ≡ i → s < 2 ^ j
    → counted weight i (suc j) k w (2 ^ j + s) ≡ pos 0
counted-self weight i j k w s e lt =
    let held : has_player (2 ^ j + s) i ≡ true = ap (has_player (2 ^ j + s)) (sym e) ∙ has_player-upper j s lt in
    rw held refl

more_ways : (t : Bool) (m n : ℕ) (y z u : ℤ) → pos m ≡ y → pos n ≡ z → u ≡ cond t z (pos 0)
    → pos (m + cond t n 0) ≡ y +ℤ u
more_ways true m n y z u e f h = omega (arith, linear)
more_ways false m n y z u e f h = omega (arith, linear)

sum_below-cond : (n : ℕ) (t : Bool) (f : ℕ → ℤ)
    → sum_below n (λ s. cond t (f s) (pos 0)) ≡ cond t (sum_below n f) (pos 0)
sum_below-cond n true f = refl
sum_below-cond n false f = zeros n
  where
    zeros : (n : ℕ) → sum_below n (λ s. pos 0) ≡ pos 0
    zeros zero = refl
    zeros (suc n) = omega (arith, linear, zeros n)

-- the count is the sum of the marks
pub ways-count : (weight : ℕ → ℕ) (i j k w : ℕ)
    → pos (ways weight i j k w) ≡ sum_below (2 ^ j) (counted weight i j k w)
unfolding ways
ways-count weight i zero k w = rw (has_player-empty i, size_below-zero 0) (mark_of_test (nat_eq k 0 && nat_eq w 0))
  where
    mark_of_test : (b : Bool) → pos (cond b 1 0) ≡ pos 0 +ℤ mark b
    mark_of_test true = refl
    mark_of_test false = refl
ways-count weight i (suc j) k w =
    one_player_more (nat_eq j i) refl (ways-count weight i j k w) (ways-count weight i j (k - 1) (w - weight j))
  where
    halves : sum_below (2 ^ suc j) (counted weight i (suc j) k w)
        ≡ sum_below (2 ^ j) (λ s. counted weight i (suc j) k w s +ℤ counted weight i (suc j) k w (2 ^ j + s))
    halves = sum_below-halves j (counted weight i (suc j) k w)

    is_last : nat_eq j i ≡ true → j ≡ i
    is_last e = grind (arith, nat_tests)

    is_other : nat_eq j i ≡ false → i ≢ j
    is_other e = grind (arith, nat_tests)

    self : (s : ℕ) → j ≡ i → s < 2 ^ j
        → counted weight i (suc j) k w s +ℤ counted weight i (suc j) k w (2 ^ j + s) ≡ counted weight i j k w s
    self s e lt =
        let a = counted-without weight i j k w s lt in
        let b = counted-self weight i j k w s e lt in
        omega (arith, linear)

    one_player_more : (b : Bool) → nat_eq j i ≡ b
        → pos (ways weight i j k w) ≡ sum_below (2 ^ j) (counted weight i j k w)
        → pos (ways weight i j (k - 1) (w - weight j))
        ≡ sum_below (2 ^ j) (counted weight i j (k - 1) (w - weight j))
        → pos
        (cond b (ways weight i j k w)
        (ways weight i j k w
        + cond (nat_le 1 k && nat_le (weight j) w) (ways weight i j (k - 1) (w - weight j)) 0))
        ≡ sum_below (2 ^ suc j) (counted weight i (suc j) k w)
    one_player_more true e ih before =
        ih
        ∙ sym
        (halves
        ∙ sum_below-same (2 ^ j)
        (λ s. counted weight i (suc j) k w s +ℤ counted weight i (suc j) k w (2 ^ j + s))
        (counted weight i j k w) (λ s lt. self s (is_last e) lt))
    one_player_more false e ih before =
        let t = nat_le 1 k && nat_le (weight j) w in
        let old = counted weight i j k w in
        let fewer = counted weight i j (k - 1) (w - weight j) in
        let parts =
        sum_below-same (2 ^ j) (λ s. counted weight i (suc j) k w s +ℤ counted weight i (suc j) k w (2 ^ j + s))
        (λ s. old s +ℤ cond t (fewer s) (pos 0))
        (λ s lt. ap₂ (λ (x y : ℤ). x +ℤ y) (counted-without weight i j k w s lt)
        (counted-with weight i j k w s lt (is_other e))) in
        let added = sum_below-add (2 ^ j) old (λ s. cond t (fewer s) (pos 0)) in
        let moved = sum_below-cond (2 ^ j) t fewer in
        more_ways t _ _ _ _ _ ih before moved ∙ sym (halves ∙ parts ∙ added)

-- ---- weights in a range

abbrev pub in_range : ℕ → ℕ → ℕ → Bool
in_range low high b = nat_le low b && nat_lt b high

-- whether s is without player i, has that size, and a weight in the range
abbrev pub in_row : (ℕ → ℕ) → ℕ → ℕ → ℕ → ℕ → ℕ → ℕ → ℤ
in_row weight i n k low high s =
    cond (has_player s i) (pos 0) (mark (nat_eq k (size_below n s) && in_range low high (weigh weight n s)))

range_more : (low h b : ℕ) (e : Bool)
    → mark (e && in_range low (suc h) b)
    ≡ mark (e && in_range low h b) +ℤ cond (nat_le low h) (mark (e && nat_eq h b)) (pos 0)
range_more low h b false = grind arith
range_more low h b true =
    grind (arith, nat_tests)

-- the counts of a row are those of the coalitions
pub row-count : (weight : ℕ → ℕ) (i n k low high : ℕ)
    → row_total weight i n k low high ≡ sum_below (2 ^ n) (in_row weight i n k low high)
row-count weight i n k low zero = sym (zeros (2 ^ n))
  where
    nothing : (b e p : Bool) (c : ℕ) → cond b (pos 0) (mark (e && (p && nat_lt c 0))) ≡ pos 0
    nothing true e p c = refl
    nothing false e p c = rw (not_below_zero c) (mark_of_neither e p)
      where
        not_below_zero : (c : ℕ) → nat_lt c 0 ≡ false
        not_below_zero c = grind (arith, nat_tests)

        mark_of_neither : (e p : Bool) → mark (e && (p && false)) ≡ pos 0
        mark_of_neither = elim [ true ↦ elim [ true ↦ refl | false ↦ refl ] | false ↦ λ p. refl ]

    zeros : (m : ℕ) → sum_below m (in_row weight i n k low zero) ≡ pos 0
    zeros zero = refl
    zeros (suc m) =
        omega (
          arith,
          linear,
          zeros m,
          nothing (has_player m i) (nat_eq k (size_below n m)) (nat_le low (weigh weight n m)) (weigh weight n m),
        )
row-count weight i n k low (suc high) =
    ap (λ (z : ℤ). z +ℤ cond (nat_le low high) (pos (ways weight i n k high)) (pos 0))
    (row-count weight i n k low high)
    ∙ ap (λ (z : ℤ). sum_below (2 ^ n) (in_row weight i n k low high) +ℤ cond (nat_le low high) z (pos 0))
    (ways-count weight i n k high)
    ∙ ap (λ (z : ℤ). sum_below (2 ^ n) (in_row weight i n k low high) +ℤ z)
    (sym (sum_below-cond (2 ^ n) (nat_le low high) (counted weight i n k high)))
    ∙ sym
    (sum_below-add (2 ^ n) (in_row weight i n k low high)
    (λ s. cond (nat_le low high) (counted weight i n k high s) (pos 0)))
    ∙ sum_below-same (2 ^ n)
    (λ s. in_row weight i n k low high s +ℤ cond (nat_le low high) (counted weight i n k high s) (pos 0))
    (in_row weight i n k low (suc high)) (λ s lt. in_row-more s)
  where
    cond_of_sum : (b t : Bool) (x y z : ℤ) → z ≡ x +ℤ cond t y (pos 0)
        → cond b (pos 0) x +ℤ cond t (cond b (pos 0) y) (pos 0) ≡ cond b (pos 0) z
    cond_of_sum b t x y z e = grind arith

    in_row-more : (s : ℕ)
        → in_row weight i n k low high s +ℤ cond (nat_le low high) (counted weight i n k high s) (pos 0)
        ≡ in_row weight i n k low (suc high) s
    in_row-more s =
        cond_of_sum (has_player s i) (nat_le low high) _ _ _
        (range_more low high (weigh weight n s) (nat_eq k (size_below n s)))

-- ---- the sizes, each with a number

-- a number for the size of s, where that is below m, s is without player i and its weight is in the range
abbrev pub at_size : (ℕ → ℤ) → (ℕ → ℕ) → ℕ → ℕ → ℕ → ℕ → ℕ → ℕ → ℤ
at_size c weight i n low high m s =
    cond (has_player s i) (pos 0)
    (cond (nat_lt (size_below n s) m) (c (size_below n s) *ℤ mark (in_range low high (weigh weight n s))) (pos 0))

size_more : (c : ℕ → ℤ) (m a : ℕ) (r : Bool)
    → cond (nat_lt a (suc m)) (c a *ℤ mark r) (pos 0)
    ≡ cond (nat_lt a m) (c a *ℤ mark r) (pos 0) +ℤ c m *ℤ mark (nat_eq m a && r)
size_more c m a r = grind (arith, nat_tests, linear)

pub sizes-count : (c : ℕ → ℤ) (weight : ℕ → ℕ) (i n low high m : ℕ)
    → sum_below m (λ k. c k *ℤ row_total weight i n k low high)
    ≡ sum_below (2 ^ n) (at_size c weight i n low high m)
sizes-count c weight i n low high zero = sym (zeros (2 ^ n))
  where
    nothing : (b : Bool) (a : ℕ) (z : ℤ) → cond b (pos 0) (cond (nat_lt a 0) z (pos 0)) ≡ pos 0
    nothing true a z = refl
    nothing false a z = rw (not_below_zero a) refl
      where
        not_below_zero : (c : ℕ) → nat_lt c 0 ≡ false
        not_below_zero c = grind (arith, nat_tests)

    zeros : (m : ℕ) → sum_below m (at_size c weight i n low high zero) ≡ pos 0
    zeros zero = refl
    zeros (suc m) =
        omega (
          arith,
          linear,
          zeros m,
          nothing (has_player m i) (size_below n m)
              (c (size_below n m) *ℤ mark (in_range low high (weigh weight n m))),
        )
sizes-count c weight i n low high (suc m) =
    ap (λ (z : ℤ). z +ℤ c m *ℤ row_total weight i n m low high) (sizes-count c weight i n low high m)
    ∙ ap (λ (z : ℤ). sum_below (2 ^ n) (at_size c weight i n low high m) +ℤ c m *ℤ z)
    (row-count weight i n m low high)
    ∙ ap (λ (z : ℤ). sum_below (2 ^ n) (at_size c weight i n low high m) +ℤ z)
    (sym (sum_below-times (2 ^ n) (in_row weight i n m low high) (c m)))
    ∙ sym (sum_below-add (2 ^ n) (at_size c weight i n low high m) (λ s. c m *ℤ in_row weight i n m low high s))
    ∙ sum_below-same (2 ^ n) (λ s. at_size c weight i n low high m s +ℤ c m *ℤ in_row weight i n m low high s)
    (at_size c weight i n low high (suc m)) (λ s lt. at_size-more s)
  where
    cond_of_product : (b : Bool) (x y z w : ℤ) → z ≡ x +ℤ w *ℤ y
        → cond b (pos 0) x +ℤ w *ℤ cond b (pos 0) y ≡ cond b (pos 0) z
    cond_of_product b x y z w e = grind (arith, linear)

    at_size-more : (s : ℕ)
        → at_size c weight i n low high m s +ℤ c m *ℤ in_row weight i n m low high s
        ≡ at_size c weight i n low high (suc m) s
    at_size-more s =
        cond_of_product (has_player s i) _ _ _ (c m)
        (size_more c m (size_below n s) (in_range low high (weigh weight n s)))
