-- Linear inequalities in the shares and one more number: members of a family whose excesses are at most caps, and some
-- of whose excesses are at most that number.
use Rattle.std.proofs.Common.{◌≡◌, ℕ, zero, suc, ◌+◌, ◌-◌, ◌^◌, ◌<◌, ◌≤◌, Bool, true, false, cond, List, [], ◌∷◌}
use Rattle.std.proofs.Common.{◌++◌, length, map, ℤ, pos, negsuc, ◌+ℤ◌, ◌-ℤ◌, ◌*ℤ◌, refl, sym, ap, subst, ◌∙◌, inl}
use Rattle.std.proofs.Common.{inr, arith, if◌then◌else◌}
use Rattle.std.specs.List.{AllByRecursion, range_with_len}
use Rattle.std.proofs.lemmas.Bool.{false≢true}
use Rattle.std.proofs.lemmas.Int.{ints}
use Rattle.definitions.proofs.Alls.{all_join, all_left, all_right}
use Rattle.definitions.proofs.Cases.{same_or_later}
use Rattle.definitions.proofs.Members.{sum_below-front}
use Rattle.definitions.proofs.Members.{sum_below-same, sum_below-times}
use Rattle.definitions.proofs.Ring.{linear}
use Rattle.definitions.specs.Coalitions.{has_player, singleton, grand_coalition, proper_coalitions, sum_over}
use Rattle.definitions.specs.Sums.{sum_below}
use Rattle.definitions.specs.declared.Family.{Family}
use Rattle.definitions.specs.declared.Family.TheVariants.{Imputations, Preimputations}
use Rattle.theorems.proofs.Products.{products}
use Rattle.real_shares.specs.Numbers.{Numbers, IsOrderedGroup, AtMost, total_below}
use Rattle.real_shares.specs.Reals.{Real, AreReals}
use Rattle.real_shares.specs.Shares.{number_of, amount_of}
use Rattle.real_shares.proofs.Multiples.{through}
use Rattle.real_shares.proofs.RealNumbers.{are_ordered}
use Rattle.law_real_worths.specs.Games.{NumberGame, excess_in, IsEfficientIn, InFamilyIn}
use Rattle.law_real_worths.proofs.BothAreOne.{amount_alone}
use Rattle.law_real_worths.proofs.CoreFirst.{efficient_in}
use Rattle.law_real_worths.proofs.Rows.{Row, value, value_near, Meets}

-- ---- lists over a range

all_range : (Q : Row → Type 0) (f : ℕ → Row) (a k : ℕ) → ((s : ℕ) → a ≤ s → s < a + k → Q (f s))
    → AllByRecursion Q (map f (range_with_len a k))
all_range Q f a zero each = tt
all_range Q f a (suc k) each =
    (each a (omega arith) (omega arith), all_range Q f (a + 1) k (λ s low high. each s (omega arith) (omega arith)))

range_all : (Q : Row → Type 0) (f : ℕ → Row) (a k : ℕ) → AllByRecursion Q (map f (range_with_len a k)) → (s : ℕ)
    → a ≤ s → s < a + k → Q (f s)
range_all Q f a zero h s low high = absurd (omega arith)
range_all Q f a (suc k) h s low high = elim (same_or_later a s low) [
  | inl same ↦ subst (λ (i : ℕ). Q (f i)) same h.0
  | inr later ↦ range_all Q f (a + 1) k h.1 s later (omega arith)
]

-- a on unknown 0, e on the unknowns of the members of s
abbrev pub coefficients : ℤ → ℤ → ℕ → ℕ → ℤ
coefficients a e s zero = a
coefficients a e s (suc j) = if has_player s j then e else pos 0

abbrev pub row : ℤ → ℤ → ℕ → Real → Row
row a e s c = record { coefficient = coefficients a e s; constant = c }

module _ (N : Numbers Real) (R : AreReals N) (g : NumberGame Real) where
  abbrev L : IsOrderedGroup N
  L = are_ordered N R

  abbrev n : ℕ
  n = g.players

  -- ---- multiples

  over_near : (f : ℕ → Real) (m s k : ℕ)
      → (total_below N m (λ i. cond (has_player s i) (f i) N.zero)).near k ≡ sum_over m (λ i. (f i).near k) s
  over_near f zero s k = R.zero k
  over_near f (suc m) s k =
      R.plus (total_below N m (λ i. cond (has_player s i) (f i) N.zero)) (cond (has_player s m) (f m) N.zero) k
      ∙ ap (λ w. w +ℤ (cond (has_player s m) (f m) N.zero).near k) (over_near f m s k)
      ∙ ap (λ w. sum_over m (λ i. (f i).near k) s +ℤ w) (either (has_player s m))
    where
      either : (b : Bool) → (cond b (f m) N.zero).near k ≡ cond b ((f m).near k) (pos 0)
      either true = refl
      either false = R.zero k

  pub amount_near : (y : List Real) (s k : ℕ) → length y ≡ n
      → (amount_of N y s).near k ≡ sum_over n (λ i. (number_of N y i).near k) s
  amount_near y s k long =
      over_near (number_of N y) (length y) s k ∙ ap (λ m. sum_over m (λ i. (number_of N y i).near k) s) long

  pub excess_near : (y : List Real) (s k : ℕ)
      → (excess_in N g y s).near k ≡ (g.worth s).near k -ℤ (amount_of N y s).near k
  excess_near y s k =
      R.plus (g.worth s) (N.minus (amount_of N y s)) k
      ∙ omega (arith, linear, R.minus (amount_of N y s) k)

  pub less_near : (a b : Real) (k : ℕ) → (N.plus a (N.minus b)).near k ≡ a.near k -ℤ b.near k
  less_near a b k = R.plus a (N.minus b) k ∙ omega (arith, linear, R.minus b k)

  negated : (a : ℤ) → negsuc 0 *ℤ a ≡ pos 0 -ℤ a
  negated a = omega (arith, ints)

  -- ---- rows of which the last n unknowns are the shares

  -- the excess of s is at most c
  abbrev pub cap_row : ℕ → Real → Row
  cap_row s c = row (pos 0) (pos 1) s (N.plus c (N.minus (g.worth s)))

  -- it is at most unknown 0
  abbrev pub goal_row : ℕ → Row
  goal_row s = row (pos 1) (pos 1) s (N.minus (g.worth s))

  -- the members of s get at least its worth; at most
  abbrev pub least_row : ℕ → Row
  least_row s = row (pos 0) (pos 1) s (N.minus (g.worth s))

  abbrev pub most_row : ℕ → Row
  most_row s = row (pos 0) (negsuc 0) s (g.worth s)

  abbrev pub rational_rows : Family → List Row
  rational_rows Imputations = map (λ i. least_row (singleton i)) (range_with_len 0 n)
  rational_rows Preimputations = []

  abbrev pub rows : Family → (ℕ → Real) → (ℕ → Bool) → List Row
  rows family cap test =
      least_row (grand_coalition n)
      ∷ (most_row (grand_coalition n)
      ∷ (rational_rows family
      ++ (map (λ s. cap_row s (cap s)) (proper_coalitions n)
      ++ map (λ s. cond (test s) (goal_row s) (cap_row s (cap s))) (proper_coalitions n))))

  -- a member whose excesses are at most the caps
  abbrev pub IsWithin : Family → (ℕ → Real) → List Real → Type 0
  IsWithin family cap y =
      InFamilyIn N family g y
      × ((s : ℕ) → 1 ≤ s → s < 1 + (2 ^ n - 2) → AtMost N (excess_in N g y s) (cap s))

  -- the excesses of the coalitions that pass are at most t
  abbrev pub IsBound : (ℕ → Bool) → List Real → Real → Type 0
  IsBound test y t =
      (s : ℕ) → 1 ≤ s → s < 1 + (2 ^ n - 2) → test s ≡ true → AtMost N (excess_in N g y s) t

  module _ (z : ℕ → Real) (y : List Real) (long : length y ≡ n)
      (same : (i : ℕ) → i < n → z (suc i) ≡ number_of N y i) where
    row_near : (a e : ℤ) (s : ℕ) (c : Real) (k : ℕ)
        → (value N R (suc n) z (row a e s c)).near k
        ≡ c.near k +ℤ (a *ℤ (z 0).near k +ℤ e *ℤ (amount_of N y s).near k)
    row_near a e s c k =
        let x : ℕ → ℤ = λ i. (z i).near k in
        let v : ℕ → ℤ = λ i. (number_of N y i).near k in
        let members : sum_below n (λ i. coefficients a e s (suc i) *ℤ x (suc i)) ≡ e *ℤ sum_over n v s =
        sum_below-same n
        (λ i. coefficients a e s (suc i) *ℤ x (suc i)) (λ i. e *ℤ cond (has_player s i) (v i) (pos 0))
        (λ i lt. either (has_player s i) (x (suc i)) (v i) (ap (λ (w : Real). w.near k) (same i lt)))
        ∙ sum_below-times n (λ i. cond (has_player s i) (v i) (pos 0)) e in
        value_near N R (suc n) z (row a e s c) k
        ∙ ap (λ w. c.near k +ℤ w)
        (sum_below-front n (λ i. coefficients a e s i *ℤ x i)
        ∙ ap (λ w. a *ℤ x 0 +ℤ w) (members ∙ ap (◌*ℤ◌ e) (sym (amount_near y s k long))))
      where
        either : (b : Bool) (x v : ℤ) → x ≡ v → cond b e (pos 0) *ℤ x ≡ e *ℤ cond b v (pos 0)
        either true x v h = ap (◌*ℤ◌ e) h
        either false x v h = omega products

    -- ---- what the rows ask

    abbrev v : Row → Real
    v u = value N R (suc n) z u

    cap_to : (s : ℕ) (c : Real) → Meets N R (suc n) z (cap_row s c) → AtMost N (excess_in N g y s) c
    cap_to s c h =
        let b = R.at_most N.zero (v (cap_row s c)) h in
        R.decides (excess_in N g y s) c (
          b.0,
          λ k. omega (
            products,
            b.1 k,
            R.zero k,
            row_near (pos 0) (pos 1) s (N.plus c (N.minus (g.worth s))) k,
            less_near c (g.worth s) k,
            excess_near y s k,
          ),
        )

    cap_from : (s : ℕ) (c : Real) → AtMost N (excess_in N g y s) c → Meets N R (suc n) z (cap_row s c)
    cap_from s c h =
        let b = R.at_most (excess_in N g y s) c h in
        R.decides N.zero (v (cap_row s c)) (
          b.0,
          λ k. omega (
            products,
            b.1 k,
            R.zero k,
            row_near (pos 0) (pos 1) s (N.plus c (N.minus (g.worth s))) k,
            less_near c (g.worth s) k,
            excess_near y s k,
          ),
        )

    goal_to : (s : ℕ) → Meets N R (suc n) z (goal_row s) → AtMost N (excess_in N g y s) (z 0)
    goal_to s h =
        let b = R.at_most N.zero (v (goal_row s)) h in
        R.decides (excess_in N g y s) (z 0) (
          b.0,
          λ k. omega (
            products,
            b.1 k,
            R.zero k,
            row_near (pos 1) (pos 1) s (N.minus (g.worth s)) k,
            R.minus (g.worth s) k,
            excess_near y s k,
          ),
        )

    goal_from : (s : ℕ) → AtMost N (excess_in N g y s) (z 0) → Meets N R (suc n) z (goal_row s)
    goal_from s h =
        let b = R.at_most (excess_in N g y s) (z 0) h in
        R.decides N.zero (v (goal_row s)) (
          b.0,
          λ k. omega (
            products,
            b.1 k,
            R.zero k,
            row_near (pos 1) (pos 1) s (N.minus (g.worth s)) k,
            R.minus (g.worth s) k,
            excess_near y s k,
          ),
        )

    least_to : (s : ℕ) → Meets N R (suc n) z (least_row s) → AtMost N (g.worth s) (amount_of N y s)
    least_to s h =
        let b = R.at_most N.zero (v (least_row s)) h in
        R.decides (g.worth s) (amount_of N y s) (
          b.0,
          λ k. omega (
            products,
            b.1 k,
            R.zero k,
            row_near (pos 0) (pos 1) s (N.minus (g.worth s)) k,
            R.minus (g.worth s) k,
          ),
        )

    least_from : (s : ℕ) → AtMost N (g.worth s) (amount_of N y s) → Meets N R (suc n) z (least_row s)
    least_from s h =
        let b = R.at_most (g.worth s) (amount_of N y s) h in
        R.decides N.zero (v (least_row s)) (
          b.0,
          λ k. omega (
            products,
            b.1 k,
            R.zero k,
            row_near (pos 0) (pos 1) s (N.minus (g.worth s)) k,
            R.minus (g.worth s) k,
          ),
        )

    most_to : (s : ℕ) → Meets N R (suc n) z (most_row s) → AtMost N (amount_of N y s) (g.worth s)
    most_to s h =
        let b = R.at_most N.zero (v (most_row s)) h in
        R.decides (amount_of N y s) (g.worth s) (
          b.0,
          λ k. omega (
            products,
            b.1 k,
            R.zero k,
            row_near (pos 0) (negsuc 0) s (g.worth s) k,
            negated ((amount_of N y s).near k),
          ),
        )

    most_from : (s : ℕ) → AtMost N (amount_of N y s) (g.worth s) → Meets N R (suc n) z (most_row s)
    most_from s h =
        let b = R.at_most (amount_of N y s) (g.worth s) h in
        R.decides N.zero (v (most_row s)) (
          b.0,
          λ k. omega (
            products,
            b.1 k,
            R.zero k,
            row_near (pos 0) (negsuc 0) s (g.worth s) k,
            negated ((amount_of N y s).near k),
          ),
        )

    -- ---- all rows

    rational_to : (family : Family) → AllByRecursion (Meets N R (suc n) z) (rational_rows family) → IsEfficientIn N g y
        → InFamilyIn N family g y
    rational_to Preimputations h e = (long, e)
    rational_to Imputations h e = (
      long,
      e,
      λ i lt. through N L
          (least_to (singleton i) (range_all (Meets N R (suc n) z) (λ i. least_row (singleton i)) 0 n h i
          (omega arith) (omega (arith, lt)))) (amount_alone N L g y i long lt).0,
    )

    rational_from : (family : Family) → InFamilyIn N family g y
        → AllByRecursion (Meets N R (suc n) z) (rational_rows family)
    rational_from Preimputations h = tt
    rational_from Imputations h =
        all_range (Meets N R (suc n) z) (λ i. least_row (singleton i)) 0 n
        (λ i low lt. let less : i < n = omega (arith, lt) in
        least_from (singleton i) (through N L (h.2 i less) (amount_alone N L g y i long less).1))

    module _ (family : Family) (cap : ℕ → Real) (test : ℕ → Bool) where
      either_to : (s : ℕ) (b : Bool) → Meets N R (suc n) z (cond b (goal_row s) (cap_row s (cap s))) → b ≡ true
          → AtMost N (excess_in N g y s) (z 0)
      either_to s true h e = goal_to s h
      either_to s false h e = absurd (false≢true e)

      either_from : (s : ℕ) (b : Bool) → AtMost N (excess_in N g y s) (cap s)
          → (b ≡ true → AtMost N (excess_in N g y s) (z 0))
          → Meets N R (suc n) z (cond b (goal_row s) (cap_row s (cap s)))
      either_from s true h k = goal_from s (k refl)
      either_from s false h k = cap_from s (cap s) h

      pub from_rows : AllByRecursion (Meets N R (suc n) z) (rows family cap test)
          → IsWithin family cap y × IsBound test y (z 0)
      from_rows h =
          let all = grand_coalition n in
          let own = rational_rows family in
          let caps = map (λ s. cap_row s (cap s)) (proper_coalitions n) in
          let goals = map (λ s. cond (test s) (goal_row s) (cap_row s (cap s))) (proper_coalitions n) in
          let M = Meets N R (suc n) z in
          let more = all_right M own (caps ++ goals) h.1.1 in (
            (
              rational_to family (all_left M own (caps ++ goals) h.1.1) (most_to all h.1.0, least_to all h.0),
              λ s one past. cap_to s (cap s)
                  (range_all M (λ s. cap_row s (cap s)) 1 (2 ^ n - 2) (all_left M caps goals more) s one past),
            ),
            λ s one past passes. either_to s (test s)
                (range_all M (λ s. cond (test s) (goal_row s) (cap_row s (cap s))) 1 (2 ^ n - 2)
                (all_right M caps goals more) s one past) passes,
          )

      pub to_rows : IsWithin family cap y → IsBound test y (z 0)
          → AllByRecursion (Meets N R (suc n) z) (rows family cap test)
      to_rows h k =
          let all = grand_coalition n in
          let own = rational_rows family in
          let caps = map (λ s. cap_row s (cap s)) (proper_coalitions n) in
          let goals = map (λ s. cond (test s) (goal_row s) (cap_row s (cap s))) (proper_coalitions n) in
          let M = Meets N R (suc n) z in
          let efficient = efficient_in N L g family y h.0 in (
            least_from all efficient.1,
            (
              most_from all efficient.0,
              all_join M own (caps ++ goals) (rational_from family h.0)
                  (all_join M caps goals
                  (all_range M (λ s. cap_row s (cap s)) 1 (2 ^ n - 2)
                  (λ s one past. cap_from s (cap s) (h.1 s one past)))
                  (all_range M (λ s. cond (test s) (goal_row s) (cap_row s (cap s))) 1 (2 ^ n - 2)
                  (λ s one past. either_from s (test s) (h.1 s one past) (k s one past)))),
            ),
          )
