-- The value that is found row by row is that of an optimal matching.
--
-- `optimal_value` goes by recursion over the rows, from the last one, without a table. Optimal matchings have one value
-- (`same_optimal` in Games.antt), so what the table holds is the worth.
use Rattle.std.proofs.Common.{◌≡◌, ◌⊎◌, ℕ, zero, suc, ◌+◌, ◌*◌, ◌<◌, ◌≤◌, Bool}
use Rattle.std.proofs.Common.{true, false, cond, List}
use Rattle.std.proofs.Common.{◌∷◌, refl, sym, ap, ◌∙◌, inl, inr, arith, if◌then◌else◌}
use Rattle.std.proofs.lemmas.Bool.{false≢true}
use Rattle.definitions.proofs.Cases.{below_or_above, true_or_false, not_true}
use Rattle.definitions.specs.Classes.{Matrix, removed, IsMatching, matching_value, entry}
use Rattle.assignment_games.specs.Values.{IsOptimalAmong, greatest_below, optimal_value}
use Rattle.assignment_games.proofs.Matchings.{removed-in, removed-out, matching-more, no_rows, PairOf, pair_or_none}

-- ---- the value row by row

greatest_below-above : (n : ℕ) (f : ℕ → ℕ) (j : ℕ) → j < n → f j ≤ greatest_below n f
greatest_below-above zero f j lt = absurd (omega arith)
greatest_below-above (suc n) f j lt = elim (below_or_above j n) [
  | inl less ↦ (let ih = greatest_below-above n f j less in omega (arith, ih))
  | inr ge ↦ (let e : j ≡ n = omega arith in let f_same = ap f e in omega (arith, f_same))
]

greatest_below-some : (n : ℕ) (f : ℕ → ℕ)
    → (greatest_below n f ≡ 0) ⊎ ((j : ℕ) × (j < n) × (greatest_below n f ≡ f j))
greatest_below-some zero f = inl refl
greatest_below-some (suc n) f = elim (below_or_above (greatest_below n f) (f n)) [
  | inl less ↦ inr (n, omega arith, omega arith)
  | inr ge ↦ elim (greatest_below-some n f) [
    | inl none ↦ inl (omega arith)
    | inr some ↦ inr (some.0, (let a = some.1 in omega (arith, a)), (let a = some.2 in omega (arith, a)))
  ]
]

-- the best value with row i in column j, 0 where the column isn't a member's
abbrev pair_best : Matrix → ℕ → ℕ → ℕ → (ℕ → Bool) → ℕ → ℕ
pair_best matrix rows columns i w j =
    if w (rows + j) then entry matrix i j + optimal_value matrix rows columns i (removed (removed w i) (rows + j))
    else 0

-- no row from i on is a member
abbrev pub Below : ℕ → ℕ → (ℕ → Bool) → Type 0
Below rows i w = (b : ℕ) → b < rows → w b ≡ true → b < i

below-removed : (rows i : ℕ) (w : ℕ → Bool) → Below rows (suc i) w → Below rows i (removed w i)
below-removed rows i w h b lt e =
    (let r = removed-out w i b e in let a = h b lt r.0 in let ne = r.1 in omega (arith, a, ne))

-- the columns of members are among the columns
abbrev pub Inside : ℕ → ℕ → (ℕ → Bool) → Type 0
Inside rows columns w = (j : ℕ) → w (rows + j) ≡ true → j < columns

inside-removed : (rows columns k : ℕ) (w : ℕ → Bool) → Inside rows columns w → Inside rows columns (removed w k)
inside-removed rows columns k w h j e = h j (removed-out w k (rows + j) e).0

below-again : (rows i k : ℕ) (w : ℕ → Bool) → Below rows i w → Below rows i (removed w k)
below-again rows i k w h b lt e = h b lt (removed-out w k b e).0

nobody : (matrix : Matrix) (rows : ℕ) (w : ℕ → Bool) → Below rows 0 w → IsOptimalAmong matrix rows w 0
nobody matrix rows w none =
    no_rows matrix rows w (λ b lt. not_true (w b) (λ e. let a = none b lt e in omega (arith, a)))

-- one row more
abbrev pub IsBestPart : Matrix → ℕ → ℕ → ℕ → (ℕ → Bool) → Type 0
IsBestPart matrix rows columns i w = IsOptimalAmong matrix rows w (optimal_value matrix rows columns i w)

with_pair : (matrix : Matrix) (rows columns i : ℕ) (w : ℕ → Bool) (ps : List (ℕ × ℕ)) → Inside rows columns w
    → ((j : ℕ) → w (rows + j) ≡ true → IsBestPart matrix rows columns i (removed (removed w i) (rows + j)))
    → w i ≡ true → PairOf matrix rows w i (matching_value matrix ps)
    → matching_value matrix ps ≤ optimal_value matrix rows columns (suc i) w
with_pair matrix rows columns i w ps inside each member_i pair =
    let above =
    greatest_below-above columns (pair_best matrix rows columns i w) pair.column
    (inside pair.column pair.member) in
    let here : pair_best matrix rows columns i w pair.column
    ≡ entry matrix i pair.column
    + optimal_value matrix rows columns i (removed (removed w i) (rows + pair.column)) = rw pair.member in
    let rest = (each pair.column pair.member).greatest pair.others pair.matching in
    let adds = pair.adds in
    rw member_i (omega (arith, above, here, rest, adds))

reached_member : (matrix : Matrix) (rows columns i : ℕ) (w : ℕ → Bool) → i < rows
    → IsBestPart matrix rows columns i (removed w i)
    → ((j : ℕ) → w (rows + j) ≡ true → IsBestPart matrix rows columns i (removed (removed w i) (rows + j)))
    → w i ≡ true
    → (ps : List (ℕ × ℕ)) × IsMatching rows w ps
    × (optimal_value matrix rows columns (suc i) w ≡ matching_value matrix ps)
reached_member matrix rows columns i w lt alone each member_i =
    elim
    (below_or_above (optimal_value matrix rows columns i (removed w i))
    (greatest_below columns (pair_best matrix rows columns i w))) [
      | inl less ↦ elim (greatest_below-some columns (pair_best matrix rows columns i w)) [
        | inl none ↦ absurd (omega (arith, less, none))
        | inr some ↦ elim (true_or_false (w (rows + some.0))) [
          | inl member ↦ paired some.0 less some.2 member
          | inr outside ↦ absurd
              (let z : pair_best matrix rows columns i w some.0 ≡ 0 = rw outside in
              let e = some.2 in omega (arith, less, e, z))
        ]
      ]
      | inr ge ↦ (
        alone.reached.0,
        matching-more rows (removed w i) w alone.reached.0 (λ j e. (removed-out w i j e).0) alone.reached.1,
        rw member_i (let a = alone.reached.2 in omega (arith, a, ge)),
      )
    ]
  where
    paired : (j : ℕ)
        → optimal_value matrix rows columns i (removed w i)
        < greatest_below columns (pair_best matrix rows columns i w)
        → greatest_below columns (pair_best matrix rows columns i w) ≡ pair_best matrix rows columns i w j
        → w (rows + j) ≡ true
        → (ps : List (ℕ × ℕ)) × IsMatching rows w ps
        × (optimal_value matrix rows columns (suc i) w ≡ matching_value matrix ps)
    paired j less e member =
        let best = each j member in
        let here : pair_best matrix rows columns i w j
        ≡ entry matrix i j + optimal_value matrix rows columns i (removed (removed w i) (rows + j)) =
        rw member in (
          (i, j) ∷ best.reached.0,
          (lt, member_i, member, best.reached.1),
          rw member_i (let a = best.reached.2 in omega (arith, less, e, here, a)),
        )

one_more : (matrix : Matrix) (rows columns i : ℕ) (w : ℕ → Bool) → i < rows → Inside rows columns w
    → IsBestPart matrix rows columns i (removed w i)
    → ((j : ℕ) → w (rows + j) ≡ true → IsBestPart matrix rows columns i (removed (removed w i) (rows + j)))
    → IsBestPart matrix rows columns (suc i) w
one_more matrix rows columns i w lt inside alone each = elim (true_or_false (w i)) [
  | inl member_i ↦ record {
    reached = reached_member matrix rows columns i w lt alone each member_i;
    greatest = λ ps m. elim (pair_or_none matrix rows w i ps lt m) [
      | inl none ↦ (let a = alone.greatest ps none in omega (arith, a))
      | inr pair ↦ with_pair matrix rows columns i w ps inside each member_i pair
    ];
  }
  | inr out ↦ record {
    reached = (
      alone.reached.0,
      matching-more rows (removed w i) w alone.reached.0 (λ j e. (removed-out w i j e).0) alone.reached.1,
      rw out (let a = alone.reached.2 in omega (arith, a)),
    );
    greatest = λ ps m.
        (let a =
        alone.greatest ps
        (matching-more rows w (removed w i) ps
        (λ j e. removed-in w i j (λ s. false≢true (sym out ∙ ap w (sym s) ∙ e)) e) m) in
        omega (arith, a));
  }
]

pub optimal_value-is : (matrix : Matrix) (rows columns i : ℕ) (w : ℕ → Bool) → i ≤ rows → Inside rows columns w
    → Below rows i w → IsBestPart matrix rows columns i w
optimal_value-is matrix rows columns zero w le inside below = nobody matrix rows w below
optimal_value-is matrix rows columns (suc i) w le inside below =
    one_more matrix rows columns i w (omega arith) inside
    (optimal_value-is matrix rows columns i (removed w i) (omega arith) (inside-removed rows columns i w inside)
    (below-removed rows i w below))
    (λ j member. optimal_value-is matrix rows columns i (removed (removed w i) (rows + j)) (omega arith)
    (inside-removed rows columns (rows + j) (removed w i) (inside-removed rows columns i w inside))
    (below-again rows i (rows + j) (removed w i) (below-removed rows i w below)))

-- optimal matchings have one value
pub same_optimal : (matrix : Matrix) (rows : ℕ) (w : ℕ → Bool) (a b : ℕ) → IsOptimalAmong matrix rows w a
    → IsOptimalAmong matrix rows w b → a ≡ b
same_optimal matrix rows w a b g h =
    let x = g.greatest h.reached.0 h.reached.1 in
    let y = h.greatest g.reached.0 g.reached.1 in
    let p = g.reached.2 in
    let q = h.reached.2 in
    omega (arith, x, y, p, q)

-- ---- how large values are

greatest_below-few : (n : ℕ) (f : ℕ → ℕ) (most : ℕ) → ((j : ℕ) → f j ≤ most) → greatest_below n f ≤ most
greatest_below-few zero f most h = omega arith
greatest_below-few (suc n) f most h =
    let ih = greatest_below-few n f most h in
    let last = h n in
    omega (arith, ih, last)

if-few : (b : Bool) (k most : ℕ) → k ≤ most → cond b k 0 ≤ most
if-few true k most h = h
if-few false k most h = omega arith

-- each row adds one entry at most
pub optimal_value-few : (matrix : Matrix) (most rows columns : ℕ) → ((i j : ℕ) → entry matrix i j ≤ most)
    → (i : ℕ) (w : ℕ → Bool) → optimal_value matrix rows columns i w ≤ i * most
optimal_value-few matrix most rows columns small zero w = omega arith
optimal_value-few matrix most rows columns small (suc i) w =
    let alone = optimal_value-few matrix most rows columns small i (removed w i) in
    let paired =
    greatest_below-few columns (pair_best matrix rows columns i w) (most + i * most)
    (λ j. if-few (w (rows + j))
    (entry matrix i j + optimal_value matrix rows columns i (removed (removed w i) (rows + j)))
    (most + i * most)
    (let a = small i j in
    let b = optimal_value-few matrix most rows columns small i (removed (removed w i) (rows + j)) in
    omega (arith, a, b))) in
    let row = if-few (w i) (greatest_below columns (pair_best matrix rows columns i w)) (most + i * most) paired in
    let e : suc i * most ≡ most + i * most = omega arith in
    omega (arith, alone, row, e)
