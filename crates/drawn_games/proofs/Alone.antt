-- What players are worth alone, added, is no more than the worth of all: tables, assignments, airports and estates.
--
-- In a table and in an assignment game the players are worth nothing alone. In an airport the greatest cost is one of
-- the costs alone. In an estate the claims, one by one, exceed a rest by no more than they do together.
use Rattle.std.proofs.Common.{◌≡◌, ℕ, zero, suc, ◌+◌, ◌-◌, ◌^◌, ◌<◌, ◌≤◌, Bool}
use Rattle.std.proofs.Common.{true, false, cond}
use Rattle.std.proofs.Common.{List, [], ◌∷◌, length, max, sum, ℤ, pos, neg_ℤ, ◌+ℤ◌}
use Rattle.std.proofs.Common.{◌-ℤ◌, ◌≤ℤ◌}
use Rattle.std.proofs.Common.{slice_index, refl, sym, ap, ◌∙◌, inl, inr, arith}
use Rattle.std.specs.Int.{int_max}
use Rattle.std.proofs.lemmas.Bool.{false≢true}
use Rattle.std.proofs.lemmas.Int.{ints, int_max_is}
use Rattle.std.proofs.lemmas.Nat.{pow_pos}
use Rattle.std.proofs.Math.Pow.{pow_mono}
use Rattle.std.proofs.lemmas.List.FromFn.{get_or-map-range_with_len}
use Rattle.definitions.proofs.Cases.{same_or_other, nat_eq-equal, nat_eq-some}
use Rattle.definitions.proofs.Masks.{grand_coalition-within, singleton-within}
use Rattle.definitions.proofs.Members.{members-zero, has_player-singleton, has_player-singleton_other}
use Rattle.definitions.proofs.Members.{sum_below-zero, sum_over-grand_coalition, sum_over-singleton}
use Rattle.definitions.proofs.Members.{sum_over-complement}
use Rattle.definitions.proofs.Sizes.{length-more_yes, length-more_no, size-at}
use Rattle.definitions.specs.Sums.{sum_below}
use Rattle.definitions.specs.Coalitions.{has_player, singleton, grand_coalition, members, size, sum_over}
use Rattle.definitions.specs.Classes.{Matrix, IsMatching, matching_value, table_worth}
use Rattle.definitions.specs.Classes.{greatest_cost, airport_worth, bankruptcy_worth}
use Rattle.airport.proofs.GreatestCosts.{greatest_cost-at_least}
use Rattle.orders.proofs.ListSums.{sum-sum_below}
use Rattle.matrices.specs.Rows.{entries_of}
use Rattle.assignment_games.specs.Assignments.{assignment_game, seller_count}
use Rattle.assignment_games.proofs.Games.{assignment_is_game}
use Rattle.drawn_games.specs.Draws.{long_draw}
use Rattle.drawn_games.specs.Numbers.{table_number, table_numbers, is_single, draws_before}
use Rattle.drawn_games.specs.Imputations.{HasImputations}

-- ---- tables

one_member : (i k : ℕ) → k ≤ i → length (members k (singleton i)) ≡ 0
one_member i zero le = ap length (members-zero (singleton i))
one_member i (suc k) le =
    rw next
    (length-more_no k (singleton i) (has_player-singleton_other i k (λ e. omega arith))
    ∙ one_member i k (omega arith))
  where
    next : suc k ≡ k + 1
    next = omega arith

single-is : (i : ℕ) → i < 64 → is_single (singleton i) ≡ true
single-is i lt =
    nat_eq-equal (size (singleton i)) 1
    (size-at (i + 1) (singleton i) (omega arith) (singleton-within (i + 1) i (omega arith))
    ∙ length-more_yes i (singleton i) (has_player-singleton i) ∙ one_more_is_one (one_member i i (omega arith)))
  where
    one_more_is_one : {k : ℕ} → k ≡ 0 → k + 1 ≡ 1
    one_more_is_one e = omega arith

table-at : (seed n s : ℕ) → 1 ≤ s → s < 2 ^ n → table_worth (table_numbers seed n) s ≡ table_number seed s
table-at seed n s some lt =
    rw (nat_eq-some 0 s some)
    (get_or-map-range_with_len (table_number seed) 1 (2 ^ n - 1) (s - 1) s (pos 0) (omega arith) (omega arith))

number-positive : (seed s : ℕ) → pos 0 ≤ℤ table_number seed s
number-positive seed s = either_positive (is_single s) (long_draw seed (draws_before s))
  where
    either_positive : (b : Bool) (k : ℕ) → pos 0 ≤ℤ cond b (pos 0) (pos k)
    either_positive true k = omega (arith, ints)
    either_positive false k = omega (arith, ints)

pub table_imputations : (seed n : ℕ) → 1 ≤ n → n ≤ 16
    → HasImputations (record { players = n; worth = table_worth (table_numbers seed n) })
table_imputations seed n some few =
    let none : sum_below n (λ i. table_worth (table_numbers seed n) (singleton i)) ≡ pos 0 =
    sum_below-zero n (λ i. table_worth (table_numbers seed n) (singleton i))
    (λ i lt. table-at seed n (singleton i) (pow_pos i) (singleton-within n i lt) ∙ zero_at i lt) in
    let all : table_worth (table_numbers seed n) (grand_coalition n) ≡ table_number seed (grand_coalition n) =
    table-at seed n (grand_coalition n) two (grand_coalition-within n) in
    rw (none, all) (number-positive seed (grand_coalition n))
  where
    zero_at : (i : ℕ) → i < n → table_number seed (singleton i) ≡ pos 0
    zero_at i lt = rw (single-is i (omega (arith, lt, few))) refl

    two : 1 ≤ grand_coalition n
    two = let m : 2 ^ 1 ≤ 2 ^ n = pow_mono some in omega (arith, m)

-- ---- assignments

no_pair : (matrix : Matrix) (rows i : ℕ) (ps : List (ℕ × ℕ)) → IsMatching rows (has_player (singleton i)) ps
    → matching_value matrix ps ≡ 0
no_pair matrix rows i [] m = refl
no_pair matrix rows i (p ∷ ps) m =
    absurd (let lt = m.0 in let a = only p.0 m.1 in let b = only (rows + p.1) m.2 in omega (arith, lt, a, b))
  where
    only : (j : ℕ) → has_player (singleton i) j ≡ true → j ≡ i
    only j e =
        elim (same_or_other j i)
        [ inl same ↦ same | inr other ↦ absurd (false≢true (sym (has_player-singleton_other i j other) ∙ e)) ]

pub assignment_imputations : (rows : List (List ℤ)) → HasImputations (assignment_game rows)
assignment_imputations rows =
    let none : sum_below (assignment_game rows).players (λ i. (assignment_game rows).worth (singleton i)) ≡ pos 0 =
    sum_below-zero (assignment_game rows).players (λ i. (assignment_game rows).worth (singleton i)) alone in
    rw none (omega (arith, ints))
  where
    alone : (i : ℕ) → i < length rows + seller_count rows → (assignment_game rows).worth (singleton i) ≡ pos 0
    alone i lt =
        let h = assignment_is_game rows (singleton i) (singleton-within (length rows + seller_count rows) i lt) in
        h.1 ∙ ap pos (h.2.reached.2 ∙ no_pair (entries_of rows) (length rows) i h.2.reached.0 h.2.reached.1)

-- ---- airports

greatest-sum : (m : ℕ) (cost : ℕ → ℕ) (s : ℕ) (f : ℕ → ℤ) → ((i : ℕ) → i < m → f i ≤ℤ neg_ℤ (pos (cost i)))
    → sum_below m f ≤ℤ neg_ℤ (pos (greatest_cost m cost s))
greatest-sum zero cost s f h = omega (arith, ints)
greatest-sum (suc m) cost s f h =
    next_at_most (has_player s m) (greatest_cost m cost s) (cost m) (sum_below m f) (f m)
    (greatest-sum m cost s f (λ i lt. h i (omega arith))) (h m (omega arith))
  where
    next_at_most : (q : Bool) (g c : ℕ) (x y : ℤ) → x ≤ℤ neg_ℤ (pos g) → y ≤ℤ neg_ℤ (pos c)
        → (x +ℤ y) ≤ℤ neg_ℤ (pos (max g (cond q c 0)))
    next_at_most true g c x y h k = let m : max g c ≤ g + c = omega arith in omega (arith, ints, h, k, m)
    next_at_most false g c x y h k = let m : max g 0 ≤ g + c = omega arith in omega (arith, ints, h, k, m)

pub airport_imputations : (costs : List ℕ)
    → HasImputations (record { players = length costs; worth = airport_worth costs })
airport_imputations costs =
    greatest-sum (length costs) (slice_index costs) (grand_coalition (length costs))
    (λ i. airport_worth costs (singleton i))
    (λ i lt. negated-le (slice_index costs i) (greatest_cost (length costs) (slice_index costs) (singleton i))
    (greatest_cost-at_least (length costs) (slice_index costs) (singleton i) i lt (has_player-singleton i)))
  where
    negated-le : (c g : ℕ) → c ≤ g → neg_ℤ (pos g) ≤ℤ neg_ℤ (pos c)
    negated-le c g h = omega (arith, ints, h)

-- ---- estates

-- what claims exceed a rest by, one by one, is no more than what all exceed it by
exceed-sum : (m : ℕ) (d f : ℕ → ℤ) (r : ℤ) → pos 0 ≤ℤ r → ((i : ℕ) → i < m → pos 0 ≤ℤ d i)
    → ((i : ℕ) → i < m → f i ≤ℤ int_max (pos 0) (d i -ℤ r))
    → (pos 0 ≤ℤ sum_below m d) × (sum_below m f ≤ℤ int_max (pos 0) (sum_below m d -ℤ r))
exceed-sum zero d f r some positive h =
    (omega (arith, ints), (let c = int_max_is (pos 0) (pos 0 -ℤ r) in omega (arith, ints, c)))
exceed-sum (suc m) d f r some positive h =
    let ih = exceed-sum m d f r some (λ i lt. positive i (omega arith)) (λ i lt. h i (omega arith)) in
    next_exceed (sum_below m f) (f m) (sum_below m d) (d m) ih.0 (positive m (omega arith)) ih.1 (h m (omega arith))
  where
    next_exceed : (x y s e : ℤ) → pos 0 ≤ℤ s → pos 0 ≤ℤ e → x ≤ℤ int_max (pos 0) (s -ℤ r)
        → y ≤ℤ int_max (pos 0) (e -ℤ r)
        → (pos 0 ≤ℤ (s +ℤ e)) × ((x +ℤ y) ≤ℤ int_max (pos 0) (s +ℤ e -ℤ r))
    next_exceed x y s e p q h k =
        let a = int_max_is (pos 0) (s -ℤ r) in
        let b = int_max_is (pos 0) (e -ℤ r) in
        let c = int_max_is (pos 0) (s +ℤ e -ℤ r) in
        (omega (arith, ints, p, q), omega (arith, ints, some, p, q, h, k, a, b, c))

pub bankruptcy_imputations : (estate : ℕ) (claims : List ℕ) → estate ≤ sum claims
    → HasImputations (record { players = length claims; worth = bankruptcy_worth estate claims })
bankruptcy_imputations estate claims enough =
    let n = length claims in
    let total = sum-sum_below claims in
    let most =
    exceed-sum (length claims) claim (λ i. bankruptcy_worth estate claims (singleton i))
    (sum_below (length claims) claim -ℤ pos estate)
    (rest (sum claims) (sum_below (length claims) claim) enough total) (λ i lt. omega (arith, ints)) alone in
    let whole = none_left (length claims) claim in
    ends (sum_below (length claims) claim)
    (sum_over (length claims) claim (grand_coalition (length claims) - grand_coalition (length claims)))
    (sum_below (length claims) (λ i. bankruptcy_worth estate claims (singleton i))) whole most.1
  where
    claim : ℕ → ℤ
    claim i = pos (slice_index claims i)

    rest : (k : ℕ) (t : ℤ) → estate ≤ k → pos k ≡ t → pos 0 ≤ℤ (t -ℤ pos estate)
    rest k t h e = omega (arith, ints, h, e)

    none_left : (n : ℕ) (d : ℕ → ℤ) → sum_over n d (grand_coalition n - grand_coalition n) ≡ pos 0
    none_left n d =
        let a = sum_over-complement n (grand_coalition n) d (grand_coalition-within n) in
        let b = sum_over-grand_coalition n d in
        omega (arith, ints, a, b)

    same_max : (t o k c : ℤ) → o +ℤ k ≡ t → k ≡ c
        → int_max (pos 0) (pos estate -ℤ o) ≤ℤ int_max (pos 0) (c -ℤ (t -ℤ pos estate))
    same_max t o k c e f =
        let a = int_max_is (pos 0) (pos estate -ℤ o) in
        let b = int_max_is (pos 0) (c -ℤ (t -ℤ pos estate)) in
        omega (arith, ints, a, b, e, f)

    alone : (i : ℕ) → i < length claims
        → bankruptcy_worth estate claims (singleton i)
        ≤ℤ int_max (pos 0) (claim i -ℤ (sum_below (length claims) claim -ℤ pos estate))
    alone i lt =
        same_max (sum_below (length claims) claim)
        (sum_over (length claims) claim (grand_coalition (length claims) - singleton i))
        (sum_over (length claims) claim (singleton i)) (claim i)
        (sum_over-complement (length claims) (singleton i) claim (singleton-within (length claims) i lt))
        (sum_over-singleton (length claims) i claim lt)

    ends : (t o x : ℤ) → o ≡ pos 0 → x ≤ℤ int_max (pos 0) (t -ℤ (t -ℤ pos estate))
        → x ≤ℤ int_max (pos 0) (pos estate -ℤ o)
    ends t o x e h =
        let a = int_max_is (pos 0) (t -ℤ (t -ℤ pos estate)) in
        let b = int_max_is (pos 0) (pos estate -ℤ o) in
        omega (arith, ints, a, b, e, h)
