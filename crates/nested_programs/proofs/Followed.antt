-- The level that weights of a stage are follows from them.
use Rattle.std.proofs.Common.{◌≡◌, ◌≢◌, ◌⊎◌, ℕ, ◌+◌, ◌-◌, ◌<◌, ◌≤◌, Bool, true}
use Rattle.std.proofs.Common.{false, ◌&&◌, IsTrue, List, [], ◌∷◌, ◌++◌, length, ℤ, pos}
use Rattle.std.proofs.Common.{◌+ℤ◌, ◌-ℤ◌, ◌≤ℤ◌, refl, ap, ◌∙◌, inl, inr, arith, nat_eq}
use Rattle.std.proofs.Common.{nat_lt, int_le}
use Rattle.std.proofs.lemmas.Int.{by_lt_z}
use Rattle.std.proofs.lemmas.Bool.Decides.{nat_tests}
use Rattle.std.specs.List.{list_any, AllByRecursion}
use Rattle.definitions.proofs.Ring.{linear}
use Rattle.definitions.proofs.Members.{has_player-grand_coalition, weighted_sum-add}
use Rattle.definitions.specs.Sums.{weighted_sum}
use Rattle.definitions.specs.Coalitions.{has_player, grand_coalition, weight_at}
use Rattle.definitions.specs.Certificates.{Level, has_bound, number_at}
use Rattle.definitions.specs.Programs.{AreWeights}
use Rattle.definitions.specs.declared.Measure.{Measure}
use Rattle.definitions.specs.declared.Family.TheVariants.{Imputations}
use Rattle.separation.specs.Stage.{entry_of, earlier_of, settled_columns, column, is_imputations}
use Rattle.simplex.specs.declared.answer.Optimal.{Optimal}
use Rattle.nested_programs.specs.Stage.{Stage, program_of}
use Rattle.nested_programs.specs.Chain.{single_id, outer_id, HasWeight, Follows}
use Rattle.nested_programs.specs.Numbers.{AreNumbers, first_single, outer_pairs, net}
use Rattle.nested_programs.specs.Numbers.{earlier_pairs, bound_pairs, IsLevelOf}
use Rattle.nested_programs.proofs.Reading.{imputations_of}
use Rattle.nested_programs.proofs.Advance.{BoundComes, any_left, any_right}
use Rattle.nested_programs.proofs.LevelSums.{is_at, outer_part, pair_part, earlier_part, weighted-same}
use Rattle.nested_programs.proofs.LevelSums.{net_weighted, outer_weighted, earlier_weighted, number_within}
use Rattle.nested_programs.proofs.ColumnParts.{parts, settled_pairs, settled_length, column_parts}
use Rattle.nested_programs.proofs.PositiveWeights.{number_low, number_some, weight_of, each_weighs, on_column}
use Rattle.nested_programs.proofs.LevelPairs.{any_placed_behind, all_outer, any_outer, all_bound, any_bound}
use Rattle.definitions.proofs.Cases.{or_left, true_or_false, and_left, and_right}
use Rattle.definitions.proofs.Alls.{all_weaken}
use Rattle.kohlberg.specs.Pairs.{placed}
use Rattle.kohlberg.proofs.Placed.{placed_all, weight_at-placed}

-- ---- the sums at a player

-- all players stand in front of the earlier coalitions
whole_first : (n k i : ℕ) (cs : List (ℕ × ℕ)) (ws : List (ℕ × ℤ)) → i < n
    → weighted_sum (earlier_part i 0 ((grand_coalition n, k) ∷ cs)) ws
    ≡ weight_at (earlier_pairs ws 2 cs) i -ℤ net ws 1 0
whole_first n k i cs ws h =
    let all : has_player (grand_coalition n) i ≡ true = has_player-grand_coalition n i h in
    let pair : ℕ → ℤ = pair_part (has_player (grand_coalition n) i) 0 in
    let first : weighted_sum pair ws ≡ net ws 0 1 = cc (net_weighted 0 1 ws) in
    omega (arith, linear, weighted_sum-add pair (earlier_part i 2 cs) ws, first, earlier_weighted i ws 2 cs)

parts_sum : (n first i k : ℕ) (cs : List (ℕ × ℕ)) (ws : List (ℕ × ℤ)) → i < n
    → weighted_sum (parts n first ((grand_coalition n, k) ∷ cs) i) ws
    ≡ weight_at (outer_pairs (first + (n + n)) ws) i +ℤ weight_at (earlier_pairs ws 2 cs) i
    +ℤ number_at (bound_pairs ws first n n) i -ℤ net ws 1 0
parts_sum n first i k cs ws h =
    let outer : ℕ → ℤ = outer_part (first + (n + n)) i in
    let earlier : ℕ → ℤ = earlier_part i 0 ((grand_coalition n, k) ∷ cs) in
    let bound : ℕ → ℤ = λ id. is_at (first + i) id -ℤ is_at (first + i + n) id in
    omega (
      arith,
      linear,
      weighted_sum-add (λ id. outer id +ℤ earlier id) bound ws,
      weighted_sum-add outer earlier ws,
      outer_weighted (first + (n + n)) i ws,
      whole_first n k i cs ws h,
      net_weighted (first + i) (first + i + n) ws,
      number_within ws first n n i h,
    )

-- what the level holds of a player, less its total, is the weighted entries of the player's row
level_sums : (measure : Measure) (n : ℕ) (front : List Level) (best : Optimal) (l : Level)
    → IsLevelOf n front best l → (i : ℕ) → i < n
    → weight_at l.coalitions i +ℤ weight_at l.earlier i +ℤ number_at l.bounds i -ℤ l.total
    ≡ weighted_sum (λ id. entry_of measure n (column n front id) i) best.weights.items
level_sums measure n front best l is i h =
    let ws : List (ℕ × ℤ) = best.weights.items in
    let first : ℕ = first_single front in
    let outer = ap (λ ps. weight_at ps i) is.coalitions ∙ weight_at-placed (outer_pairs (first + (n + n)) ws) i in
    let earlier =
    ap (λ ps. weight_at ps i) is.earlier ∙ weight_at-placed (earlier_pairs ws 2 (earlier_of 0 front)) i in
    let bound = ap (λ ps. number_at ps i) is.bounds in
    let sum = parts_sum n first i (length front + 1) (earlier_of 0 front) ws h in
    let same =
    weighted-same (parts n first (settled_pairs n front) i) (λ id. entry_of measure n (column n front id) i) ws
    (λ id. column_parts measure n front i id h) in
    omega (arith, linear)

-- ---- the coalitions

outer_id-is : (n : ℕ) (front : List Level) (s : ℕ) → outer_id n front s ≡ first_single front + (n + n) + s
outer_id-is n front s = let e = settled_length n front in omega (arith, e)

outer_weigh : (n : ℕ) (front : List Level) (ws : List (ℕ × ℤ)) → AllByRecursion (λ w. pos 1 ≤ℤ w.1) ws
    → AllByRecursion (λ c. (pos 1 ≤ℤ c.1) × HasWeight ws (outer_id n front c.0))
    (placed (outer_pairs (first_single front + (n + n)) ws))
outer_weigh n front ws h =
    let first : ℕ = first_single front + (n + n) in
    let P : ℕ × ℤ → Type 0 = λ c. (pos 1 ≤ℤ c.1) × HasWeight ws (outer_id n front c.0) in
    let back : (id : ℕ) → first ≤ id → id ≡ outer_id n front (id - first) =
    λ id le. (let e = outer_id-is n front (id - first) in omega (arith, e)) in
    placed_all P (outer_pairs first ws) (all_outer P first ws
    (all_weaken (λ w. (pos 1 ≤ℤ w.1) × HasWeight ws w.0) (λ w. first ≤ w.0 → P (w.0 - first, w.1)) ws
    (λ w k le. (k.0, rw (back w.0 le) at k.1)) (each_weighs ws h)))

outer_listed : (n : ℕ) (front : List Level) (ws : List (ℕ × ℤ)) (s : ℕ) → HasWeight ws (outer_id n front s)
    → list_any (λ c. nat_eq c.0 s) (placed (outer_pairs (first_single front + (n + n)) ws)) ≡ true
outer_listed n front ws s has =
    let first : ℕ = first_single front + (n + n) in
    any_placed_behind (λ c. nat_eq c.0 s) [] (outer_pairs first ws)
    (inr (any_outer first ws s (rw (outer_id-is n front s) at has)))

-- ---- the bounds

-- the column of a player's bound negated stands there only for imputations, where a level in front has the bound
bound_in_front : (q : Stage) (outside : ℕ → Bool) (i : ℕ) → i < q.game.players
    → IsTrue ((program_of q outside).is_column (first_single q.front + i + q.game.players))
    → (q.family ≡ Imputations) × IsTrue (has_bound q.front i)
bound_in_front q outside i h is_so =
    let n : ℕ = q.game.players in
    let len : ℕ = length (settled_columns n q.front) in
    let e = settled_length n q.front in
    let same : first_single q.front + i + n ≡ len + (n + i) = omega (arith, e) in
    let there = rw same at is_so in
    let t : nat_lt (len + (n + i)) len ≡ false = grind (arith, nat_tests) in
    let v : len + (n + i) - len ≡ n + i = omega arith in
    let t' : nat_lt (n + i) n ≡ false = grind (arith, nat_tests) in
    let u : nat_lt (n + i) (n + n) ≡ true = grind (arith, nat_tests) in
    let w : n + i - n ≡ i = omega arith in
    let both = rw w at (rw u at (rw t' at (rw v at (rw t at there)))) in (
      imputations_of q.family (and_left (is_imputations q.family) (has_bound q.front i) both),
      and_right (is_imputations q.family) (has_bound q.front i) both,
    )

-- a weight on the negated column of a player's bound
front_bound : (q : Stage) (outside : ℕ → Bool) (ws : List (ℕ × ℤ)) (i : ℕ) → AreWeights (program_of q outside) ws
    → AllByRecursion (λ w. pos 1 ≤ℤ w.1) ws → i < q.game.players
    → pos 1 ≤ℤ number_at ws (first_single q.front + i + q.game.players)
    → (q.family ≡ Imputations) × IsTrue (has_bound q.front i)
front_bound q outside ws i are positive h some =
    bound_in_front q outside i h
    (on_column (program_of q outside).is_column ws (first_single q.front + i + q.game.players)
    are.0 (weight_of ws (first_single q.front + i + q.game.players) positive some))

single_id-is : (n : ℕ) (front : List Level) (i : ℕ) → first_single front + i ≡ single_id n front i
single_id-is n front i = let e = settled_length n front in omega (arith, e)

bound_comes : (q : Stage) (outside : ℕ → Bool) (ws : List (ℕ × ℤ)) (i : ℕ) → AreWeights (program_of q outside) ws
    → AllByRecursion (λ w. pos 1 ≤ℤ w.1) ws → i < q.game.players
    → net ws (first_single q.front + i) (first_single q.front + i + q.game.players) ≢ pos 0
    → BoundComes q ws (i, net ws (first_single q.front + i) (first_single q.front + i + q.game.players))
bound_comes q outside ws i are positive h some =
    by_lt_z (pos 0) z (λ up.
    let one : pos 1 ≤ℤ number_at ws (first + i) = omega (arith, linear, up, low) in (
      h,
      inl (
        omega (arith, linear, up),
        rw (single_id-is n q.front i) at (weight_of ws (first + i) positive one),
      ),
    ))
    (λ down.
    let one : pos 1 ≤ℤ number_at ws (first + i + n) =
    below z (number_at ws (first + i)) (number_at ws (first + i + n)) refl some down low' in
    (h, inr (front_bound q outside ws i are positive h one)))
  where
    n : ℕ
    n = q.game.players

    first : ℕ
    first = first_single q.front

    z : ℤ
    z = net ws (first + i) (first + i + n)

    low : pos 0 ≤ℤ number_at ws (first + i + n)
    low = number_low ws (first + i + n) positive

    low' : pos 0 ≤ℤ number_at ws (first + i)
    low' = number_low ws (first + i) positive

    below : (z a b : ℤ) → z ≡ a -ℤ b → z ≢ pos 0 → z ≤ℤ pos 0 → pos 0 ≤ℤ a → pos 1 ≤ℤ b
    below z a b e ne le a_low =
        by_lt_z z (pos 0) (λ lt. omega (arith, linear)) (λ ge. absurd (ne (omega (arith, linear))))

at_least : (z : ℤ) → pos 1 ≤ℤ z → int_le (pos 1) z ≡ true
at_least z h =
    elim (true_or_false (int_le (pos 1) z)) [ inl up ↦ up | inr down ↦ absurd (omega (arith, linear)) ]

-- a weight on a player's column gives a bound in front or a bound of the level
bound_known : (q : Stage) (outside : ℕ → Bool)
    (ws : List (ℕ × ℤ)) (i : ℕ) → AreWeights (program_of q outside) ws
    → AllByRecursion (λ w. pos 1 ≤ℤ w.1) ws → i < q.game.players → HasWeight ws (single_id q.game.players q.front i)
    → IsTrue (has_bound q.front i)
    ⊎ (list_any (λ b. nat_eq b.0 i && int_le (pos 1) b.1)
    (bound_pairs ws (first_single q.front) q.game.players q.game.players) ≡ true)
bound_known q outside ws i are positive h has =
    by_lt_z (pos 0) (number_at ws (first + i + n))
    (λ more. inl (front_bound q outside ws i are positive h (omega (arith, linear, more))).1)
    (λ none.
    let one : pos 1 ≤ℤ z = omega (arith, linear, none, plus) in
    let t : nat_eq i i ≡ true = grind (arith, nat_tests) in
    let u : int_le (pos 1) z ≡ true = at_least z one in
    inr (any_bound test ws first n n i h (λ e. omega (arith, linear)) (rw t u)))
  where
    n : ℕ
    n = q.game.players

    first : ℕ
    first = first_single q.front

    z : ℤ
    z = net ws (first + i) (first + i + n)

    test : ℕ × ℤ → Bool
    test b = nat_eq b.0 i && int_le (pos 1) b.1

    plus : pos 1 ≤ℤ number_at ws (first + i)
    plus = number_some ws (first + i) positive (rw (single_id-is n q.front i) has)

-- ---- all together

pub level_follows : (q : Stage) (outside : ℕ → Bool) (best : Optimal) (l : Level)
    → AreWeights (program_of q outside) best.weights.items → AreNumbers best.weights.items
    → IsLevelOf q.game.players q.front best l → Follows q best.weights.items l
level_follows q outside best l are numbers is =
    let n : ℕ = q.game.players in
    let ws : List (ℕ × ℤ) = best.weights.items in
    let positive = numbers.positive in
    record {
      coalitions =
          rw is.coalitions (outer_weigh n q.front ws positive);
      bounds =
          rw is.bounds (all_bound (BoundComes q ws) ws (first_single q.front) n n
          (λ i lt some. bound_comes q outside ws i are positive lt some));
      all_coalitions = λ s has. or_left (list_any (λ c. nat_eq c.0 s) l.coalitions) false
          (ap (list_any (λ c. nat_eq c.0 s)) is.coalitions ∙ outer_listed n q.front ws s has);
      all_bounds = λ i lt has. joined i
          (elim (bound_known q outside ws i are positive lt has) [
            | inl old ↦ inl old
            | inr new ↦ inr (ap (list_any (λ b. nat_eq b.0 i && int_le (pos 1) b.1)) is.bounds ∙ new)
          ]);
      sums = level_sums q.measure n q.front best l is;
    }
  where
    joined : (i : ℕ)
        → IsTrue (has_bound q.front i) ⊎ (list_any (λ b. nat_eq b.0 i && int_le (pos 1) b.1) l.bounds ≡ true)
        → IsTrue (has_bound (q.front ++ l ∷ []) i)
    joined i (inl old) =
        any_left (λ l. list_any (λ b. nat_eq b.0 i && int_le (pos 1) b.1) l.bounds) q.front (l ∷ []) old
    joined i (inr new) =
        any_right (λ l. list_any (λ b. nat_eq b.0 i && int_le (pos 1) b.1) l.bounds) q.front (l ∷ [])
        (or_left (list_any (λ b. nat_eq b.0 i && int_le (pos 1) b.1) l.bounds) false new)
