-- A stage program has a solution if a coalition is outside, and the first has no endless ray if the family has a
-- member.
--
-- If a coalition is outside, so are the others together. Both at weight 1 and all players at minus 1, over the sum of
-- the two divisors, solve the program (`pair_solves`). No ray exists beside multipliers that bound the program. In the
-- first stage a member of the family gives them: its shares and its greatest excess, or 0 if that is more, since a
-- divisor is at least 1 (`first_no_ray`). In a later one those of the stage before do (`next_no_ray` in Chain.antt).
use Rattle.std.proofs.Common.{◌≡◌, ◌≢◌, ℕ, zero, suc, ◌+◌, ◌-◌, ◌^◌, ◌<◌, ◌≤◌}
use Rattle.std.proofs.Common.{Bool, true, false, not, cond, IsTrue, List, [], ◌∷◌, length}
use Rattle.std.proofs.Common.{ℤ, pos, ◌+ℤ◌, ◌-ℤ◌, ◌*ℤ◌, ◌≤ℤ◌, refl, sym, ap, ◌∙◌}
use Rattle.std.proofs.Common.{inl, inr, arith, nat_eq, nat_lt, if◌then◌else◌}
use Rattle.std.proofs.lemmas.Int.{by_lt_z}
use Rattle.std.proofs.lemmas.Bool.{false≢true}
use Rattle.std.proofs.lemmas.Bool.Decides.{nat_tests}
use Rattle.std.specs.List.{AllByRecursion, IsDistinct}
use Rattle.definitions.proofs.Ring.{linear, mul-zeroℤ, mul-oneℤ, one-mulℤ, mul-leℤ}
use Rattle.worth_core.proofs.DividedNumbers.{divisor-some}
use Rattle.definitions.proofs.SumsOver.{sum_over-same}
use Rattle.definitions.proofs.Members.{has_player-grand_coalition, has_player-complement}
use Rattle.definitions.proofs.Members.{sum_below-same, sum_over-grand_coalition}
use Rattle.definitions.specs.Coalitions.{has_player, singleton, grand_coalition, sum_over, weight_at}
use Rattle.definitions.specs.Measures.{divisor}
use Rattle.definitions.specs.Games.{Allocation, share, amount, IsAllocation, IsEfficient, InFamily}
use Rattle.definitions.specs.Certificates.{Level, IsFixedVector, InSpan, IsOutside}
use Rattle.definitions.specs.Programs.{Bounds, HasRay, HasNoSolution, Solves}
use Rattle.definitions.specs.declared.Family.{Family}
use Rattle.definitions.specs.declared.Measure.{Measure}
use Rattle.definitions.specs.declared.Family.TheVariants.{Imputations, Preimputations}
use Rattle.definitions.specs.declared.Mode.TheVariants.{Span}
use Rattle.separation.specs.Stage.{plus_entry, entry_of, settled_columns, column, is_imputations}
use Rattle.nested_programs.specs.Stage.{Stage, with_front, program_of}
use Rattle.nested_programs.specs.Reading.{RowMultipliers, share_of, excess_of}
use Rattle.nested_programs.specs.Chain.{outer_id}
use Rattle.nested_programs.proofs.Reading.{of_reading}
use Rattle.nested_programs.proofs.Advance.{column_outer}
use Rattle.nested_programs.proofs.Chain.{tabulate, tabulate-at}
use Rattle.definitions.proofs.Cases.{less_or_last, true_or_false}
use Rattle.simplex.proofs.Ends.{no_ray}

-- ---- the others of an outside coalition are outside

abbrev negated : List (ℕ × ℤ) → List (ℕ × ℤ)
negated [] = []
negated (p ∷ ps) = (p.0, pos 0 -ℤ p.1) ∷ negated ps

weight_at-negated : (ps : List (ℕ × ℤ)) (i : ℕ) → weight_at (negated ps) i ≡ pos 0 -ℤ weight_at ps i
weight_at-negated [] i = refl
weight_at-negated (p ∷ ps) i = negated_part (has_player p.0 i) (weight_at-negated ps i)
  where
    negated_part : (b : Bool) → weight_at (negated ps) i ≡ pos 0 -ℤ weight_at ps i
        → cond b (pos 0 -ℤ p.1) (pos 0) +ℤ weight_at (negated ps) i
        ≡ pos 0 -ℤ (cond b p.1 (pos 0) +ℤ weight_at ps i)
    negated_part true h = omega (arith, linear, h)
    negated_part false h = omega (arith, linear, h)

all_negated : (P : ℕ → Type 0) (ps : List (ℕ × ℤ)) → AllByRecursion (λ p. P p.0) ps
    → AllByRecursion (λ p. P p.0) (negated ps)
all_negated P [] h = tt
all_negated P (p ∷ ps) h = (h.0, all_negated P ps h.1)

others_spanned : (n : ℕ) (front : List Level) (s : ℕ) → s < 2 ^ n
    → InSpan n (IsFixedVector n front) (grand_coalition n - s) → InSpan n (IsFixedVector n front) s
others_spanned n front s small (k, ne, ps, fixed, sums) = (
  k,
  ne,
  (grand_coalition n, k) ∷ negated ps,
  (inl refl, all_negated (IsFixedVector n front) ps fixed),
  λ i h. rw (has_player-grand_coalition n i h)
      (others_weight (has_player s i) (weight_at (negated ps) i) (weight_at ps i) (weight_at-negated ps i)
      (cc (sums i h, has_player-complement n s i small h))),
)
  where
    others_weight : (b : Bool) (u w : ℤ) → u ≡ pos 0 -ℤ w → w ≡ cond (not b) k (pos 0) → k +ℤ u ≡ cond b k (pos 0)
    others_weight true u w h e = omega (arith, linear)
    others_weight false u w h e = omega (arith, linear)

pub others_outside : (n : ℕ) (front : List Level) (s : ℕ) → IsOutside Span n front s
    → IsOutside Span n front (grand_coalition n - s)
others_outside n front s (low, high, apart) =
    (omega arith, omega arith, λ spanned. apart (others_spanned n front s (omega arith) spanned))

-- ---- a solution

-- one weight each on minus all players, the coalition and its others
abbrev pair_weights : ℕ → List Level → ℕ → List (ℕ × ℤ)
pair_weights n front s =
    (1, pos 1) ∷ ((outer_id n front s, pos 1) ∷ ((outer_id n front (grand_coalition n - s), pos 1) ∷ []))

-- what the level row has of a coalition and its others
abbrev pub both_divisors : Measure → ℕ → ℕ → ℤ
both_divisors measure n s = pos (divisor measure s) +ℤ pos (divisor measure (grand_coalition n - s))

pair_row : (measure : Measure) (n k s r : ℕ) → s < 2 ^ n → r < n + (k + 1)
    → (pos 0 -ℤ plus_entry measure n (grand_coalition n) (k + 1) r)
    +ℤ (plus_entry measure n s k r +ℤ plus_entry measure n (grand_coalition n - s) k r)
    ≡ both_divisors measure n s *ℤ (if nat_eq r (n + k) then pos 1 else pos 0)
pair_row measure n k s r small h = elim (true_or_false (nat_lt r n)) [
  | inl below ↦
      let lt : r < n = grind (arith, nat_tests) in
      let u : nat_eq r (n + k) ≡ false = grind (arith, nat_tests) in
      rw below (rw u (rw (has_player-grand_coalition n r lt)
      (rw (has_player-complement n s r small lt) (player_row (has_player s r) (both_divisors measure n s)))))
  | inr past ↦
      let u : nat_eq r (n + (k + 1)) ≡ false = grind (arith, nat_tests) in
      rw past
      (rw u (level_row (nat_eq r (n + k)) (pos (divisor measure s)) (pos (divisor measure (grand_coalition n - s)))))
]
  where
    player_row : (b : Bool) (d : ℤ)
        → (pos 0 -ℤ pos 1) +ℤ (cond b (pos 1) (pos 0) +ℤ cond (not b) (pos 1) (pos 0)) ≡ d *ℤ pos 0
    player_row true d = sym (mul-zeroℤ d)
    player_row false d = sym (mul-zeroℤ d)

    level_row : (b : Bool) (d e : ℤ)
        → (pos 0 -ℤ pos 0) +ℤ (cond b d (pos 0) +ℤ cond b e (pos 0)) ≡ (d +ℤ e) *ℤ cond b (pos 1) (pos 0)
    level_row true d e = omega (arith, linear, mul-oneℤ (d +ℤ e))
    level_row false d e = omega (arith, linear, mul-zeroℤ (d +ℤ e))

outer_column : (q : Stage) (outside : ℕ → Bool) (s : ℕ) → IsTrue (outside s)
    → IsTrue ((program_of q outside).is_column (outer_id q.game.players q.front s))
outer_column q outside s o =
    let n : ℕ = q.game.players in
    let len : ℕ = length (settled_columns n q.front) in
    let t : nat_lt (len + (n + n + s)) len ≡ false = grind (arith, nat_tests) in
    let v : len + (n + n + s) - len ≡ n + n + s = omega arith in
    let t' : nat_lt (n + n + s) n ≡ false = grind (arith, nat_tests) in
    let u : nat_lt (n + n + s) (n + n) ≡ false = grind (arith, nat_tests) in
    let w : n + n + s - (n + n) ≡ s = omega arith in
    rw t (rw v (rw t' (rw u (rw w o))))

-- ---- divisors

-- each divisor is at least 1, so their sum is
both_some : (measure : Measure) (n s : ℕ) → n ≤ 16 → 0 < s → s < grand_coalition n
    → pos 1 ≤ℤ both_divisors measure n s
both_some measure n s few some less =
    let one = divisor-some measure n s (omega (arith, few)) some (omega (arith, less)) in
    omega (arith, linear, one)

-- ---- the first stage

some_bound : (N : ℕ) (f : ℕ → ℤ) → (b : ℤ) × ((s : ℕ) → s < N → f s ≤ℤ b)
some_bound zero f = (pos 0, λ s h. absurd (omega arith))
some_bound (suc N) f =
    let ih = some_bound N f in
    by_lt_z ih.0 (f N) (λ up. (
      f N,
      λ s h. elim (less_or_last s N h)
          [ inl less ↦ omega (arith, linear, up, ih.1 s less) | inr same ↦ omega (arith, linear, ap f same) ],
    ))
    (λ low. (
      ih.0,
      λ s h. elim (less_or_last s N h)
          [ inl less ↦ ih.1 s less | inr same ↦ omega (arith, linear, low, ap f same) ],
    ))

pub first_bounds : (q : Stage) (outside : ℕ → Bool) (y : Allocation) → q.game.players ≤ 16
    → ((s : ℕ) → IsTrue (outside s) → (0 < s) × (s < 2 ^ q.game.players)) → InFamily q.family q.game y
    → (m : List ℤ) × Bounds (program_of (with_front q []) outside) m y.den
first_bounds q outside y few within member = (
  m.num,
  of_reading (with_front q []) outside m (record {
    positive = (allocation q.family member).1;
    whole =
        sum_below-same n (share_of m) (share y) shares ∙ sym (sum_over-grand_coalition n (share y))
        ∙ sym (amount_is (grand_coalition n)) ∙ efficient q.family member;
    settled = tt;
    single = λ f i h. omega (arith, linear, individual q.family member f i h, shares i h);
    bound = λ f i h b. absurd (false≢true b);
    outer = λ s o.
        (let in_row = ap (λ z. z *ℤ pos (divisor q.measure s)) last_is in
        let some = divisor-some q.measure n s (omega (arith, few)) (within s o).0 (within s o).1 in
        let enough = mul-leℤ top (pos 1) (pos (divisor q.measure s)) high.0 (omega (arith, linear, some)) in
        omega (
          arith,
          linear,
          high.1 s (within s o).1,
          mul-oneℤ top,
          sum_over-same n (share_of m) (share y) s
              shares,
        ));
  }),
)
  where
    n : ℕ
    n = q.game.players

    excess_bound : (b : ℤ) × ((s : ℕ) → s < 2 ^ n → (y.den *ℤ q.game.worth s -ℤ sum_over n (share y) s) ≤ℤ b)
    excess_bound = some_bound (2 ^ n) (λ s. y.den *ℤ q.game.worth s -ℤ sum_over n (share y) s)

    -- a bound that isn't negative
    bound_from_zero : (b : ℤ)
        × ((pos 0 ≤ℤ b) × ((s : ℕ) → s < 2 ^ n → (y.den *ℤ q.game.worth s -ℤ sum_over n (share y) s) ≤ℤ b))
    bound_from_zero =
        by_lt_z excess_bound.0 (pos 0)
        (λ low. (pos 0, (omega (arith, linear), λ s h. omega (arith, linear, low, excess_bound.1 s h))))
        (λ up. (excess_bound.0, (omega (arith, linear, up), excess_bound.1)))

    top : ℤ
    top = bound_from_zero.0

    high : (pos 0 ≤ℤ top) × ((s : ℕ) → s < 2 ^ n → (y.den *ℤ q.game.worth s -ℤ sum_over n (share y) s) ≤ℤ top)
    high = bound_from_zero.1

    multiplier : ℕ → ℤ
    multiplier r = if nat_lt r n then share y r else top

    m : RowMultipliers
    m = record { num = tabulate 0 (n + 1) multiplier; den = y.den }

    shares : (i : ℕ) → i < n → share_of m i ≡ share y i
    shares i h =
        let t : nat_lt i n ≡ true = grind (arith, nat_tests) in
        let e : 0 + i ≡ i = omega arith in
        tabulate-at 0 (n + 1) multiplier i (omega arith) ∙ rw e (rw t refl)

    last_is : excess_of n m 0 ≡ top
    last_is =
        let e : 0 + (n + 0) ≡ n + 0 = omega arith in
        let t : nat_lt (n + 0) n ≡ false = grind (arith, nat_tests) in
        tabulate-at 0 (n + 1) multiplier (n + 0) (omega arith) ∙ rw e (rw t refl)

    allocation : (family : Family) → InFamily family q.game y → IsAllocation q.game y
    allocation Imputations h = h.0
    allocation Preimputations h = h.0

    efficient : (family : Family) → InFamily family q.game y → IsEfficient q.game y
    efficient Imputations h = h.1
    efficient Preimputations h = h.1

    individual : (family : Family) → InFamily family q.game y → family ≡ Imputations → (i : ℕ) → i < q.game.players
        → (y.den *ℤ q.game.worth (singleton i)) ≤ℤ share y i
    individual Imputations h e = h.2
    individual Preimputations h e = absurd (families_differ e)
      where
        families_differ : Preimputations ≡ Imputations → ⊥
        families_differ e = false≢true (ap is_imputations e)

    amount_is : (s : ℕ) → amount y s ≡ sum_over n (share y) s
    amount_is s = ap (λ (z : ℕ). sum_over z (share y) s) (allocation q.family member).0

-- where the family has a member, the first stage has no endless ray
pub first_no_ray : (q : Stage) (outside : ℕ → Bool) (y : Allocation) → q.game.players ≤ 16
    → ((s : ℕ) → IsTrue (outside s) → (0 < s) × (s < 2 ^ q.game.players)) → InFamily q.family q.game y
    → HasRay (program_of (with_front q []) outside) → ⊥
first_no_ray q outside y few within member ray =
    let found = first_bounds q outside y few within member in
    no_ray (program_of (with_front q []) outside) found.0 y.den found.1 ray

-- ---- the solution

column_whole : (n : ℕ) (front : List Level)
    → column n front 1 ≡ record { mask = grand_coalition n; row = length front + 1; minus = true }
column_whole n front =
    let t : nat_lt 1 (length (settled_columns n front)) ≡ true = grind (arith, nat_tests) in rw t refl

whole_column : (q : Stage) (outside : ℕ → Bool) → IsTrue ((program_of q outside).is_column 1)
whole_column q outside =
    let t : nat_lt 1 (length (settled_columns q.game.players q.front)) ≡ true = grind (arith, nat_tests) in rw t refl

not_own_other : (n s : ℕ) → 0 < n → s < 2 ^ n → s ≢ grand_coalition n - s
not_own_other n s some small e =
    bit_differs (has_player s 0) (cc (has_player-complement n s 0 small some))
  where
    bit_differs : (b : Bool) → b ≡ not b → ⊥
    bit_differs true h = false≢true (sym h)
    bit_differs false h = false≢true h

pair_distinct : (n : ℕ) (front : List Level) (s : ℕ) → 0 < n → s < 2 ^ n
    → IsDistinct nat_eq (1 ∷ (outer_id n front s ∷ (outer_id n front (grand_coalition n - s) ∷ [])))
unfolding IsDistinct
pair_distinct n front s some small =
    let ne = not_own_other n s some small in
    let long : 2 ≤ length (settled_columns n front) = omega arith in
    let a : nat_eq 1 (outer_id n front s) ≡ false = grind (arith, nat_tests) in
    let b : nat_eq 1 (outer_id n front (grand_coalition n - s)) ≡ false = grind (arith, nat_tests) in
    let c : nat_eq (outer_id n front s) (outer_id n front (grand_coalition n - s)) ≡ false =
    grind (arith, nat_tests) in
    ((a, (b, tt)), ((c, tt), (tt, tt)))

row_sum : (a b c u v w : ℤ) → a ≡ u → b ≡ v → c ≡ w
    → pos 1 *ℤ a +ℤ (pos 1 *ℤ b +ℤ (pos 1 *ℤ c +ℤ pos 0)) ≡ u +ℤ (v +ℤ w)
row_sum a b c u v w h k l = omega (arith, linear, one-mulℤ a, one-mulℤ b, one-mulℤ c)

-- the coalition and its others at one weight, and all players at minus that
pub pair_solves : (q : Stage) (outside : ℕ → Bool) (s : ℕ) → q.game.players ≤ 16
    → IsOutside Span q.game.players q.front s → IsTrue (outside s)
    → IsTrue (outside (grand_coalition q.game.players - s))
    → Solves (program_of q outside) (pair_weights q.game.players q.front s)
    (both_divisors q.measure q.game.players s)
pair_solves q outside s few o here others =
    let n : ℕ = q.game.players in
    let small : s < 2 ^ n = omega arith in
    let some : 0 < n = positive n (omega arith) in (
      (
        (
          (whole_column q outside, omega (arith, linear)),
          (
            (outer_column q outside s here, omega (arith, linear)),
            (
              (outer_column q outside (grand_coalition n - s) others, omega (arith, linear)),
              tt,
            ),
          ),
        ),
        pair_distinct n q.front s some small,
      ),
      both_some q.measure n s few o.0 o.1,
      λ r h. row_sum _ _ _ (pos 0 -ℤ plus_entry q.measure n (grand_coalition n) (length q.front + 1) r)
          (plus_entry q.measure n s (length q.front) r)
          (plus_entry q.measure n (grand_coalition n - s) (length q.front) r)
          (ap (λ c. entry_of q.measure n c r) (column_whole n q.front))
          (ap (λ c. entry_of q.measure n c r) (column_outer n q.front s))
          (ap (λ c. entry_of q.measure n c r) (column_outer n q.front (grand_coalition n - s)))
          ∙ pair_row q.measure n (length q.front) s r small h,
    )
  where
    positive : (n : ℕ) → 0 < grand_coalition n → 0 < n
    positive zero h = absurd (omega arith)
    positive (suc n) h = omega arith

pub some_solution : (q : Stage) (outside : ℕ → Bool) (s : ℕ) → q.game.players ≤ 16
    → ((u : ℕ) → IsOutside Span q.game.players q.front u → IsTrue (outside u))
    → IsOutside Span q.game.players q.front s → HasNoSolution (program_of q outside) → ⊥
some_solution q outside s few all o none =
    none (pair_weights q.game.players q.front s) (both_divisors q.measure q.game.players s)
    (pair_solves q outside s few o (all s o)
    (all (grand_coalition q.game.players - s) (others_outside q.game.players q.front s o)))
