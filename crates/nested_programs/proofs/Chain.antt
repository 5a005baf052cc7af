-- Along a chain of optimal stages: multipliers that settle all levels agree, optima don't rise, and no coalition
-- outside a level has more than the level's excess.
--
-- A column of positive weight is tight at its stage's own multipliers (`tight_optimal` in Slack.antt), so these settle
-- the stage's own level (`settles_own_level`). By complementary slackness it is tight at any multipliers that settle
-- the level (`tight_later` in Advance.antt). So all such multipliers have one excess there, the optimum of the stage
-- (`excess_optimum`), which is read off once for all.
--
-- The optimal multipliers of a stage, with their last excess once more, bound the next one. So by weak duality the
-- optimum doesn't rise (`optimum_falls`). Take a coalition that was outside before a level. If it isn't spanned later,
-- it has at most the later excess. If it is, it has one excess at all multipliers that settle the levels
-- (`outside_low`). That is condition 7. A coalition's divisor is the same in all stages.
use Rattle.std.proofs.Common.{◌≡◌, ℕ, zero, suc, ◌+◌, ◌<◌, Bool, true, false, ◌&&◌}
use Rattle.std.proofs.Common.{IsTrue, List, [], ◌∷◌, ◌++◌, length, map, ℤ, pos, ◌+ℤ◌}
use Rattle.std.proofs.Common.{◌-ℤ◌, ◌*ℤ◌, ◌≤ℤ◌, refl, sym, ap, subst, ◌∙◌, inl, inr}
use Rattle.std.proofs.Common.{arith, nat_eq, nat_lt, int_le, if◌then◌else◌, slice_index_or}
use Rattle.std.proofs.lemmas.Bool.{false≢true}
use Rattle.std.proofs.lemmas.Bool.Decides.{nat_tests}
use Rattle.std.specs.List.{list_any, AllByRecursion}
use Rattle.std.proofs.lemmas.List.{append_assoc, append-nil, length-append}
use Rattle.definitions.proofs.Ring.{linear, mul-leℤ, mul-cancelℤ, mul-le_cancelℤ, mul-positiveℤ}
use Rattle.definitions.proofs.Ring.{ring_laws}
use lib.IntN.{*ℤ_comm}
use Rattle.definitions.proofs.SumsOver.{sum_over-same}
use Rattle.definitions.proofs.Members.{sum_below-same, sum_below-zero, sum_over-combined}
use Rattle.definitions.proofs.Members.{sum_over-grand_coalition, zero_either}
use Rattle.determinants.proofs.Duality.{weak_duality}
use Rattle.definitions.specs.Sums.{weighted_sum}
use Rattle.definitions.specs.Coalitions.{has_player, singleton, grand_coalition, sum_over}
use Rattle.definitions.specs.Measures.{divisor}
use Rattle.definitions.specs.Certificates.{Level, is_listed, has_bound, IsFixedVector, InSpan, IsOutside, IsAllFixed}
use Rattle.definitions.specs.Programs.{Program, Bounds, HasRay, value_of}
use Rattle.definitions.specs.declared.Family.TheVariants.{Imputations}
use Rattle.definitions.specs.declared.Mode.TheVariants.{Span}
use Rattle.separation.specs.Stage.{earlier_of, settled_columns}
use Rattle.nested_programs.specs.Stage.{Stage, with_front, behind, program_of}
use Rattle.nested_programs.specs.Reading.{RowMultipliers, reached, IsReading, share_of, excess_of}
use Rattle.nested_programs.specs.Chain.{HasWeight, StageAnswer, Answers, levels_of, IsChain, after}
use Rattle.nested_programs.proofs.Reading.{earlier_rows, reading_of, of_reading}
use Rattle.nested_programs.proofs.Slack.{tight_optimal}
use Rattle.nested_programs.proofs.SettledNumbers.{IsSettled, is_settled, inside_same, all_same}
use Rattle.nested_programs.proofs.Advance.{Reads, restrict, settles_own_level, stage_value, right_value, any_left}
use Rattle.nested_programs.proofs.Advance.{any_cases, pair_at, BoundComes, single_family}
use Rattle.definitions.proofs.Cases.{less_or_last_of, or_cases, true_or_false}
use Rattle.definitions.proofs.Alls.{all_both, all_left, all_right, all_weaken, all_with}
use Rattle.simplex.proofs.Ends.{no_ray}

-- ---- the next stage's bounding multipliers

abbrev pub tabulate : ℕ → ℕ → (ℕ → ℤ) → List ℤ
tabulate from zero f = []
tabulate from (suc n) f = f from ∷ tabulate (suc from) n f

pub tabulate-at : (from n : ℕ) (f : ℕ → ℤ) (i : ℕ) → i < n
    → slice_index_or (tabulate from n f) i (pos 0) ≡ f (from + i)
tabulate-at from zero f i h = absurd (omega arith)
tabulate-at from (suc n) f zero h = let e : from + 0 ≡ from = omega arith in rw e refl
tabulate-at from (suc n) f (suc i) h =
    let e : from + suc i ≡ suc from + i = omega arith in
    rw e (tabulate-at (suc from) n f i (omega arith))

-- the multipliers of n players and k + 1 levels, and the last of them once more
abbrev pub extended : ℕ → ℕ → RowMultipliers → RowMultipliers
extended n k m = record {
  num =
      tabulate 0 (n + (k + 2))
      (λ r. if nat_lt r (n + (k + 1)) then slice_index_or m.num r (pos 0) else slice_index_or m.num (n + k) (pos 0));
  den = m.den;
}

extended-at : (n k : ℕ) (m : RowMultipliers) (r : ℕ) → r < n + (k + 1)
    → slice_index_or (extended n k m).num r (pos 0) ≡ slice_index_or m.num r (pos 0)
extended-at n k m r h =
    let t : nat_lt r (n + (k + 1)) ≡ true = grind (arith, nat_tests) in
    let e : 0 + r ≡ r = omega arith in
    tabulate-at 0 (n + (k + 2))
    (λ r. if nat_lt r (n + (k + 1)) then slice_index_or m.num r (pos 0) else slice_index_or m.num (n + k) (pos 0)) r
    (omega arith) ∙ rw e (rw t refl)

extended-last : (n k : ℕ) (m : RowMultipliers)
    → slice_index_or (extended n k m).num (n + (k + 1)) (pos 0) ≡ slice_index_or m.num (n + k) (pos 0)
extended-last n k m =
    let t : nat_lt (n + (k + 1)) (n + (k + 1)) ≡ false = grind (arith, nat_tests) in
    let e : 0 + (n + (k + 1)) ≡ n + (k + 1) = omega arith in
    tabulate-at 0 (n + (k + 2))
    (λ r. if nat_lt r (n + (k + 1)) then slice_index_or m.num r (pos 0) else slice_index_or m.num (n + k) (pos 0))
    (n + (k + 1)) (omega arith) ∙ rw e (rw t refl)

-- what is outside behind more levels is outside behind fewer
fixed_more : (n : ℕ) (xs ys : List Level) (s : ℕ) → IsFixedVector n xs s → IsFixedVector n (xs ++ ys) s
fixed_more n xs ys s (inl e) = inl e
fixed_more n xs ys s (inr (inl e)) = inr (inl (any_left (λ l. list_any (λ c. nat_eq c.0 s) l.coalitions) xs ys e))
fixed_more n xs ys s (inr (inr (i, h, e, b))) =
    inr (inr (i, h, e, any_left (λ l. list_any (λ b. nat_eq b.0 i && int_le (pos 1) b.1) l.bounds) xs ys b))

pub span_more : (n : ℕ) (xs ys : List Level) (s : ℕ) → InSpan n (IsFixedVector n xs) s
    → InSpan n (IsFixedVector n (xs ++ ys)) s
span_more n xs ys s (k, ne, ps, fixed, sums) = (
  k,
  ne,
  ps,
  all_weaken (λ p. IsFixedVector n xs p.0) (λ p. IsFixedVector n (xs ++ ys) p.0) ps
      (λ p h. fixed_more n xs ys p.0 h) fixed,
  sums,
)

pub outside_fewer : (n : ℕ) (xs ys : List Level) (s : ℕ) → IsOutside Span n (xs ++ ys) s → IsOutside Span n xs s
outside_fewer n xs ys s (low, high, apart) = (low, high, λ spanned. apart (span_more n xs ys s spanned))

-- the multipliers of an answer, extended for the next stage
abbrev next_multipliers : Stage → StageAnswer → RowMultipliers
next_multipliers q t = extended q.game.players (length q.front) t.multipliers

-- they bound the next stage
pub next_reading : (q : Stage) (t : StageAnswer) (outside : ℕ → Bool) → Answers q t
    → ((s : ℕ) → IsTrue (outside s) → IsOutside Span q.game.players (after q t).front s)
    → IsReading (after q t) outside (share_of (next_multipliers q t))
    (excess_of q.game.players (next_multipliers q t)) (next_multipliers q t).den
next_reading q t outside holds apart =
    let n : ℕ = q.game.players in
    let k : ℕ = length q.front in
    let m : RowMultipliers = t.multipliers in
    let m' : RowMultipliers = next_multipliers q t in
    let r = settles_own_level q t holds in
    let near = reading_of q t.outside m holds.optimal.1 in
    let long : length (q.front ++ t.level ∷ []) ≡ k + 1 = length-append q.front (t.level ∷ []) in
    let shares : (i : ℕ) → i < n → share_of m' i ≡ share_of m i = λ i h. extended-at n k m i (omega arith) in
    let excesses : (j : ℕ) → j < k + 1 → excess_of n m' j ≡ excess_of n m j =
    λ j h. extended-at n k m (n + j) (omega arith) in
    let last : excess_of n m' (length (q.front ++ t.level ∷ [])) ≡ excess_of n m k =
    ap (excess_of n m') long ∙ extended-last n k m in
    record {
      positive = r.positive;
      whole = sum_below-same n (share_of m') (share_of m) shares ∙ r.whole;
      settled =
          all_with (λ c. c.1 < 0 + length (q.front ++ t.level ∷ []))
          (λ c. m.den *ℤ q.game.worth c.0 ≡ reached q.measure n (share_of m) (excess_of n m) c.0 c.1)
          (λ c. m.den *ℤ q.game.worth c.0 ≡ reached q.measure n (share_of m') (excess_of n m') c.0 c.1)
          (earlier_of 0 (q.front ++ t.level ∷ [])) (λ c lt eq. omega (
            arith,
            linear,
            eq,
            sum_over-same n (share_of m') (share_of m) c.0 shares,
            ap (λ z. z *ℤ pos (divisor q.measure c.0)) (excesses c.1 (omega arith)),
          ))
          (earlier_rows 0 (q.front ++ t.level ∷ [])) r.settled;
      single = λ f i h. omega (arith, linear, r.single f i h, shares i h);
      bound = λ f i h b. shares i h ∙ r.bound f i h b;
      outer = λ s o. omega (
        arith,
        linear,
        near.outer s ((holds.decides s).1 (outside_fewer n q.front (t.level ∷ []) s (apart s o))),
        ap (λ z. z *ℤ pos (divisor q.measure s)) last,
        sum_over-same n (share_of m') (share_of m) s shares,
      );
    }

pub next_bounds : (q : Stage) (t : StageAnswer) (outside : ℕ → Bool) → Answers q t
    → ((s : ℕ) → IsTrue (outside s) → IsOutside Span q.game.players (after q t).front s)
    → Bounds (program_of (after q t) outside) (next_multipliers q t).num (next_multipliers q t).den
next_bounds q t outside holds apart =
    of_reading (after q t) outside (next_multipliers q t) (next_reading q t outside holds apart)

-- so the stage behind an optimal one has no endless ray
pub next_no_ray : (q : Stage) (t : StageAnswer) (outside : ℕ → Bool) → Answers q t
    → ((s : ℕ) → IsTrue (outside s) → IsOutside Span q.game.players (after q t).front s)
    → HasRay (program_of (after q t) outside) → ⊥
next_no_ray q t outside holds apart =
    no_ray (program_of (after q t) outside) (next_multipliers q t).num (next_multipliers q t).den
    (next_bounds q t outside holds apart)

-- ---- the optimum of a stage

same_ratio : (w d d' c e e' : ℤ) → pos 1 ≤ℤ w → d *ℤ c ≡ w *ℤ e → d' *ℤ c ≡ w *ℤ e' → e *ℤ d' ≡ e' *ℤ d
same_ratio w d d' c e e' one h h' =
    let a = simp ring_laws at (ap (λ z. z *ℤ d') h) in
    let b = simp ring_laws at (ap (λ z. z *ℤ d) h') in
    mul-cancelℤ w (e *ℤ d') (e' *ℤ d) (omega (arith, linear)) (simp ring_laws (omega (arith, linear)))

-- multipliers that settle the level of a stage have one excess there, the optimum
pub one_excess : (q : Stage) (t : StageAnswer) (m m' : RowMultipliers) → Answers q t → Reads (after q t) m
    → Reads (after q t) m'
    → excess_of q.game.players m (length q.front) *ℤ m'.den ≡ excess_of q.game.players m' (length q.front) *ℤ m.den
one_excess q t m m' holds r r' =
    same_ratio t.weight_den m.den m'.den (weighted_sum (program_of q t.outside).cost t.weights)
    (excess_of q.game.players m (length q.front)) (excess_of q.game.players m' (length q.front)) holds.optimal.0.1
    (stage_value q t m holds r) (stage_value q t m' holds r')

no_greater_optimum : (w d dk c e1 e0 f0 : ℤ) → pos 1 ≤ℤ w → pos 1 ≤ℤ d → pos 1 ≤ℤ dk → (dk *ℤ c) ≤ℤ (w *ℤ f0)
    → d *ℤ c ≡ w *ℤ e1 → e0 *ℤ dk ≡ f0 *ℤ d → e1 ≤ℤ e0
no_greater_optimum w d dk c e1 e0 f0 pw pd pk h hc he =
    let a = simp ring_laws at (mul-leℤ d (dk *ℤ c) (w *ℤ f0) (omega (arith, linear)) h) in
    let b = simp ring_laws at (ap (λ z. dk *ℤ z) hc) in
    let e = simp ring_laws at (ap (λ z. w *ℤ z) he) in
    mul-le_cancelℤ (dk *ℤ w) e1 e0 (mul-positiveℤ dk w (omega (arith, linear)) (omega (arith, linear)))
    (simp ring_laws (omega (arith, linear)))

-- the optima don't rise
pub optimum_falls : (q : Stage) (t t' : StageAnswer) (m : RowMultipliers) → Answers q t → Answers (after q t) t'
    → Reads (after (after q t) t') m
    → excess_of q.game.players m (length q.front + 1) ≤ℤ excess_of q.game.players m (length q.front)
optimum_falls q t t' m holds holds' r =
    let n : ℕ = q.game.players in
    let k : ℕ = length q.front in
    let next : Stage = after q t in
    let p : Program = program_of next t'.outside in
    let next_m : RowMultipliers = next_multipliers q t in
    let long : length next.front ≡ k + 1 = length-append q.front (t.level ∷ []) in
    let weak =
    weak_duality p next_m.num next_m.den t'.weights t'.weight_den
    (next_bounds q t t'.outside holds (λ s o. (holds'.decides s).0 o))
    holds'.optimal.0 in
    let right : value_of p next_m.num p.right ≡ excess_of n t.multipliers k =
    right_value next t'.outside next_m
    ∙ ap (excess_of n next_m) long ∙ extended-last n k t.multipliers in
    let value : m.den *ℤ weighted_sum p.cost t'.weights ≡ t'.weight_den *ℤ excess_of n m (k + 1) =
    cc (stage_value next t' m holds' r) in
    let same =
    one_excess q t m t.multipliers holds (restrict next (t'.level ∷ []) m r) (settles_own_level q t holds) in
    no_greater_optimum t'.weight_den m.den t.multipliers.den (weighted_sum p.cost t'.weights) (excess_of n m (k + 1))
    (excess_of n m k) (excess_of n t.multipliers k) holds'.optimal.0.1 r.positive holds.optimal.1.0
    (rw right at weak) value same

-- ---- what holds behind the levels in front

-- multipliers that settle the levels in front have the same excesses there, and only imputations have bounds
pub record Past (q : Stage) : Type 0 where
  pub same : (m m' : RowMultipliers) → Reads q m
      → Reads q m' → (k : ℕ) → k < length q.front
      → excess_of q.game.players m k *ℤ m'.den ≡ excess_of q.game.players m' k *ℤ m.den
  pub bounded : (i : ℕ) → IsTrue (has_bound q.front i) → q.family ≡ Imputations

pub past_none : (q : Stage) → Past (with_front q [])
past_none q =
    record { same = λ m m' r r' k h. absurd (omega arith); bounded = λ i h. absurd (false≢true h) }

new_family : (q : Stage) (ws bs : List (ℕ × ℤ))
    → ((i : ℕ) → i < q.game.players → HasWeight ws (length (settled_columns q.game.players q.front) + i)
    → q.family ≡ Imputations)
    → AllByRecursion (BoundComes q ws) bs → (i : ℕ)
    → list_any (λ b. nat_eq b.0 i && int_le (pos 1) b.1) bs ≡ true → q.family ≡ Imputations
new_family q ws [] single h i any = absurd (false≢true any)
new_family q ws (b ∷ bs) single h i any =
    elim h.0.1 [ inl fresh ↦ single b.0 h.0.0 fresh.1 | inr known ↦ known.0 ]

pub weighted_family : (q : Stage) (t : StageAnswer) → Answers q t → (i : ℕ) → i < q.game.players
    → HasWeight t.weights (length (settled_columns q.game.players q.front) + i) → q.family ≡ Imputations
weighted_family q t holds i h k =
    single_family q t.outside i h
    (tight_optimal (program_of q t.outside) t.weights t.weight_den t.multipliers.num t.multipliers.den
    holds.optimal (length (settled_columns q.game.players q.front) + i) k).0

pub past_more : (q : Stage) (t : StageAnswer) → Past q → Answers q t → Past (after q t)
past_more q t past holds =
    let test : ℕ → Level → Bool = λ i l. list_any (λ b. nat_eq b.0 i && int_le (pos 1) b.1) l.bounds in
    record {
      same = λ m m' r r' k h. elim
          (less_or_last_of k (length q.front) (rw (length-append q.front (t.level ∷ [])) at h)) [
            | inl less ↦ past.same m m' (restrict q (t.level ∷ []) m r)
                (restrict q (t.level ∷ []) m' r') k less
            | inr here ↦ rw here
                (one_excess q t m m' holds r r')
          ];
      bounded = λ i b. elim (any_cases (test i) q.front (t.level ∷ []) b) [
        | inl old ↦ past.bounded i old
        | inr new ↦ elim (or_cases (test i t.level) false new) [
          | inl here ↦ new_family q t.weights t.level.bounds
              (weighted_family q t holds) holds.follows.bounds i here
          | inr none ↦ absurd (false≢true none)
        ]
      ];
    }

-- ---- two readings of the same levels differ by nothing where the levels settle

listed_row : (P : ℕ × ℕ → Type 0) (k : ℕ) (levels : List Level) (s : ℕ) → AllByRecursion P (earlier_of k levels)
    → is_listed levels s ≡ true → (r : ℕ) × (r < k + length levels) × P (s, r)
listed_row P k [] s h any = absurd (false≢true any)
listed_row P k (l ∷ levels) s h any =
    elim (or_cases (list_any (λ c. nat_eq c.0 s) l.coalitions) (is_listed levels s) any) [
      | inl here ↦ (
        k,
        omega arith,
        pair_at P k l.coalitions s (all_left P (map (λ c. (c.0, k)) l.coalitions) (earlier_of (k + 1) levels) h)
            here,
      )
      | inr more ↦
          let found =
          listed_row P (k + 1) levels s
          (all_right P (map (λ c. (c.0, k)) l.coalitions) (earlier_of (k + 1) levels) h) more in
          (found.0, omega (arith, found.1), found.2)
    ]

abbrev pub gap : RowMultipliers → RowMultipliers → ℕ → ℤ
gap m m' i = m'.den *ℤ share_of m i -ℤ m.den *ℤ share_of m' i

gap_listed : (d d' v x x' e e' h : ℤ) → d *ℤ v ≡ x +ℤ e *ℤ h → d' *ℤ v ≡ x' +ℤ e' *ℤ h → e *ℤ d' ≡ e' *ℤ d
    → d' *ℤ x -ℤ d *ℤ x' ≡ pos 0
gap_listed d d' v x x' e e' h i i' k =
    let a = simp ring_laws at (ap (λ z. d' *ℤ z) i) in
    let b = simp ring_laws at (ap (λ z. d *ℤ z) i') in
    let f = simp ring_laws at (ap (λ z. z *ℤ h) k) in omega (arith, linear)

gap_equal : (d d' v x x' : ℤ) → x ≡ d *ℤ v → x' ≡ d' *ℤ v → d' *ℤ x -ℤ d *ℤ x' ≡ pos 0
gap_equal d d' v x x' h h' = simp (h, h', ring_laws) (omega (arith, linear))

pub gap_settled : (q : Stage) (m m' : RowMultipliers) → Past q → Reads q m → Reads q m'
    → IsSettled q.game.players (gap m m') q.front
gap_settled q m m' past r r' =
    is_settled n (gap m m') q.front listed (λ i h b. let f = past.bounded i b in
    gap_equal m.den m'.den (q.game.worth (singleton i)) (share_of m i) (share_of m' i) (r.bound f i h b)
    (r'.bound f i h b))
  where
    n : ℕ
    n = q.game.players

    -- the coalition and the row of its level, for both multipliers
    Both : ℕ × ℕ → Type 0
    Both c =
        (m.den *ℤ q.game.worth c.0 ≡ reached q.measure n (share_of m) (excess_of n m) c.0 c.1)
        × (m'.den *ℤ q.game.worth c.0 ≡ reached q.measure n (share_of m') (excess_of n m') c.0 c.1)

    both : AllByRecursion Both (earlier_of 0 q.front)
    both =
        all_both (λ c. m.den *ℤ q.game.worth c.0 ≡ reached q.measure n (share_of m) (excess_of n m) c.0 c.1)
        (λ c. m'.den *ℤ q.game.worth c.0 ≡ reached q.measure n (share_of m') (excess_of n m') c.0 c.1)
        (earlier_of 0 q.front) r.settled r'.settled

    listed : (s : ℕ) → IsTrue (is_listed q.front s) → sum_over n (gap m m') s ≡ pos 0
    listed s any =
        let found = listed_row Both 0 q.front s both any in
        sum_over-combined n (share_of m) (share_of m') m'.den m.den s
        ∙ gap_listed m.den m'.den (q.game.worth s) (sum_over n (share_of m) s) (sum_over n (share_of m') s)
        (excess_of n m found.0) (excess_of n m' found.0) (pos (divisor q.measure s)) found.2.0 found.2.1
        (past.same m m' r r' found.0 (omega (arith, found.1)))

gap_whole : (q : Stage) (m m' : RowMultipliers) → Reads q m → Reads q m'
    → sum_over q.game.players (gap m m') (grand_coalition q.game.players) ≡ pos 0
gap_whole q m m' r r' =
    sum_over-combined q.game.players (share_of m) (share_of m') m'.den m.den (grand_coalition q.game.players)
    ∙ gap_equal m.den m'.den (q.game.worth (grand_coalition q.game.players))
    (sum_over q.game.players (share_of m) (grand_coalition q.game.players))
    (sum_over q.game.players (share_of m') (grand_coalition q.game.players))
    (sum_over-grand_coalition q.game.players (share_of m) ∙ r.whole)
    (sum_over-grand_coalition q.game.players (share_of m') ∙ r'.whole)

-- ---- no coalition outside a level has more than its excess

enough_inside : (d dt v x xt e f h : ℤ) → pos 1 ≤ℤ d → pos 1 ≤ℤ dt → dt *ℤ x -ℤ d *ℤ xt ≡ pos 0 → e *ℤ dt ≡ f *ℤ d
    → (dt *ℤ v) ≤ℤ (xt +ℤ f *ℤ h) → (d *ℤ v) ≤ℤ (x +ℤ e *ℤ h)
enough_inside d dt v x xt e f h pd pt same value low =
    let a = simp ring_laws at (mul-leℤ d (dt *ℤ v) (xt +ℤ f *ℤ h) (omega (arith, linear)) low) in
    let b = simp ring_laws at (ap (λ z. z *ℤ h) value) in
    mul-le_cancelℤ dt (d *ℤ v) (x +ℤ e *ℤ h) (omega (arith, linear)) (simp ring_laws (omega (arith, linear)))

-- where the gap to the stage's own multipliers is nothing
inside_low : (q : Stage) (t : StageAnswer) (m : RowMultipliers) → Answers q t → Reads (after q t) m → (s : ℕ)
    → IsTrue (t.outside s) → sum_over q.game.players (gap m t.multipliers) s ≡ pos 0
    → (m.den *ℤ q.game.worth s)
    ≤ℤ reached q.measure q.game.players (share_of m) (excess_of q.game.players m) s (length q.front)
inside_low q t m holds r s o zero_gap =
    let own = reading_of q t.outside t.multipliers holds.optimal.1 in
    enough_inside m.den t.multipliers.den (q.game.worth s) (sum_over q.game.players (share_of m) s)
    (sum_over q.game.players (share_of t.multipliers) s) (excess_of q.game.players m (length q.front))
    (excess_of q.game.players t.multipliers (length q.front)) (pos (divisor q.measure s)) r.positive own.positive
    (sym (sum_over-combined q.game.players (share_of m) (share_of t.multipliers) t.multipliers.den m.den s)
    ∙ zero_gap)
    (one_excess q t m t.multipliers holds r (settles_own_level q t holds)) (own.outer s o)

pub outside_low : (q : Stage) (t : StageAnswer) (ts : List StageAnswer) (m : RowMultipliers) → Past q → Answers q t
    → IsChain (after q t) ts → Reads (behind (after q t) (levels_of ts)) m
    → IsAllFixed Span q.game.players ((q.front ++ t.level ∷ []) ++ levels_of ts) → (s : ℕ) → IsTrue (t.outside s)
    → (m.den *ℤ q.game.worth s)
    ≤ℤ reached q.measure q.game.players (share_of m) (excess_of q.game.players m) s (length q.front)
outside_low q t [] m past holds chain r fixed s o =
    let next : Stage = after q t in
    let near = restrict next [] m r in
    let own = settles_own_level q t holds in
    let settled =
    gap_settled next m t.multipliers (past_more q t past holds) near own in
    let whole = gap_whole next m t.multipliers near own in
    let zeros =
    all_same q.game.players (gap m t.multipliers) next.front settled whole (rw (append-nil next.front) at fixed) in
    inside_low q t m holds near s o
    (sum_below-zero q.game.players (λ i. if has_player s i then gap m t.multipliers i else pos 0)
    (λ i h. zero_either (has_player s i) (gap m t.multipliers i) (zeros i h)))
outside_low q t (t' ∷ ts) m past holds chain r fixed s o =
    let next : Stage = after q t in
    let near = restrict next (t'.level ∷ levels_of ts) m r in
    let own = settles_own_level q t holds in
    let past' = past_more q t past holds in
    let shift : (next.front ++ t'.level ∷ []) ++ levels_of ts ≡ next.front ++ t'.level ∷ levels_of ts =
    append_assoc next.front (t'.level ∷ []) (levels_of ts) in
    let r' = subst (λ ls. Reads (with_front q ls) m) (sym shift) r in
    let fixed' = subst (IsAllFixed Span q.game.players) (sym shift) fixed in
    elim (true_or_false (t'.outside s)) [
      | inl still ↦
          let ih = outside_low next t' ts m past' chain.0 chain.1 r' fixed' s still in
          let low =
          optimum_falls q t t' m holds chain.0 (restrict (after next t') (levels_of ts) m r') in
          let d : ℤ = pos (divisor q.measure s) in
          let here = ap (λ (k : ℕ). excess_of q.game.players m k *ℤ d) (length-append q.front (t.level ∷ [])) in
          let less =
          mul-leℤ d (excess_of q.game.players m (length q.front + 1)) (excess_of q.game.players m (length q.front))
          (omega (arith, linear)) low in
          omega (
            arith,
            linear,
            *ℤ_comm d (excess_of q.game.players m (length q.front + 1)),
            *ℤ_comm d
                (excess_of q.game.players m (length q.front)),
          )
      | inr gone ↦
          let was = (holds.decides s).0 o in
          let settled = gap_settled next m t.multipliers past' near own in
          let whole = gap_whole next m t.multipliers near own in
          inside_low q t m holds near s o
          (inside_same q.game.players (gap m t.multipliers) next.front settled whole s was.0 was.1
          (λ out. false≢true (sym gone ∙ (chain.0.decides s).1 out)))
    ]

-- ---- the same, behind any further levels

pub excess_optimum : (q : Stage) (t : StageAnswer) (rest : List Level) (m : RowMultipliers) → Answers q t
    → Reads (behind (after q t) rest) m
    → excess_of q.game.players m (length q.front) *ℤ t.multipliers.den
    ≡ excess_of q.game.players t.multipliers (length q.front) *ℤ m.den
excess_optimum q t rest m holds r =
    one_excess q t m t.multipliers holds (restrict (after q t) rest m r) (settles_own_level q t holds)
