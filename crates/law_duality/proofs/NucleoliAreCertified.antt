-- Every nucleolus has a certificate (Kohlberg 1971; Sobolev 1975): level by level, the coalitions of the greatest
-- excess among those that the levels in front don't fix have weights that balance, since otherwise a transfer would
-- gain.
--
-- If such weights don't exist, a transfer between players gives each coalition of the greatest excess more, leaves what
-- is listed as it is, and takes from no player that gets exactly its worth alone (Directions.antt). A small part of it
-- makes a member that comes first (NoGain.antt), so it can't be. Each level has a coalition that wasn't in the span
-- (Reductions.antt), so there are fewer levels than players. Weights are whole numbers of any size.
use Rattle.std.proofs.Common.{◌≡◌, ◌⊎◌, ℕ, zero, suc, ◌-◌, ◌^◌, ◌<◌, ◌≤◌, Bool, true, false, cond, ◌&&◌, ◌||◌, nat_eq}
use Rattle.std.proofs.Common.{List, [], ◌∷◌, ◌++◌, length, ℤ, pos, ◌+ℤ◌, ◌*ℤ◌, ◌≤ℤ◌, int_le, int_lt, IsTrue, refl, sym}
use Rattle.std.proofs.Common.{ap, subst, ◌∙◌, inl, inr, arith, if◌then◌else◌}
use Rattle.std.specs.List.{AllByRecursion}
use Rattle.std.proofs.lemmas.Bool.{false≢true}
use Rattle.std.proofs.lemmas.Int.{by_lt_z, ints}
use Rattle.definitions.proofs.Ring.{linear, mul-leℤ, one-mulℤ, unit_laws}
use Rattle.definitions.proofs.Members.{sum_below-same, sum_below-times, sum_over-grand_coalition, sum_over-singleton}
use Rattle.definitions.proofs.Members.{weighted_sum-sum_over, has_player-grand_coalition, weighted_sum-zero_terms}
use Rattle.definitions.proofs.Members.{scaled_either}
use Rattle.definitions.proofs.Masks.{grand_coalition-within, singleton-within, proper_or_all}
use Rattle.definitions.proofs.Measured.{measured_den-above}
use Rattle.definitions.proofs.Families.{allocation_of}
use Rattle.definitions.proofs.Cancel.{cancel}
use Rattle.definitions.proofs.Cases.{less_or_last, true_or_false, or_cases, and_parts, and_both, neither}
use Rattle.definitions.specs.Coalitions.{has_player, singleton, grand_coalition, sum_over, weight_at}
use Rattle.definitions.specs.Measures.{measured_den, IsMeasurable}
use Rattle.definitions.specs.Games.{Game, Allocation, share, measured_excess, IsNucleolus}
use Rattle.definitions.specs.Certificates.{Level, is_listed, has_bound, IsFixedVector, InSpan, IsOutside, HasExcess}
use Rattle.definitions.specs.Certificates.{BoundWeighs, LevelHolds, LevelsHold, Certifies}
use Rattle.definitions.specs.declared.Family.{Family}
use Rattle.definitions.specs.declared.Family.TheVariants.{Imputations}
use Rattle.definitions.specs.declared.Measure.{Measure}
use Rattle.definitions.specs.declared.Mode.TheVariants.{Span}
use Rattle.theorems.proofs.Certified.{to_int_le}
use Rattle.theorems.proofs.Transfers.{some_greatest}
use Rattle.law_duality.specs.Kohlberg.{LevelShape, LevelsShape, HasShape}
use Rattle.law_duality.proofs.Levels.{upto, upto_member}
use Rattle.law_duality.proofs.Reductions.{Reduces, Pivot, spanned_or_pivot, reduces_more}
use Rattle.law_duality.proofs.Chosen.{chosen, chosen_ascends, chosen_all, chosen_weight, chosen_number, chosen_any}
use Rattle.law_duality.proofs.Chosen.{some_any, any_key, any_weighty}
use Rattle.law_duality.proofs.LevelTests.{last_any, front_any, new_any, lists, bounds_player}
use Rattle.law_duality.proofs.Directions.{Direction, Balance, direction_or_balance}
use Rattle.law_duality.proofs.NoGain.{at_bound, at_bound-tight, no_gain}
use Rattle.theorems.proofs.Products.{products, sorted_products}

-- ---- sums and tests

abbrev is_second : {A B : Type 0} → A ⊎ B → Bool
is_second (inl a) = false
is_second (inr b) = true

first_of_two : {A B : Type 0} (r : A ⊎ B) → is_second r ≡ false → A
first_of_two (inl a) e = a
first_of_two (inr b) e = absurd (false≢true (sym e))

second_of_two : {A B : Type 0} (r : A ⊎ B) → is_second r ≡ true → B
second_of_two (inl a) e = absurd (false≢true e)
second_of_two (inr b) e = b

-- ---- what is fixed stays fixed, and a transfer that leaves the fixed ones as they are leaves their span

wider : (n : ℕ) (front : List Level) (l : Level) (s : ℕ) → IsFixedVector n front s
    → IsFixedVector n (front ++ l ∷ []) s
wider n front l s h = grind (arith, bounds_player, front_any, lists)

spanned_itself : (n : ℕ) (Fixed : ℕ → Type 0) (s : ℕ) → Fixed s → InSpan n Fixed s
spanned_itself n Fixed s fixed = (
  pos 1,
  (λ e. omega (arith, linear, e)),
  (s, pos 1) ∷ [],
  (fixed, tt),
  λ i lt. simp unit_laws,
)

all_zero : (Fixed : ℕ → Type 0) (f : ℕ → ℤ) → ((s : ℕ) → Fixed s → f s ≡ pos 0) → (ps : List (ℕ × ℤ))
    → AllByRecursion (λ p. Fixed p.0) ps → AllByRecursion (λ p. f p.0 ≡ pos 0) ps
all_zero Fixed f zero_at [] h = tt
all_zero Fixed f zero_at (p ∷ ps) h = (zero_at p.0 h.0, all_zero Fixed f zero_at ps h.1)

spanned_zero : (n : ℕ) (Fixed : ℕ → Type 0) (z : ℕ → ℤ) → ((s : ℕ) → Fixed s → sum_over n z s ≡ pos 0) → (s : ℕ)
    → InSpan n Fixed s → sum_over n z s ≡ pos 0
spanned_zero n Fixed z zero_at s span =
    let m = span.0 in
    let ps = span.2 in
    let none = weighted_sum-zero_terms (sum_over n z) ps (all_zero Fixed (sum_over n z) zero_at ps span.3) in
    let sums = weighted_sum-sum_over n z ps in
    let same = sum_below-same n (λ i. weight_at ps i *ℤ z i) (λ i. m *ℤ (if has_player s i then z i else pos 0))
    (λ i lt. ap (λ (t : ℤ). t *ℤ z i) (span.4 i lt) ∙ scaled_either (has_player s i) m (z i)) in
    let times = sum_below-times n (λ i. if has_player s i then z i else pos 0) m in
    cancel m (sum_over n z s) (pos 0) span.1 (omega (products, none, sums, same, times))

-- ---- the levels of a nucleolus

module _ (family : Family) (measure : Measure) (g : Game) (m : IsMeasurable measure g.players) (x : Allocation)
    (h : IsNucleolus family measure g x) where
  abbrev n : ℕ
  n = g.players

  abbrev count : ℕ
  count = 2 ^ n - 2

  abbrev me : ℕ → ℤ
  me s = measured_excess measure g x s

  -- player i gets its worth alone, and is an imputation's
  abbrev AtWorth : ℕ → Type 0
  AtWorth i = (share x i ≡ x.den *ℤ g.worth (singleton i)) × (family ≡ Imputations)

  -- behind these levels, the players of js are still to be fixed
  record Stage (front : List Level) (js : List ℕ) : Type 0 where
    pub reduces : Reduces n (IsFixedVector n front) js
    pub proper : (s : ℕ) → is_listed front s ≡ true → (0 < s) × (s < grand_coalition n)
    pub tight : (i : ℕ) → has_bound front i ≡ true → AtWorth i

  -- levels to follow, at most k
  record Finished (front : List Level) (k : ℕ) : Type 0 where
    pub levels : List Level
    pub few : length levels ≤ k
    pub shape : LevelsShape n front levels
    pub holds : LevelsHold Span family measure g x front levels

  -- where the levels span each proper coalition, all is fixed
  finished : (front : List Level) (k : ℕ) → ((t : ℕ) → t < count → InSpan n (IsFixedVector n front) (suc t))
      → Finished front k
  finished front k all = record {
    levels = [];
    few = omega arith;
    shape = tt;
    holds = λ i lt. elim (proper_or_all n (singleton i) (singleton-within n i lt)) [
      | inl less ↦
          (let some = grand_coalition-within i in
          let back : suc (singleton i - 1) ≡ singleton i = omega (arith, some) in
          subst (InSpan n (IsFixedVector n front)) back (all (singleton i - 1) (omega (arith, some, less))))
      | inr same ↦ spanned_itself n (IsFixedVector n front) (singleton i) (inl same)
    ];
  }

  -- the coalition suc t isn't spanned
  abbrev out : (front : List Level) (js : List ℕ) → Stage front js → ℕ → Bool
  out front js s t = is_second (spanned_or_pivot n (IsFixedVector n front) js s.reduces (suc t))

  in_span : (front : List Level) (js : List ℕ) (s : Stage front js) (t : ℕ) → out front js s t ≡ false
      → InSpan n (IsFixedVector n front) (suc t)
  in_span front js s t e = first_of_two (spanned_or_pivot n (IsFixedVector n front) js s.reduces (suc t)) e

  pivot_at : (front : List Level) (js : List ℕ) (s : Stage front js) (t : ℕ) → out front js s t ≡ true
      → Pivot n (IsFixedVector n front) js (suc t)
  pivot_at front js s t e = second_of_two (spanned_or_pivot n (IsFixedVector n front) js s.reduces (suc t)) e

  -- one level: the greatest excess e among the coalitions that aren't spanned
  module _ (front : List Level) (js : List ℕ) (s : Stage front js) (e : ℤ)
      (high : (t : ℕ) → t < count → out front js s t ≡ true → me (suc t) ≤ℤ e) where
    abbrev riser : ℕ → Bool
    riser t = out front js s t && int_le e (me (suc t))

    abbrev still : ℕ → Bool
    still t = is_listed front (suc t)

    abbrev low : ℕ → Bool
    low i = at_bound family g x i

    abbrev fixed : ℕ → Bool
    fixed i = has_bound front i

    riser_out : (t : ℕ) → riser t ≡ true → out front js s t ≡ true
    riser_out t r = (and_parts (out front js s t) (int_le e (me (suc t))) r).0

    riser_excess : (t : ℕ) → t < count → riser t ≡ true → me (suc t) ≡ e
    riser_excess t lt r =
        let both = and_parts (out front js s t) (int_le e (me (suc t))) r in
        omega (arith, linear, ints, high t lt both.0, both.1)

    to_riser : (t : ℕ) → out front js s t ≡ true → e ≤ℤ me (suc t) → riser t ≡ true
    to_riser t o le = and_both (out front js s t) (int_le e (me (suc t))) o (to_int_le e (me (suc t)) le)

    -- no transfer leaves the fixed ones as they are and raises each riser
    no_direction : (d : ℕ) → d < count → out front js s d ≡ true → me (suc d) ≡ e
        → Direction n count riser still low fixed → ⊥
    no_direction d lt o is dir =
        no_gain family measure g m x h dir.gain dir.total dir.lows e d lt is
        (dir.risers d lt (to_riser d o (omega (arith, linear, is))))
        (λ t less. elim (true_or_false (out front js s t)) [
          | inr inside ↦ inl
              (spanned_zero n (IsFixedVector n front) dir.gain fixed_zero (suc t) (in_span front js s t inside))
          | inl outside ↦ inr
              (by_lt_z (me (suc t)) e (λ lower. inr lower)
              (λ le. inl (high t less outside, dir.risers t less (to_riser t outside le))))
        ])
      where
        listed_zero : (q : ℕ) → is_listed front q ≡ true → sum_over n dir.gain q ≡ pos 0
        listed_zero zero listed = absurd (let p = (s.proper 0 listed).0 in omega (arith, p))
        listed_zero (suc t) listed =
            dir.stills t (let p = (s.proper (suc t) listed).1 in omega (arith, p)) listed

        fixed_zero : (q : ℕ) → IsFixedVector n front q → sum_over n dir.gain q ≡ pos 0
        fixed_zero q (inl all) = ap (sum_over n dir.gain) all ∙ sum_over-grand_coalition n dir.gain ∙ dir.total
        fixed_zero q (inr (inl listed)) = listed_zero q listed
        fixed_zero q (inr (inr b)) =
            ap (sum_over n dir.gain) b.2 ∙ sum_over-singleton n b.0 dir.gain b.1 ∙ dir.fixeds b.0 b.1 b.3

    -- ---- the weights that balance are those of a level

    abbrev Weights : Type 0
    Weights = Balance n count riser still low fixed

    abbrev weighs : Weights → ℕ → Bool
    weighs b t = int_lt (pos 0) (b.weights t)

    abbrev binds : Weights → ℕ → Bool
    binds b i = int_lt (pos 0) (b.bounds i) || fixed i

    abbrev level : Weights → Level
    level b = record {
      excess_num = e;
      excess_den = measured_den measure x.den;
      coalitions = chosen suc (weighs b) b.weights 0 count;
      earlier = chosen suc still b.others 0 count;
      bounds = chosen (λ i. i) (binds b) b.bounds 0 n;
      total = b.total;
    }

    no_weight : (b : Weights) (t : ℕ) → weighs b t ≡ false → b.weights t ≡ pos 0
    no_weight b t f = (let p = b.positive t in omega (arith, linear, ints, f, p))

    riser_of : (b : Weights) (t : ℕ) → weighs b t ≡ true → riser t ≡ true
    riser_of b t f = elim (true_or_false (riser t)) [
      | inl r ↦ r
      | inr off ↦ absurd (let none = b.on_risers t off in omega (arith, linear, ints, f, none))
    ]

    no_bound : (b : Weights) (i : ℕ) → binds b i ≡ false → b.bounds i ≡ pos 0
    no_bound b i f =
        let both = neither (int_lt (pos 0) (b.bounds i)) (fixed i) f in
        omega (arith, linear, ints, b.bounds_positive i both.1, both.0)

    bound_tight : (b : Weights) (i : ℕ) → i < n → binds b i ≡ true → AtWorth i
    bound_tight b i lt f = elim (or_cases (int_lt (pos 0) (b.bounds i)) (fixed i) f) [
      | inr earlier ↦ s.tight i earlier
      | inl some ↦ elim (true_or_false (low i || fixed i)) [
        | inr off ↦ absurd (let none = b.on_bounds i off in omega (arith, linear, ints, some, none))
        | inl on ↦ elim (or_cases (low i) (fixed i) on) [
          | inl bound ↦ at_bound-tight family g x i h.0 lt bound
          | inr earlier ↦ s.tight i earlier
        ]
      ]
    ]

    weighs_one : (b : Weights) → weighs b b.one ≡ true
    weighs_one b = is_lt (b.weights b.one) b.weighs
      where
        is_lt : (a : ℤ) → pos 1 ≤ℤ a → int_lt (pos 0) a ≡ true
        is_lt a le = grind (arith, ints)

    -- a coalition of the level that the levels in front don't span
    lists_one : (b : Weights) → lists (suc b.one) (level b) ≡ true
    lists_one b =
        chosen_any suc (weighs b) b.weights 0 count b.one (omega arith) (omega (arith, b.within))
        (weighs_one b)

    all_proper : (b : Weights) → AllByRecursion (λ c. (0 < c.0) × (c.0 < grand_coalition n)) (level b).coalitions
    all_proper b =
        chosen_all (λ c. (0 < c.0) × (c.0 < grand_coalition n)) suc (weighs b) b.weights 0 count
        (λ t lt f. (omega arith, omega arith))

    all_tight : (b : Weights) → AllByRecursion (λ c. AtWorth c.0) (level b).bounds
    all_tight b =
        chosen_all (λ c. AtWorth c.0) (λ i. i) (binds b) b.bounds 0 n
        (λ i lt f. bound_tight b i (omega arith) f)

    shape_of : (b : Weights) → LevelShape n front (level b)
    shape_of b = record {
      fraction =
          (let p = measured_den-above measure x.den (allocation_of family g x h.0).1 in omega (arith, linear, p));
      some = some_any (λ c. nat_eq c.0 (suc b.one)) (level b).coalitions (lists_one b);
      proper = all_proper b;
      listed = chosen_all (λ c. IsTrue (is_listed front c.0)) suc still b.others 0 count (λ t lt f. f);
      players = chosen_all (λ c. c.0 < n) (λ i. i) (binds b) b.bounds 0 n (λ i lt f. omega arith);
      ascend = chosen_ascends suc (weighs b) b.weights (λ t. omega arith) 0 0 count (omega arith);
      earlier_ascend = chosen_ascends suc still b.others (λ t. omega arith) 0 0 count (omega arith);
      bounds_ascend = chosen_ascends (λ i. i) (binds b) b.bounds (λ t. omega arith) 0 0 n (omega arith);
    }

    outside_low : (q : ℕ) → IsOutside Span n front q
        → (me q *ℤ measured_den measure x.den) ≤ℤ (e *ℤ measured_den measure x.den)
    outside_low zero o = absurd (omega (arith, o.0))
    outside_low (suc t) o = elim (true_or_false (out front js s t)) [
      | inr inside ↦ absurd (o.2 (in_span front js s t inside))
      | inl outside ↦
          (let top = high t (omega (arith, o.1)) outside in
          let d = measured_den measure x.den in
          let p = measured_den-above measure x.den (allocation_of family g x h.0).1 in
          times_le d (me (suc t)) e (omega (arith, linear, p)) top)
    ]
      where
        times_le : (d a b : ℤ) → pos 0 ≤ℤ d → a ≤ℤ b → (a *ℤ d) ≤ℤ (b *ℤ d)
        times_le d a b low le = (let p = mul-leℤ d a b low le in omega (sorted_products, p))

    holds_of : (b : Weights) → LevelHolds Span family measure g x front (level b)
    holds_of b = record {
      excesses = chosen_all (λ c. HasExcess measure g x (level b) c.0) suc (weighs b) b.weights 0 count
          (λ t lt f. ap (λ (z : ℤ). z *ℤ measured_den measure x.den)
          (riser_excess t (omega arith) (riser_of b t f)));
      weights = chosen_all (λ c. pos 1 ≤ℤ c.1) suc (weighs b) b.weights 0 count
          (λ t lt f. omega (arith, linear, ints, f));
      bound_weights = chosen_all (BoundWeighs front) (λ i. i) (binds b) b.bounds 0 n
          (λ i lt f. elim (or_cases (int_lt (pos 0) (b.bounds i)) (fixed i) f) [
            | inl some ↦ inl (omega (arith, linear, ints, some))
            | inr earlier ↦ inr earlier
          ]);
      balanced = λ i lt. omega (
        products,
        chosen_weight suc (weighs b) b.weights count i (no_weight b),
        chosen_weight suc still b.others count i b.on_still,
        chosen_number (binds b) b.bounds n i lt (no_bound b),
        b.balanced i lt,
      );
      tight = all_tight b;
      outside = λ q within o. outside_low q o;
    }

    -- the levels with this one, and one player less to be fixed
    next_pivot : (b : Weights) → Pivot n (IsFixedVector n front) js (suc b.one)
    next_pivot b = pivot_at front js s b.one (riser_out b.one (riser_of b b.one (weighs_one b)))

    next_stage : (b : Weights) → Stage (front ++ level b ∷ []) (next_pivot b).choice.rest
    next_stage b = record {
      reduces = reduces_more n (IsFixedVector n front) (IsFixedVector n (front ++ level b ∷ [])) js
          (wider n front (level b)) (suc b.one)
          (inr (inl (new_any (lists (suc b.one)) front (level b) (lists_one b)))) (next_pivot b) s.reduces;
      proper = λ q listed. elim (last_any (lists q) front (level b) listed) [
        | inl before ↦ s.proper q before
        | inr now ↦ any_key (λ t. (0 < t) × (t < grand_coalition n)) (level b).coalitions q (all_proper b) now
      ];
      tight = λ i bound. elim (last_any (bounds_player i) front (level b) bound) [
        | inl before ↦ s.tight i before
        | inr now ↦ any_weighty AtWorth (level b).bounds i (all_tight b) now
      ];
    }

  -- ---- all levels

  -- a level, and what is to be fixed behind it
  record Next (front : List Level) (js : List ℕ) : Type 0 where
    pub level_here : Level
    pub shape : LevelShape n front level_here
    pub holds : LevelHolds Span family measure g x front level_here
    pub rest : List ℕ
    pub fewer : suc (length rest) ≡ length js
    pub stage : Stage (front ++ level_here ∷ []) rest

  next_level : (front : List Level) (js : List ℕ) → Stage front js
      → ((t : ℕ) → t < count → InSpan n (IsFixedVector n front) (suc t)) ⊎ Next front js
  next_level front js s = elim (some_greatest (out front js s) (λ t. me (suc t)) count) [
    | inl none ↦ inl (λ t lt. in_span front js s t (none t lt))
    | inr found ↦
        let e = found.0 in
        let greatest = found.1 in
        let high : (t : ℕ) → t < count → out front js s t ≡ true → me (suc t) ≤ℤ e = λ t lt o. greatest.1 t (lt, o) in
        elim
        (direction_or_balance n count (riser front js s e high) (still front js s e high) (low front js s e high)
        (fixed front js s e high)) [
          | inl dir ↦ absurd
              (no_direction front js s e high greatest.0.0 greatest.0.1.0 greatest.0.1.1 (sym greatest.0.2) dir)
          | inr b ↦ inr (record {
            level_here = level front js s e high b;
            shape = shape_of front js s e high b;
            holds = holds_of front js s e high b;
            rest = (next_pivot front js s e high b).choice.rest;
            fewer = (next_pivot front js s e high b).choice.fewer;
            stage = next_stage front js s e high b;
          })
        ]
  ]

  build : (k : ℕ) (front : List Level) (js : List ℕ) → length js ≡ k → Stage front js → Finished front k
  build zero front js few s = elim (next_level front js s) [
    | inl all ↦ finished front zero all
    | inr r ↦ absurd (omega (arith, few, r.fewer))
  ]
  build (suc k) front js few s = elim (next_level front js s) [
    | inl all ↦ finished front (suc k) all
    | inr r ↦
        let f = build k (front ++ r.level_here ∷ []) r.rest (omega (arith, few, r.fewer)) r.stage in
        record {
          levels = r.level_here ∷ f.levels;
          few = omega (arith, f.few);
          shape = (r.shape, f.shape);
          holds = (r.holds, f.holds);
        }
  ]

  -- in front of all levels the coalition of all fixes the last player
  first_stage : (k : ℕ) → n ≡ suc k → Stage [] (upto k)
  first_stage k e = record {
    reduces = λ w. record {
      factor = pos 1;
      apart = λ z. omega (arith, linear, z);
      pairs = (grand_coalition n, w k) ∷ [];
      fixed = (inl refl, tt);
      same = λ i lt. elim (less_or_last i k (omega (arith, e))) [
        | inl less ↦ inl (upto_member k i less)
        | inr last ↦ inr
            (weight_of_one_pair (has_player (grand_coalition n) i) (w k) (w i) (has_player-grand_coalition n i lt)
            (ap w (sym last)))
      ];
    };
    proper = λ q listed. absurd (false≢true listed);
    tight = λ i bound. absurd (false≢true bound);
  }
    where
      weight_of_one_pair : (b : Bool) (u v : ℤ) → b ≡ true → u ≡ v → cond b u (pos 0) +ℤ pos 0 ≡ pos 1 *ℤ v
      weight_of_one_pair b u v is same = grind (arith, linear, one-mulℤ)

  certified : (c : ℕ) → n ≡ c → (levels : List Level) × HasShape n levels × Certifies Span family measure g x levels
  certified zero e = (
    [],
    record { few = omega arith; each = tt },
    (h.0, λ i lt. absurd (omega (arith, e))),
  )
  certified (suc k) e =
      let f = build (length (upto k)) [] (upto k) refl (first_stage k e) in (
        f.levels,
        record { few = (omega (arith, f.few, e, upto_length k)); each = f.shape },
        (h.0, f.holds),
      )
    where
      upto_length : (k : ℕ) → length (upto k) ≡ k
      upto_length zero = refl
      upto_length (suc k) = ap suc (upto_length k)

pub nucleoli_are_certified : (family : Family) (measure : Measure) (g : Game) (x : Allocation)
    → IsMeasurable measure g.players → IsNucleolus family measure g x
    → (levels : List Level) × HasShape g.players levels × Certifies Span family measure g x levels
nucleoli_are_certified family measure g x m h = certified family measure g m x h g.players refl
