-- From an optimal stage to the reading behind its level, and the value of later multipliers at an earlier stage.
use Rattle.std.proofs.Common.{◌≡◌, ◌⊎◌, ℕ, suc, ◌+◌, ◌-◌, ◌<◌, Bool, true, false}
use Rattle.std.proofs.Common.{◌&&◌, IsTrue, List, [], ◌∷◌, ◌++◌, length, map, ℤ, pos}
use Rattle.std.proofs.Common.{◌-ℤ◌, ◌*ℤ◌, ◌≤ℤ◌, refl, sym, ap, subst, ◌∙◌, inl, inr}
use Rattle.std.proofs.Common.{arith, nat_eq, nat_lt, int_le, if◌then◌else◌, slice_index_or}
use Rattle.std.proofs.lemmas.Bool.{false≢true}
use Rattle.std.proofs.lemmas.List.{append_assoc}
use Rattle.std.proofs.lemmas.List.Folds.{list_any-append}
use Rattle.std.proofs.lemmas.Bool.Decides.{nat_tests}
use Rattle.std.specs.List.{list_any, AllByRecursion}
use Rattle.definitions.proofs.Ring.{linear, mul-zeroℤ, mul-oneℤ, mul-subℤ}
use Rattle.definitions.proofs.Members.{sum_below-zero}
use Rattle.definitions.specs.Sums.{sum_below, weighted_sum}
use Rattle.definitions.specs.Coalitions.{singleton, grand_coalition}
use Rattle.definitions.specs.Measures.{divisor}
use Rattle.definitions.specs.Games.{Game}
use Rattle.definitions.specs.Certificates.{Level, has_bound}
use Rattle.definitions.specs.Programs.{value_of}
use Rattle.definitions.specs.declared.Measure.{Measure}
use Rattle.definitions.specs.declared.Family.TheVariants.{Imputations}
use Rattle.separation.specs.Stage.{SignedVector, signed, earlier_of, doubled, settled_columns, further_column}
use Rattle.separation.specs.Stage.{no_column, column, is_imputations, is_further}
use Rattle.nested_programs.specs.Stage.{Stage, behind, program_of}
use Rattle.nested_programs.specs.Reading.{RowMultipliers, reached, IsReading, share_of, excess_of, nowhere}
use Rattle.nested_programs.specs.Chain.{single_id, outer_id, HasWeight, StageAnswer, Answers, after}
use Rattle.nested_programs.proofs.Reading.{plus_value, column_value, column_value-is, Fixes, within_row}
use Rattle.nested_programs.proofs.Reading.{imputations_of, single_value, whole_value, of_settled, reading_of}
use Rattle.nested_programs.proofs.Slack.{rise, tight_optimal, tight_value}
use Rattle.definitions.proofs.Cases.{or_cases, or_left, or_right, true_or_false, and_left, and_right}
use Rattle.definitions.proofs.Alls.{all_at, all_left, all_right, all_join}
use Rattle.definitions.proofs.Cancel.{gap_of}

-- ---- the right side

last_value : (q : ℕ) (y : ℕ → ℤ) → sum_below (suc q) (λ r. y r *ℤ (if nat_eq r q then pos 1 else pos 0)) ≡ y q
last_value q y =
    let t : nat_eq q q ≡ true = grind (arith, nat_tests) in
    let rest =
    sum_below-zero q (λ r. y r *ℤ (if nat_eq r q then pos 1 else pos 0))
    (λ r h. let u : nat_eq r q ≡ false = grind (arith, nat_tests) in rw u (mul-zeroℤ (y r))) in
    rw t (omega (arith, linear, rest, mul-oneℤ (y q)))

pub right_value : (q : Stage) (outside : ℕ → Bool) (m : RowMultipliers)
    → value_of (program_of q outside) m.num (program_of q outside).right
    ≡ excess_of q.game.players m (length q.front)
right_value q outside m =
    let e : q.game.players + (length q.front + 1) ≡ suc (q.game.players + length q.front) = omega arith in
    rw e (last_value (q.game.players + length q.front) (λ r. slice_index_or m.num r (pos 0)))

-- ---- the columns past the settled ones

pub column_further : (n : ℕ) (front : List Level) (i : ℕ)
    → column n front (length (settled_columns n front) + i) ≡ further_column n (length front) i
column_further n front i =
    let len : ℕ = length (settled_columns n front) in
    let t : nat_lt (len + i) len ≡ false = grind (arith, nat_tests) in
    let v : len + i - len ≡ i = omega arith in
    rw t (rw v refl)

pub column_outer : (n : ℕ) (front : List Level) (s : ℕ)
    → column n front (outer_id n front s) ≡ record { mask = s; row = length front; minus = false }
column_outer n front s = column_further n front (n + n + s) ∙ further_is
  where
    further_is : further_column n (length front) (n + n + s) ≡ record { mask = s; row = length front; minus = false }
    further_is =
        let t : nat_lt (n + n + s) n ≡ false = grind (arith, nat_tests) in
        let u : nat_lt (n + n + s) (n + n) ≡ false = grind (arith, nat_tests) in
        let v : n + n + s - (n + n) ≡ s = omega arith in
        rw t (rw u (rw v refl))

pub column_single : (n : ℕ) (front : List Level) (i : ℕ) → i < n
    → column n front (single_id n front i) ≡ record { mask = singleton i; row = length front + 1; minus = false }
column_single n front i h = column_further n front i ∙ further_is
  where
    further_is : further_column n (length front) i
        ≡ record { mask = singleton i; row = length front + 1; minus = false }
    further_is = let t : nat_lt i n ≡ true = grind (arith, nat_tests) in rw t refl

-- a column's rise, by what the column is
abbrev pub column_rise : Measure → Game → ℕ → (ℕ → ℤ) → (ℕ → ℤ) → ℤ → SignedVector → ℤ
column_rise measure g j x e den c = den *ℤ signed c.minus (g.worth c.mask) -ℤ column_value measure g.players j x e c

pub rise_at : (q : Stage) (outside : ℕ → Bool) (m : RowMultipliers) (id : ℕ)
    → rise (program_of q outside) m.num m.den id ≡ column_rise q.measure q.game (length q.front + 1) (share_of m)
    (excess_of q.game.players m) m.den (column q.game.players q.front id)
rise_at q outside m id =
    ap (λ z. m.den *ℤ (program_of q outside).cost id -ℤ z) (column_value-is q outside m id)

pub outer_tight : (q : Stage) (outside : ℕ → Bool) (m : RowMultipliers) (s : ℕ)
    → rise (program_of q outside) m.num m.den (outer_id q.game.players q.front s) ≡ pos 0
    → m.den *ℤ q.game.worth s
    ≡ reached q.measure q.game.players (share_of m) (excess_of q.game.players m) s (length q.front)
outer_tight q outside m s h =
    let at =
    sym (ap (column_rise q.measure q.game (length q.front + 1) (share_of m) (excess_of q.game.players m) m.den)
    (column_outer q.game.players q.front s))
    ∙ sym (rise_at q outside m (outer_id q.game.players q.front s)) ∙ h in
    omega (
      arith,
      linear,
      within_row (length q.front + 1) (length q.front) (excess_of q.game.players m)
          (pos (divisor q.measure s)) (omega arith),
    )

pub single_tight : (q : Stage) (outside : ℕ → Bool) (m : RowMultipliers) (i : ℕ) → i < q.game.players
    → rise (program_of q outside) m.num m.den (single_id q.game.players q.front i) ≡ pos 0
    → share_of m i ≡ m.den *ℤ q.game.worth (singleton i)
single_tight q outside m i lt h =
    let at =
    sym (ap (column_rise q.measure q.game (length q.front + 1) (share_of m) (excess_of q.game.players m) m.den)
    (column_single q.game.players q.front i lt))
    ∙ sym (rise_at q outside m (single_id q.game.players q.front i)) ∙ h in
    omega (
      arith,
      linear,
      single_value q.measure q.game.players (length q.front) i (share_of m)
          (excess_of q.game.players m) lt,
    )

-- ---- lists

pub any_left : {X : Type 0} (p : X → Bool) (xs ys : List X) → list_any p xs ≡ true → list_any p (xs ++ ys) ≡ true
any_left p xs ys h = list_any-append p xs ys ∙ or_left (list_any p xs) (list_any p ys) h

pub any_right : {X : Type 0} (p : X → Bool) (xs ys : List X) → list_any p ys ≡ true → list_any p (xs ++ ys) ≡ true
any_right p xs ys h = list_any-append p xs ys ∙ or_right (list_any p xs) (list_any p ys) h

pub any_cases : {X : Type 0} (p : X → Bool) (xs ys : List X) → list_any p (xs ++ ys) ≡ true
    → (list_any p xs ≡ true) ⊎ (list_any p ys ≡ true)
any_cases p xs ys h = or_cases (list_any p xs) (list_any p ys) (sym (list_any-append p xs ys) ∙ h)

pub earlier_of-append : (k : ℕ) (xs ys : List Level)
    → earlier_of k (xs ++ ys) ≡ earlier_of k xs ++ earlier_of (k + length xs) ys
earlier_of-append k [] ys = let e : k + 0 ≡ k = omega arith in rw e refl
earlier_of-append k (l ∷ xs) ys =
    let e : k + length (l ∷ xs) ≡ k + 1 + length xs = omega arith in
    let one =
    append_assoc (map (λ c. (c.0, k)) l.coalitions) (earlier_of (k + 1) xs) (earlier_of (k + 1 + length xs) ys) in
    cc (earlier_of-append (k + 1) xs ys)

pub earlier_of-more : (front : List Level) (l : Level)
    → earlier_of 0 (front ++ l ∷ []) ≡ earlier_of 0 front ++ (map (λ c. (c.0, length front)) l.coalitions ++ [])
earlier_of-more front l =
    let e : 0 + length front ≡ length front = omega arith in
    earlier_of-append 0 front (l ∷ []) ∙ ap (λ z. earlier_of 0 front ++ earlier_of z (l ∷ [])) e

-- a listed coalition stands among the pairs of its level
pub pair_at : (P : ℕ × ℕ → Type 0) (k : ℕ) (cs : List (ℕ × ℤ)) (s : ℕ) → AllByRecursion P (map (λ c. (c.0, k)) cs)
    → list_any (λ c. nat_eq c.0 s) cs ≡ true → P (s, k)
pair_at P k [] s h any = absurd (false≢true any)
pair_at P k (c ∷ cs) s h any = elim (or_cases (nat_eq c.0 s) (list_any (λ c. nat_eq c.0 s) cs) any) [
  | inl here ↦
      let e : c.0 ≡ s = grind (arith, nat_tests) in
      rw e at h.0
  | inr more ↦ pair_at P k cs s h.1 more
]

-- ---- readings behind fewer levels

abbrev pub Settled_pairs : Measure → Game → RowMultipliers → List (ℕ × ℕ) → Type 0
Settled_pairs measure g m cs =
    AllByRecursion
    (λ c. m.den *ℤ g.worth c.0 ≡ reached measure g.players (share_of m) (excess_of g.players m) c.0 c.1) cs

-- multipliers that settle the levels in front
abbrev pub Reads : Stage → RowMultipliers → Type 0
Reads q m = IsReading q nowhere (share_of m) (excess_of q.game.players m) m.den

pub restrict : (q : Stage) (levels : List Level) (m : RowMultipliers) → Reads (behind q levels) m → Reads q m
restrict q levels m r =
    record {
      positive = r.positive;
      whole = r.whole;
      settled =
          all_left (λ c. m.den *ℤ q.game.worth c.0
          ≡ reached q.measure q.game.players (share_of m) (excess_of q.game.players m) c.0 c.1)
          (earlier_of 0 q.front) (earlier_of (0 + length q.front) levels)
          (rw (earlier_of-append 0 q.front levels) at r.settled);
      single = r.single;
      bound = λ f i h b. r.bound f i h
          (any_left (λ l. list_any (λ b. nat_eq b.0 i && int_le (pos 1) b.1) l.bounds) q.front levels b);
      outer = λ s o. absurd (false≢true o);
    }

-- ---- what an optimal stage settles

-- the coalitions of the new level
new_pairs : (q : Stage) (outside : ℕ → Bool) (m : RowMultipliers) (ws cs : List (ℕ × ℤ))
    → ((id : ℕ) → HasWeight ws id
    → IsTrue ((program_of q outside).is_column id)
    × (rise (program_of q outside) m.num m.den id ≡ pos 0))
    → AllByRecursion (λ c. (pos 1 ≤ℤ c.1) × HasWeight ws (outer_id q.game.players q.front c.0)) cs
    → Settled_pairs q.measure q.game m (map (λ c. (c.0, length q.front)) cs ++ [])
new_pairs q outside m ws [] tight h = tt
new_pairs q outside m ws (c ∷ cs) tight h = (
  outer_tight q outside m c.0 (tight (outer_id q.game.players q.front c.0) h.0.1).1,
  new_pairs q outside m ws cs tight h.1,
)

-- the column of a player alone stands there only for imputations
pub single_family : (q : Stage) (outside : ℕ → Bool) (i : ℕ) → i < q.game.players
    → IsTrue ((program_of q outside).is_column (single_id q.game.players q.front i)) → q.family ≡ Imputations
single_family q outside i h is_so =
    let len : ℕ = length (settled_columns q.game.players q.front) in
    let t : nat_lt (len + i) len ≡ false = grind (arith, nat_tests) in
    let v : len + i - len ≡ i = omega arith in
    let u : nat_lt i q.game.players ≡ true = grind (arith, nat_tests) in
    imputations_of q.family (rw u at (rw v at (rw t at is_so)))

abbrev pub BoundComes : Stage → List (ℕ × ℤ) → ℕ × ℤ → Type 0
BoundComes q ws b =
    (b.0 < q.game.players)
    × (((pos 1 ≤ℤ b.1) × HasWeight ws (single_id q.game.players q.front b.0))
    ⊎ ((q.family ≡ Imputations) × IsTrue (has_bound q.front b.0)))

-- a player at a bound of the new level gets its worth alone
new_bound : (q : Stage) (ws bs : List (ℕ × ℤ)) (Tight : ℕ → Type 0)
    → ((i : ℕ) → i < q.game.players → HasWeight ws (single_id q.game.players q.front i) → Tight i)
    → ((i : ℕ) → i < q.game.players → IsTrue (has_bound q.front i) → Tight i) → AllByRecursion (BoundComes q ws) bs
    → (i : ℕ) → list_any (λ b. nat_eq b.0 i && int_le (pos 1) b.1) bs ≡ true → Tight i
new_bound q ws [] Tight new old h i any = absurd (false≢true any)
new_bound q ws (b ∷ bs) Tight new old h i any =
    elim (or_cases (nat_eq b.0 i && int_le (pos 1) b.1) (list_any (λ b. nat_eq b.0 i && int_le (pos 1) b.1) bs) any) [
      | inl here ↦
          let same = and_left (nat_eq b.0 i) (int_le (pos 1) b.1) here in
          let e : b.0 ≡ i = grind (arith, nat_tests) in
          subst Tight e (elim h.0.1 [ inl fresh ↦ new b.0 h.0.0 fresh.1 | inr known ↦ old b.0 h.0.0 known.1 ])
      | inr more ↦ new_bound q ws bs Tight new old h.1 i more
    ]

pub settles_own_level : (q : Stage) (t : StageAnswer) → Answers q t → Reads (after q t) t.multipliers
settles_own_level q t holds =
    let outside : ℕ → Bool = t.outside in
    let m : RowMultipliers = t.multipliers in
    let tight = tight_optimal (program_of q outside) t.weights t.weight_den m.num m.den holds.optimal in
    let r = reading_of q outside m holds.optimal.1 in
    let test : ℕ → Level → Bool = λ i l. list_any (λ b. nat_eq b.0 i && int_le (pos 1) b.1) l.bounds in
    let pairs : Settled_pairs q.measure q.game m
    (earlier_of 0 q.front ++ (map (λ c. (c.0, length q.front)) t.level.coalitions ++ [])) =
    all_join
    (λ c. m.den *ℤ q.game.worth c.0
    ≡ reached q.measure q.game.players (share_of m) (excess_of q.game.players m) c.0 c.1)
    (earlier_of 0 q.front) (map (λ c. (c.0, length q.front)) t.level.coalitions ++ []) r.settled
    (new_pairs q outside m t.weights t.level.coalitions tight
    holds.follows.coalitions) in
    let fresh : (i : ℕ) → i < q.game.players → HasWeight t.weights (single_id q.game.players q.front i)
    → share_of m i ≡ m.den *ℤ q.game.worth (singleton i) =
    λ i h k. single_tight q outside m i h (tight (single_id q.game.players q.front i) k).1 in
    record {
      positive = r.positive;
      whole = r.whole;
      settled = rw (earlier_of-more q.front t.level) pairs;
      single = r.single;
      bound = λ f i h b. elim (any_cases (test i) q.front (t.level ∷ []) b) [
        | inl old ↦ r.bound f i h old
        | inr new ↦ elim (or_cases (test i t.level) false new) [
          | inl here ↦ new_bound q t.weights t.level.bounds
              (λ i. share_of m i ≡ m.den *ℤ q.game.worth (singleton i)) fresh (r.bound f) holds.follows.bounds i here
          | inr none ↦ absurd (false≢true none)
        ]
      ];
      outer = λ s o. absurd (false≢true o);
    }

-- ---- tight at later multipliers

abbrev pub Tight : Measure → Game → ℕ → (ℕ → ℤ) → (ℕ → ℤ) → ℤ → SignedVector → Type 0
Tight measure g j x e den c = column_rise measure g j x e den c ≡ pos 0

minus_tight : (den w z : ℤ) → den *ℤ w ≡ z → den *ℤ (pos 0 -ℤ w) -ℤ (pos 0 -ℤ z) ≡ pos 0
minus_tight den w z h = omega (arith, linear, mul-subℤ den (pos 0) w, mul-zeroℤ den)

tight_fixes : (measure : Measure) (g : Game) (j : ℕ) (x e : ℕ → ℤ) (den : ℤ) (cs : List (ℕ × ℕ))
    → AllByRecursion (Fixes measure g j x e den) cs → AllByRecursion (Tight measure g j x e den) (doubled cs)
tight_fixes measure g j x e den [] h = tt
tight_fixes measure g j x e den (c ∷ cs) h = (
  gap_of (den *ℤ g.worth c.0) (plus_value measure g.players j x e c.0 c.1) h.0,
  (
    minus_tight den (g.worth c.0) (plus_value measure g.players j x e c.0 c.1) h.0,
    tight_fixes measure g j x e den cs h.1,
  ),
)

further_tight : (q : Stage) (t : StageAnswer) (m : RowMultipliers) → Answers q t → Reads (after q t) m → (i : ℕ)
    → is_further q.family q.game.players q.front t.outside i ≡ true
    → HasWeight t.weights (length (settled_columns q.game.players q.front) + i)
    → Tight q.measure q.game (length q.front + 1) (share_of m)
    (excess_of q.game.players m) m.den (further_column q.game.players (length q.front) i)
further_tight q t m holds r i is_so weighs =
    let n : ℕ = q.game.players in
    let x : ℕ → ℤ = share_of m in
    let e : ℕ → ℤ = excess_of n m in
    elim (true_or_false (nat_lt i n)) [
      | inl below ↦
          let h : i < n = grind (arith, nat_tests) in
          let f = imputations_of q.family (rw below at is_so) in
          let b = holds.follows.all_bounds i h weighs in
          rw below (omega (arith, linear, r.bound f i h b, single_value q.measure n (length q.front) i x e h))
      | inr past ↦ elim (true_or_false (nat_lt i (n + n))) [
        | inl below ↦
            let h : i - n < n = grind (arith, nat_tests) in
            let y = rw below at (rw past at is_so) in
            let f = imputations_of q.family (and_left (is_imputations q.family) (has_bound q.front (i - n)) y) in
            let b =
            any_left (λ l. list_any (λ b. nat_eq b.0 (i - n) && int_le (pos 1) b.1) l.bounds) q.front
            (t.level ∷ []) (and_right (is_imputations q.family) (has_bound q.front (i - n)) y) in
            rw past (rw below (omega (
              arith,
              linear,
              r.bound f (i - n) h b,
              single_value q.measure n (length q.front) (i - n) x e h,
              mul-subℤ m.den (pos 0) (q.game.worth (singleton (i - n))),
              mul-zeroℤ m.den,
            )))
        | inr beyond ↦
            let s : ℕ = i - (n + n) in
            let eq : n + n + s ≡ i = grind (arith, nat_tests) in
            let listed =
            holds.follows.all_coalitions s (rw eq weighs) in
            let pairs =
            all_right (λ c. m.den *ℤ q.game.worth c.0 ≡ reached q.measure n x e c.0 c.1) (earlier_of 0 q.front)
            (map (λ c. (c.0, length q.front)) t.level.coalitions ++ [])
            (rw (earlier_of-more q.front t.level) at r.settled) in
            let mine =
            all_left (λ c. m.den *ℤ q.game.worth c.0 ≡ reached q.measure n x e c.0 c.1)
            (map (λ c. (c.0, length q.front)) t.level.coalitions) [] pairs in
            let any : list_any (λ c. nat_eq c.0 s) t.level.coalitions ≡ true =
            elim (or_cases (list_any (λ c. nat_eq c.0 s) t.level.coalitions) false listed)
            [ inl a ↦ a | inr b ↦ absurd (false≢true b) ] in
            let fact =
            pair_at (λ c. m.den *ℤ q.game.worth c.0 ≡ reached q.measure n x e c.0 c.1) (length q.front)
            t.level.coalitions
            s mine any in
            rw past (rw beyond (omega (
              arith,
              linear,
              within_row (length q.front + 1) (length q.front) e (pos (divisor q.measure s))
                  (omega arith),
            )))
      ]
    ]

pub tight_later : (q : Stage) (t : StageAnswer) (m : RowMultipliers) → Answers q t → Reads (after q t) m → (id : ℕ)
    → IsTrue ((program_of q t.outside).is_column id) → HasWeight t.weights id
    → rise (program_of q t.outside) m.num m.den id ≡ pos 0
tight_later q t m holds r id is_so weighs =
    let n : ℕ = q.game.players in
    let x : ℕ → ℤ = share_of m in
    let e : ℕ → ℤ = excess_of n m in
    let len : ℕ = length (settled_columns n q.front) in
    let near = restrict q (t.level ∷ []) m r in
    let first : AllByRecursion (Tight q.measure q.game (length q.front + 1) x e m.den) (settled_columns n q.front) =
    tight_fixes q.measure q.game (length q.front + 1) x e m.den
    ((grand_coalition n, length q.front + 1) ∷ earlier_of 0 q.front) (
      sym (whole_value q.measure n (length q.front) x e ∙ near.whole),
      of_settled q.measure q.game q.front x e m.den near.settled,
    ) in
    rise_at q t.outside m id ∙ elim (true_or_false (nat_lt id len)) [
      | inl below ↦
          let lt : id < len = grind (arith, nat_tests) in
          rw below
          (all_at (Tight q.measure q.game (length q.front + 1) x e m.den) (settled_columns n q.front) id no_column lt
          first)
      | inr past ↦
          let eq : len + (id - len) ≡ id = grind (arith, nat_tests) in
          rw past (further_tight q t m holds r (id - len) (rw past at is_so) (rw eq weighs))
    ]

-- the cost of a stage's weights, by any multipliers that settle its level too
pub stage_value : (q : Stage) (t : StageAnswer) (m : RowMultipliers) → Answers q t → Reads (after q t) m
    → m.den *ℤ weighted_sum (program_of q t.outside).cost t.weights ≡ t.weight_den
    *ℤ excess_of q.game.players m (length q.front)
stage_value q t m holds r =
    let one =
    tight_value (program_of q t.outside) m.num m.den t.weights t.weight_den holds.optimal.0
    (tight_later q t m holds r) in
    cc (right_value q t.outside m)
