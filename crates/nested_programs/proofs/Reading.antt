-- The dual reading of a stage program.
--
-- Over the rows of a column, multiplier times entry adds to the amount of its coalition and its level's multiplier
-- times its divisor, with its sign (`column_value-is`). So multipliers bound a stage program exactly when they read
-- as shares and measured excesses over one denominator (`IsReading`). Then the shares add to the worth of all. Each
-- coalition of an earlier level has that level's measured excess, and each player with a bound there its worth alone.
-- In imputations no player has less than its worth alone. No coalition outside has more than the last excess.
use Rattle.std.proofs.Common.{◌≡◌, ℕ, zero, suc, ◌+◌, ◌-◌, ◌<◌, ◌≤◌, Bool, true}
use Rattle.std.proofs.Common.{false, cond, IsTrue, List, [], ◌∷◌, length, map, ℤ, pos}
use Rattle.std.proofs.Common.{◌+ℤ◌, ◌-ℤ◌, ◌*ℤ◌, ◌≤ℤ◌, refl, sym, ap, ◌∙◌, inl, inr}
use Rattle.std.proofs.Common.{arith, nat_eq, nat_lt, if◌then◌else◌, slice_index_or}
use Rattle.std.proofs.lemmas.Bool.{false≢true}
use Rattle.std.proofs.lemmas.Bool.Decides.{nat_tests}
use Rattle.std.specs.List.{AllByRecursion}
use Rattle.definitions.proofs.Ring.{linear, mul-zeroℤ, mul-subℤ}
use Rattle.definitions.proofs.Members.{sum_below-same, sum_over-grand_coalition}
use Rattle.definitions.proofs.Members.{sum_over-singleton, sum_below-split, times_bit}
use Rattle.definitions.specs.Sums.{sum_below}
use Rattle.definitions.specs.Coalitions.{has_player, singleton, grand_coalition, sum_over}
use Rattle.definitions.specs.Measures.{divisor}
use Rattle.definitions.specs.Games.{Game}
use Rattle.definitions.specs.Certificates.{Level, has_bound}
use Rattle.definitions.specs.Programs.{Bounds, value_of}
use Rattle.definitions.specs.declared.Family.{Family}
use Rattle.definitions.specs.declared.Measure.{Measure}
use Rattle.definitions.specs.declared.Family.TheVariants.{Imputations, Preimputations}
use Rattle.separation.specs.Stage.{SignedVector, signed, plus_entry, earlier_of, doubled, settled_columns}
use Rattle.separation.specs.Stage.{further_column, no_column, column, is_imputations, is_further}
use Rattle.nested_programs.specs.Stage.{Stage, program_of}
use Rattle.nested_programs.specs.Reading.{RowMultipliers, reached, IsReading, share_of, excess_of}
use Rattle.definitions.proofs.Cases.{less_same_or_greater, true_or_false, and_left, and_right, and_both}
use Rattle.separation.proofs.Valued.{signed_sum}
use Rattle.definitions.proofs.Alls.{all_at, all_at_places, all_join, all_weaken, all_with}

-- ---- the value of a column

-- the excess of a level row times its entry d, or nothing past them
abbrev pub level_value : ℕ → (ℕ → ℤ) → ℕ → ℤ → ℤ
level_value j e row d = if nat_lt row j then e row *ℤ d else pos 0

level_sum : (n j row : ℕ) (e : ℕ → ℤ) (d : ℤ)
    → sum_below j (λ k. e k *ℤ (if nat_eq (n + k) (n + row) then d else pos 0)) ≡ level_value j e row d
level_sum n zero row e d = let t : nat_lt row 0 ≡ false = grind (arith, nat_tests) in rw t refl
level_sum n (suc j) row e d = elim (less_same_or_greater row j) [
  | inl less ↦
      let t : nat_lt row (suc j) ≡ true = grind (arith, nat_tests) in
      let u : nat_lt row j ≡ true = grind (arith, nat_tests) in
      let v : nat_eq (n + j) (n + row) ≡ false = grind (arith, nat_tests) in
      let ih = level_sum n j row e d in
      rw t (rw v (omega (arith, linear, mul-zeroℤ (e j), ih ∙ ap (λ (b : Bool). cond b (e row *ℤ d) (pos 0)) u)))
  | inr (inl same) ↦
      let t : nat_lt row (suc j) ≡ true = grind (arith, nat_tests) in
      let u : nat_lt row j ≡ false = grind (arith, nat_tests) in
      let v : nat_eq (n + j) (n + row) ≡ true = grind (arith, nat_tests) in
      let ih = level_sum n j row e d in
      rw t (rw v (omega
      (arith, linear, ap (λ (k : ℕ). e k *ℤ d) same, ih ∙ ap (λ (b : Bool). cond b (e row *ℤ d) (pos 0)) u)))
  | inr (inr more) ↦
      let t : nat_lt row (suc j) ≡ false = grind (arith, nat_tests) in
      let u : nat_lt row j ≡ false = grind (arith, nat_tests) in
      let v : nat_eq (n + j) (n + row) ≡ false = grind (arith, nat_tests) in
      let ih = level_sum n j row e d in
      rw t (rw v (omega (arith, linear, mul-zeroℤ (e j), ih ∙ ap (λ (b : Bool). cond b (e row *ℤ d) (pos 0)) u)))
]

-- what the members get, and the excess of the level row times the coalition's divisor
abbrev pub plus_value : Measure → ℕ → ℕ → (ℕ → ℤ) → (ℕ → ℤ) → ℕ → ℕ → ℤ
plus_value measure n j x e mask row = sum_over n x mask +ℤ level_value j e row (pos (divisor measure mask))

pub plus_value-is : (measure : Measure) (n j : ℕ) (m : RowMultipliers) (mask row : ℕ)
    → sum_below (n + j) (λ r. slice_index_or m.num r (pos 0) *ℤ plus_entry measure n mask row r)
    ≡ plus_value measure n j (share_of m) (excess_of n m) mask row
plus_value-is measure n j m mask row =
    let f : ℕ → ℤ = λ r. slice_index_or m.num r (pos 0) *ℤ plus_entry measure n mask row r in
    let split = sum_below-split n j f in
    let first = sum_below-same n f (λ i. if has_player mask i then share_of m i else pos 0) members in
    let second =
    sum_below-same j (λ k. f (n + k))
    (λ k. excess_of n m k *ℤ (if nat_eq (n + k) (n + row) then pos (divisor measure mask) else pos 0))
    levels in
    let third = level_sum n j row (excess_of n m) (pos (divisor measure mask)) in
    omega (arith, linear)
  where
    members : (i : ℕ) → i < n
        → slice_index_or m.num i (pos 0) *ℤ plus_entry measure n mask row i
        ≡ (if has_player mask i then share_of m i else pos 0)
    members i h =
        let t : nat_lt i n ≡ true = grind (arith, nat_tests) in
        rw t (times_bit (has_player mask i) (slice_index_or m.num i (pos 0)))

    levels : (k : ℕ) → k < j
        → slice_index_or m.num (n + k) (pos 0) *ℤ plus_entry measure n mask row (n + k)
        ≡ excess_of n m k *ℤ (if nat_eq (n + k) (n + row) then pos (divisor measure mask) else pos 0)
    levels k h = let t : nat_lt (n + k) n ≡ false = grind (arith, nat_tests) in rw t refl

abbrev pub column_value : Measure → ℕ → ℕ → (ℕ → ℤ) → (ℕ → ℤ) → SignedVector → ℤ
column_value measure n j x e c = signed c.minus (plus_value measure n j x e c.mask c.row)

-- a column's cost isn't above its value
abbrev pub Meets : Measure → Game → ℕ → (ℕ → ℤ) → (ℕ → ℤ) → ℤ → SignedVector → Type 0
Meets measure g j x e den c = (den *ℤ signed c.minus (g.worth c.mask)) ≤ℤ column_value measure g.players j x e c

pub column_value-is : (q : Stage) (outside : ℕ → Bool) (m : RowMultipliers) (id : ℕ)
    → value_of (program_of q outside) m.num ((program_of q outside).entry id)
    ≡ column_value q.measure q.game.players (length q.front + 1)
    (share_of m) (excess_of q.game.players m) (column q.game.players q.front id)
column_value-is q outside m id =
    let c : SignedVector = column q.game.players q.front id in
    signed_sum (q.game.players + (length q.front + 1)) (λ r. slice_index_or m.num r (pos 0))
    (plus_entry q.measure q.game.players c.mask c.row) c.minus
    ∙ ap (signed c.minus) (plus_value-is q.measure q.game.players (length q.front + 1) m c.mask c.row)

-- ---- the columns by kind

abbrev pub Fixes : Measure → Game → ℕ → (ℕ → ℤ) → (ℕ → ℤ) → ℤ → ℕ × ℕ → Type 0
Fixes measure g j x e den c = den *ℤ g.worth c.0 ≡ plus_value measure g.players j x e c.0 c.1

both_signs : (den w z : ℤ) → (den *ℤ w) ≤ℤ z → (den *ℤ (pos 0 -ℤ w)) ≤ℤ (pos 0 -ℤ z) → den *ℤ w ≡ z
both_signs den w z h k = omega (arith, linear, mul-subℤ den (pos 0) w, mul-zeroℤ den)

plus_sign : (u z : ℤ) → u ≡ z → u ≤ℤ z
plus_sign u z h = omega (arith, linear)

minus_sign : (den w z : ℤ) → den *ℤ w ≡ z → (den *ℤ (pos 0 -ℤ w)) ≤ℤ (pos 0 -ℤ z)
minus_sign den w z h = omega (arith, linear, mul-subℤ den (pos 0) w, mul-zeroℤ den)

pub fixes_of : (measure : Measure) (g : Game) (j : ℕ) (x e : ℕ → ℤ) (den : ℤ) (cs : List (ℕ × ℕ))
    → AllByRecursion (Meets measure g j x e den) (doubled cs) → AllByRecursion (Fixes measure g j x e den) cs
fixes_of measure g j x e den [] h = tt
fixes_of measure g j x e den (c ∷ cs) h = (
  both_signs den (g.worth c.0) (plus_value measure g.players j x e c.0 c.1) h.0 h.1.0,
  fixes_of measure g j x e den cs h.1.1,
)

of_fixes : (measure : Measure) (g : Game) (j : ℕ) (x e : ℕ → ℤ) (den : ℤ) (cs : List (ℕ × ℕ))
    → AllByRecursion (Fixes measure g j x e den) cs → AllByRecursion (Meets measure g j x e den) (doubled cs)
of_fixes measure g j x e den [] h = tt
of_fixes measure g j x e den (c ∷ cs) h = (
  plus_sign (den *ℤ g.worth c.0) (plus_value measure g.players j x e c.0 c.1) h.0,
  (
    minus_sign den (g.worth c.0) (plus_value measure g.players j x e c.0 c.1) h.0,
    of_fixes measure g j x e den cs h.1,
  ),
)

-- ---- level rows

pub within_row : (j row : ℕ) (e : ℕ → ℤ) (d : ℤ) → row < j → level_value j e row d ≡ e row *ℤ d
within_row j row e d h = let t : nat_lt row j ≡ true = grind (arith, nat_tests) in rw t refl

pub past_row : (j row : ℕ) (e : ℕ → ℤ) (d : ℤ) → j ≤ row → level_value j e row d ≡ pos 0
past_row j row e d h = let t : nat_lt row j ≡ false = grind (arith, nat_tests) in rw t refl

all_map : {X Y : Type 0} (P : Y → Type 0) (f : X → Y) (xs : List X) → ((x : X) → P (f x))
    → AllByRecursion P (map f xs)
all_map P f [] h = tt
all_map P f (x ∷ xs) h = (h x, all_map P f xs h)

pub earlier_rows : (k : ℕ) (levels : List Level)
    → AllByRecursion (λ c. c.1 < k + length levels) (earlier_of k levels)
earlier_rows k [] = tt
earlier_rows k (l ∷ levels) =
    all_join (λ c. c.1 < k + length (l ∷ levels)) (map (λ c. (c.0, k)) l.coalitions) (earlier_of (k + 1) levels)
    (all_map (λ c. c.1 < k + length (l ∷ levels)) (λ c. (c.0, k)) l.coalitions (λ c. omega arith))
    (all_weaken (λ c. c.1 < (k + 1) + length levels) (λ c. c.1 < k + length (l ∷ levels))
    (earlier_of (k + 1) levels) (λ c h. omega arith) (earlier_rows (k + 1) levels))

-- ---- all kinds

pub imputations_of : (family : Family) → is_imputations family ≡ true → family ≡ Imputations
imputations_of Imputations h = refl
imputations_of Preimputations h = absurd (false≢true h)

-- the columns past the settled ones meet their costs
abbrev FurtherMeet : Stage → (ℕ → Bool) → (ℕ → ℤ) → (ℕ → ℤ) → ℤ → Type 0
FurtherMeet q outside x e den =
    (i : ℕ) → is_further q.family q.game.players q.front outside i ≡ true
    → Meets q.measure q.game (length q.front + 1) x e den (further_column q.game.players (length q.front) i)

pub single_value : (measure : Measure) (n k i : ℕ) (x e : ℕ → ℤ) → i < n
    → plus_value measure n (k + 1) x e (singleton i) (k + 1) ≡ x i
single_value measure n k i x e h =
    omega (
      arith,
      linear,
      sum_over-singleton n i x h,
      past_row (k + 1) (k + 1) e (pos (divisor measure (singleton i))) (omega arith),
    )

single_of : (q : Stage) (outside : ℕ → Bool) (x e : ℕ → ℤ) (den : ℤ) → FurtherMeet q outside x e den
    → q.family ≡ Imputations → (i : ℕ) → i < q.game.players → (den *ℤ q.game.worth (singleton i)) ≤ℤ x i
single_of q outside x e den meet f i h =
    let t : nat_lt i q.game.players ≡ true = grind (arith, nat_tests) in
    let met = rw t at (meet i (rw t (ap is_imputations f))) in
    omega (arith, linear, met, single_value q.measure q.game.players (length q.front) i x e h)

bound_of : (q : Stage) (outside : ℕ → Bool) (x e : ℕ → ℤ) (den : ℤ) → FurtherMeet q outside x e den
    → q.family ≡ Imputations → (i : ℕ) → i < q.game.players → IsTrue (has_bound q.front i)
    → x i ≡ den *ℤ q.game.worth (singleton i)
bound_of q outside x e den meet f i h b =
    let t : nat_lt (q.game.players + i) q.game.players ≡ false = grind (arith, nat_tests) in
    let u : nat_lt (q.game.players + i) (q.game.players + q.game.players) ≡ true = grind (arith, nat_tests) in
    let v : q.game.players + i - q.game.players ≡ i = omega arith in
    let is_so : is_further q.family q.game.players q.front outside (q.game.players + i) ≡ true =
    rw t (rw u (rw v (and_both (is_imputations q.family) (has_bound q.front i) (ap is_imputations f) b))) in
    let met = rw v at (rw u at (rw t at (meet (q.game.players + i) is_so))) in
    let low = single_of q outside x e den meet f i h in
    let value = single_value q.measure q.game.players (length q.front) i x e h in
    omega (arith, linear, mul-subℤ den (pos 0) (q.game.worth (singleton i)), mul-zeroℤ den)

outer_of : (q : Stage) (outside : ℕ → Bool) (x e : ℕ → ℤ) (den : ℤ) → FurtherMeet q outside x e den → (s : ℕ)
    → IsTrue (outside s) → (den *ℤ q.game.worth s) ≤ℤ reached q.measure q.game.players x e s (length q.front)
outer_of q outside x e den meet s o =
    let t : nat_lt (q.game.players + q.game.players + s) q.game.players ≡ false = grind (arith, nat_tests) in
    let u : nat_lt (q.game.players + q.game.players + s) (q.game.players + q.game.players) ≡ false =
    grind (arith, nat_tests) in
    let v : q.game.players + q.game.players + s - (q.game.players + q.game.players) ≡ s = omega arith in
    let is_so : is_further q.family q.game.players q.front outside (q.game.players + q.game.players + s) ≡ true =
    rw t (rw u (rw v o)) in
    let met = rw v at (rw u at (rw t at (meet (q.game.players + q.game.players + s) is_so))) in
    omega
    (arith, linear, met, within_row (length q.front + 1) (length q.front) e (pos (divisor q.measure s)) (omega arith))

further_meet : (q : Stage) (outside : ℕ → Bool) (x e : ℕ → ℤ) (den : ℤ) → IsReading q outside x e den
    → FurtherMeet q outside x e den
further_meet q outside x e den r i is_so = elim (true_or_false (nat_lt i q.game.players)) [
  | inl t ↦
      let h : i < q.game.players = grind (arith, nat_tests) in
      let f = imputations_of q.family (rw t at is_so) in
      rw t (omega (arith, linear, r.single f i h, single_value q.measure q.game.players (length q.front) i x e h))
  | inr t ↦ elim (true_or_false (nat_lt i (q.game.players + q.game.players))) [
    | inl u ↦
        let h : i - q.game.players < q.game.players = grind (arith, nat_tests) in
        let y = rw u at (rw t at is_so) in
        let f =
        imputations_of q.family (and_left (is_imputations q.family) (has_bound q.front (i - q.game.players)) y) in
        let b = and_right (is_imputations q.family) (has_bound q.front (i - q.game.players)) y in
        rw t (rw u (omega (
          arith,
          linear,
          r.bound f (i - q.game.players) h b,
          single_value q.measure q.game.players (length q.front) (i - q.game.players) x e h,
          mul-subℤ den (pos 0) (q.game.worth (singleton (i - q.game.players))),
          mul-zeroℤ den,
        )))
    | inr u ↦
        let y = rw u at (rw t at is_so) in
        rw t (rw u (omega (
          arith,
          linear,
          r.outer (i - (q.game.players + q.game.players)) y,
          within_row (length q.front + 1) (length q.front) e
              (pos (divisor q.measure (i - (q.game.players + q.game.players)))) (omega arith),
        )))
  ]
]

-- the settled columns
settled_of : (measure : Measure) (g : Game) (front : List Level) (x e : ℕ → ℤ) (den : ℤ)
    → AllByRecursion (Fixes measure g (length front + 1) x e den) (earlier_of 0 front)
    → AllByRecursion (λ c. den *ℤ g.worth c.0 ≡ reached measure g.players x e c.0 c.1) (earlier_of 0 front)
settled_of measure g front x e den h =
    all_with (λ c. c.1 < 0 + length front) (Fixes measure g (length front + 1) x e den)
    (λ c. den *ℤ g.worth c.0 ≡ reached measure g.players x e c.0 c.1) (earlier_of 0 front)
    (λ c lt eq. omega
    (arith, linear, eq, within_row (length front + 1) c.1 e (pos (divisor measure c.0)) (omega arith)))
    (earlier_rows 0 front) h

pub of_settled : (measure : Measure) (g : Game) (front : List Level) (x e : ℕ → ℤ) (den : ℤ)
    → AllByRecursion (λ c. den *ℤ g.worth c.0 ≡ reached measure g.players x e c.0 c.1) (earlier_of 0 front)
    → AllByRecursion (Fixes measure g (length front + 1) x e den) (earlier_of 0 front)
of_settled measure g front x e den h =
    all_with (λ c. c.1 < 0 + length front) (λ c. den *ℤ g.worth c.0 ≡ reached measure g.players x e c.0 c.1)
    (Fixes measure g (length front + 1) x e den) (earlier_of 0 front) (λ c lt eq. omega
    (arith, linear, eq, within_row (length front + 1) c.1 e (pos (divisor measure c.0)) (omega arith)))
    (earlier_rows 0 front) h

pub whole_value : (measure : Measure) (n k : ℕ) (x e : ℕ → ℤ)
    → plus_value measure n (k + 1) x e (grand_coalition n) (k + 1) ≡ sum_below n x
whole_value measure n k x e =
    omega (
      arith,
      linear,
      sum_over-grand_coalition n x,
      past_row (k + 1) (k + 1) e (pos (divisor measure (grand_coalition n))) (omega arith),
    )

-- ---- both directions

pub reading_of : (q : Stage) (outside : ℕ → Bool) (m : RowMultipliers) → Bounds (program_of q outside) m.num m.den
    → IsReading q outside (share_of m) (excess_of q.game.players m) m.den
reading_of q outside m b =
    let n : ℕ = q.game.players in
    let x : ℕ → ℤ = share_of m in
    let e : ℕ → ℤ = excess_of n m in
    let len : ℕ = length (settled_columns n q.front) in
    let meets : (id : ℕ) → IsTrue ((program_of q outside).is_column id)
    → Meets q.measure q.game (length q.front + 1) x e m.den (column n q.front id) = λ id is_so.
    rw (column_value-is q outside m id) at (b.1 id is_so) in
    let first : AllByRecursion (Meets q.measure q.game (length q.front + 1) x e m.den) (settled_columns n q.front) =
    all_at_places (Meets q.measure q.game (length q.front + 1) x e m.den) no_column (settled_columns n q.front)
    (λ k lt. let t : nat_lt k len ≡ true = grind (arith, nat_tests) in rw t at (meets k (rw t refl))) in
    let further : FurtherMeet q outside x e m.den = λ i is_so.
    (let t : nat_lt (len + i) len ≡ false = grind (arith, nat_tests) in
    let v : len + i - len ≡ i = omega arith in
    rw v at (rw t at (meets (len + i) (rw t (rw v is_so))))) in
    let fixes =
    fixes_of q.measure q.game (length q.front + 1) x e m.den
    ((grand_coalition n, length q.front + 1) ∷ earlier_of 0 q.front)
    first in
    record {
      positive = b.0;
      whole = sym (fixes.0 ∙ whole_value q.measure n (length q.front) x e);
      settled = settled_of q.measure q.game q.front x e m.den fixes.1;
      single = single_of q outside x e m.den further;
      bound = bound_of q outside x e m.den further;
      outer = outer_of q outside x e m.den further;
    }

pub of_reading : (q : Stage) (outside : ℕ → Bool) (m : RowMultipliers)
    → IsReading q outside (share_of m) (excess_of q.game.players m) m.den
    → Bounds (program_of q outside) m.num m.den
of_reading q outside m r =
    let n : ℕ = q.game.players in
    let x : ℕ → ℤ = share_of m in
    let e : ℕ → ℤ = excess_of n m in
    let len : ℕ = length (settled_columns n q.front) in
    let first : AllByRecursion (Meets q.measure q.game (length q.front + 1) x e m.den) (settled_columns n q.front) =
    of_fixes q.measure q.game (length q.front + 1) x e m.den
    ((grand_coalition n, length q.front + 1) ∷ earlier_of 0 q.front) (
      sym (whole_value q.measure n (length q.front) x e ∙ r.whole),
      of_settled q.measure q.game q.front x e m.den r.settled,
    ) in
    let further = further_meet q outside x e m.den r in
    let meets : (id : ℕ) → IsTrue ((program_of q outside).is_column id)
    → Meets q.measure q.game (length q.front + 1) x e m.den (column n q.front id) =
    λ id is_so. elim (true_or_false (nat_lt id len)) [
      | inl t ↦
          let lt : id < len = grind (arith, nat_tests) in
          rw t
          (all_at (Meets q.measure q.game (length q.front + 1) x e m.den) (settled_columns n q.front) id no_column lt
          first)
      | inr t ↦ rw t (further (id - len) (rw t at is_so))
    ] in (
      r.positive,
      λ id is_so. rw (column_value-is q outside m id) (meets id is_so),
    )
