-- What the rows of a stage say of its level: it is balanced, and it has a coalition.
--
-- The numbers of the columns are the numerators of the weights. The sums of the level at a player are those of the
-- player's row: each list is additive in the weights, and a column's part in them is its entry (LevelSums.antt,
-- ColumnParts.antt). That row gives the balance (`level_balanced`), and the last row gives a coalition (`level_some`).
use Rattle.std.proofs.Common.{◌≡◌, ◌≢◌, ◌⊎◌, ℕ, ◌+◌, ◌-◌, ◌<◌, ◌≤◌, Bool, true}
use Rattle.std.proofs.Common.{false, ◌||◌, IsTrue, List, [], ◌∷◌, length, ℤ, pos, ◌+ℤ◌}
use Rattle.std.proofs.Common.{◌*ℤ◌, ◌≤ℤ◌, refl, sym, ap, ◌∙◌, inl, inr, arith, nat_eq}
use Rattle.std.proofs.Common.{nat_lt, if◌then◌else◌}
use Rattle.std.proofs.lemmas.Int.{by_lt_z}
use Rattle.std.proofs.lemmas.Bool.{false≢true}
use Rattle.std.proofs.lemmas.Bool.Decides.{nat_tests}
use Rattle.std.specs.List.{list_any, AllByRecursion}
use Rattle.definitions.proofs.Ring.{linear, mul-zeroℤ, mul-oneℤ, zero-mulℤ}
use Rattle.definitions.specs.Sums.{weighted_sum}
use Rattle.definitions.specs.Coalitions.{has_player, singleton, grand_coalition, weight_at}
use Rattle.definitions.specs.Certificates.{Level, number_at, IsOutside}
use Rattle.definitions.specs.Programs.{Program}
use Rattle.definitions.specs.declared.Measure.{Measure}
use Rattle.separation.specs.Stage.{signed, plus_entry, entry_of, earlier_of, doubled}
use Rattle.separation.specs.Stage.{settled_columns, no_column, column}
use Rattle.definitions.proofs.Members.{has_player-singleton, has_player-singleton_other}
use Rattle.definitions.specs.declared.Mode.TheVariants.{Span}
use Rattle.nested_programs.specs.Stage.{Stage, program_of}
use Rattle.nested_programs.specs.Chain.{outer_id, single_id, HasWeight, StageAnswer, Answers}
use Rattle.nested_programs.proofs.Reading.{earlier_rows}
use Rattle.nested_programs.proofs.Slack.{Columns, tight_optimal}
use Rattle.nested_programs.proofs.Advance.{BoundComes, column_outer, column_single}
use Rattle.definitions.proofs.Cases.{same_or_other, true_or_false}
use Rattle.definitions.proofs.Alls.{all_at, all_weaken}

pub level_balanced : (q : Stage) (t : StageAnswer) → Answers q t → (i : ℕ) → i < q.game.players
    → weight_at t.level.coalitions i +ℤ weight_at t.level.earlier i +ℤ number_at t.level.bounds i ≡ t.level.total
level_balanced q t holds i h =
    let row = holds.optimal.0.2 i (omega arith) in
    let u : nat_eq i (q.game.players + length q.front) ≡ false = grind (arith, nat_tests) in
    let zero_right : t.weight_den *ℤ (if nat_eq i (q.game.players + length q.front) then pos 1 else pos 0) ≡ pos 0 =
    rw u (mul-zeroℤ t.weight_den) in
    omega (arith, linear, holds.follows.sums i h)

-- ---- the last row

signed_zero : (b : Bool) (z : ℤ) → z ≡ pos 0 → signed b z ≡ pos 0
signed_zero true z h = omega (arith, linear, h)
signed_zero false z h = h

other_row : (measure : Measure) (n k mask row : ℕ) → row ≢ k → plus_entry measure n mask row (n + k) ≡ pos 0
other_row measure n k mask row ne =
    let t : nat_lt (n + k) n ≡ false = grind (arith, nat_tests) in
    let u : nat_eq (n + k) (n + row) ≡ false = grind (arith, nat_tests) in
    rw t (rw u refl)

settled_zero : (measure : Measure) (n k : ℕ) (cs : List (ℕ × ℕ)) → AllByRecursion (λ c. c.1 ≢ k) cs
    → AllByRecursion (λ c. entry_of measure n c (n + k) ≡ pos 0) (doubled cs)
settled_zero measure n k [] h = tt
settled_zero measure n k (c ∷ cs) h = (
  signed_zero false (plus_entry measure n c.0 c.1 (n + k)) (other_row measure n k c.0 c.1 h.0),
  (
    signed_zero true (plus_entry measure n c.0 c.1 (n + k)) (other_row measure n k c.0 c.1 h.0),
    settled_zero measure n k cs h.1,
  ),
)

-- a column is that of an outside coalition, or has nothing in the last row
kind_of : (measure : Measure) (n : ℕ) (front : List Level) (id : ℕ)
    → ((s : ℕ) × (id ≡ outer_id n front s)) ⊎ (entry_of measure n (column n front id) (n + length front) ≡ pos 0)
kind_of measure n front id = elim (true_or_false (nat_lt id len)) [
  | inl below ↦
      let lt : id < len = grind (arith, nat_tests) in
      inr (rw below
      (all_at (λ c. entry_of measure n c (n + k) ≡ pos 0) (settled_columns n front) id no_column lt no_last_entry))
  | inr past ↦ elim (true_or_false (nat_lt (id - len) n)) [
    | inl below ↦ inr (rw past (rw below (other_row measure n k (singleton (id - len)) (k + 1) (λ e. omega arith))))
    | inr more ↦ elim (true_or_false (nat_lt (id - len) (n + n))) [
      | inl below ↦ inr
          (rw past (rw more (rw below
          (signed_zero true (plus_entry measure n (singleton (id - len - n)) (k + 1) (n + k))
          (other_row measure n k (singleton (id - len - n)) (k + 1) (λ e. omega arith))))))
      | inr beyond ↦
          let eq : id ≡ len + (n + n + (id - len - (n + n))) = grind (arith, nat_tests) in
          inl (id - len - (n + n), eq)
    ]
  ]
]
  where
    k : ℕ
    k = length front

    len : ℕ
    len = length (settled_columns n front)

    below_differs : (a : ℕ) → a < 0 + k → a ≢ k
    below_differs a h e = omega arith

    no_last_entry : AllByRecursion (λ c. entry_of measure n c (n + k) ≡ pos 0) (settled_columns n front)
    no_last_entry =
        settled_zero measure n k ((grand_coalition n, k + 1) ∷ earlier_of 0 front) (
          (λ e. omega arith),
          all_weaken (λ c. c.1 < 0 + k) (λ c. c.1 ≢ k) (earlier_of 0 front) (λ c h. below_differs c.1 h)
              (earlier_rows 0 front),
        )

some_outer : (measure : Measure) (p : Program) (n : ℕ) (front : List Level) (ws : List (ℕ × ℤ)) → Columns p ws
    → ((s : ℕ) × HasWeight ws (outer_id n front s))
    ⊎ (weighted_sum (λ id. entry_of measure n (column n front id) (n + length front)) ws ≡ pos 0)
some_outer measure p n front [] h = inr refl
some_outer measure p n front (w ∷ ws) h = elim (some_outer measure p n front ws h.1) [
  | inl found ↦ inl (found.0, inr found.1)
  | inr none ↦ elim (kind_of measure n front w.0) [
    | inl outer ↦ by_lt_z (pos 0) w.1
        (λ up. inl (outer.0, inl (outer.1, omega (arith, linear, up))))
        (λ low.
        let e : w.1 ≡ pos 0 = omega (arith, linear) in
        inr (omega (
          arith,
          linear,
          ap (λ z. z *ℤ entry_of measure n (column n front w.0) (n + length front)) e,
          zero-mulℤ
              (entry_of measure n (column n front w.0) (n + length front)),
        )))
    | inr nothing ↦ inr (omega (arith, linear, none, ap (λ z. w.1 *ℤ z) nothing, mul-zeroℤ w.1))
  ]
]

some_in : (cs : List (ℕ × ℤ)) (s : ℕ) → (list_any (λ c. nat_eq c.0 s) cs || false) ≡ true → 1 ≤ length cs
some_in [] s h = absurd (false≢true h)
some_in (c ∷ cs) s h = omega arith

-- the level of an optimal stage has a coalition
pub level_some : (q : Stage) (t : StageAnswer) → Answers q t → 1 ≤ length t.level.coalitions
level_some q t holds =
    elim (some_outer q.measure (program_of q t.outside) q.game.players q.front t.weights
    holds.optimal.0.0.0) [
      | inl found ↦ some_in t.level.coalitions found.0 (holds.follows.all_coalitions found.0 found.1)
      | inr none ↦
          let row = holds.optimal.0.2 (q.game.players + length q.front) (omega arith) in
          let u : nat_eq (q.game.players + length q.front) (q.game.players + length q.front) ≡ true =
          grind (arith, nat_tests) in
          let right : t.weight_den
          *ℤ (if nat_eq (q.game.players + length q.front) (q.game.players + length q.front) then pos 1 else pos 0)
          ≡ t.weight_den = rw u (mul-oneℤ t.weight_den) in
          absurd (omega (arith, linear))
    ]

-- ---- the coalitions of a level were outside

outer_test : (q : Stage) (outside : ℕ → Bool) (s : ℕ)
    → IsTrue ((program_of q outside).is_column (outer_id q.game.players q.front s)) → IsTrue (outside s)
outer_test q outside s is_so =
    let n : ℕ = q.game.players in
    let len : ℕ = length (settled_columns n q.front) in
    let t : nat_lt (len + (n + n + s)) len ≡ false = grind (arith, nat_tests) in
    let v : len + (n + n + s) - len ≡ n + n + s = omega arith in
    let t' : nat_lt (n + n + s) n ≡ false = grind (arith, nat_tests) in
    let u : nat_lt (n + n + s) (n + n) ≡ false = grind (arith, nat_tests) in
    let w : n + n + s - (n + n) ≡ s = omega arith in
    rw w at (rw u at (rw t' at (rw v at (rw t at is_so))))

-- so each stage settles more than those in front
pub level_outside : (q : Stage) (t : StageAnswer) → Answers q t
    → AllByRecursion (λ c. IsOutside Span q.game.players q.front c.0) t.level.coalitions
level_outside q t holds =
    all_weaken (λ c. (pos 1 ≤ℤ c.1) × HasWeight t.weights (outer_id q.game.players q.front c.0))
    (λ c. IsOutside Span q.game.players q.front c.0) t.level.coalitions
    (λ c h. (holds.decides c.0).0
    (outer_test q t.outside c.0
    (tight_optimal (program_of q t.outside) t.weights t.weight_den t.multipliers.num t.multipliers.den
    holds.optimal (outer_id q.game.players q.front c.0) h.1).0))
    holds.follows.coalitions

pub level_proper : (q : Stage) (t : StageAnswer) → Answers q t
    → AllByRecursion (λ c. (0 < c.0) × (c.0 < grand_coalition q.game.players)) t.level.coalitions
level_proper q t holds =
    all_weaken (λ c. IsOutside Span q.game.players q.front c.0)
    (λ c. (0 < c.0) × (c.0 < grand_coalition q.game.players))
    t.level.coalitions (λ c h. (h.0, h.1)) (level_outside q t holds)

pub level_players : (q : Stage) (t : StageAnswer) → Answers q t
    → AllByRecursion (λ b. b.0 < q.game.players) t.level.bounds
level_players q t holds =
    all_weaken (BoundComes q t.weights) (λ b. b.0 < q.game.players) t.level.bounds (λ b h. h.0)
    holds.follows.bounds

-- ---- the entries of a column in a player's row, for the pass that adds up a level

pub entry_outer : (measure : Measure) (n : ℕ) (front : List Level) (s i : ℕ) → i < n
    → entry_of measure n (column n front (outer_id n front s)) i ≡ (if has_player s i then pos 1 else pos 0)
entry_outer measure n front s i h =
    let t : nat_lt i n ≡ true = grind (arith, nat_tests) in
    cc (column_outer n front s)

alone_test : (p i : ℕ) → has_player (singleton p) i ≡ nat_eq p i
alone_test p i = elim (same_or_other p i) [
  | inl e ↦
      let t : nat_eq p i ≡ true = grind (arith, nat_tests) in
      cc (has_player-singleton i)
  | inr ne ↦
      let t : nat_eq p i ≡ false = grind (arith, nat_tests) in
      has_player-singleton_other p i (λ e. ne (sym e)) ∙ sym t
]

pub entry_single : (measure : Measure) (n : ℕ) (front : List Level) (p i : ℕ) → p < n → i < n
    → entry_of measure n (column n front (single_id n front p)) i ≡ (if nat_eq p i then pos 1 else pos 0)
entry_single measure n front p i k h =
    let t : nat_lt i n ≡ true = grind (arith, nat_tests) in
    cc (column_single n front p k, alone_test p i)
