-- By Farkas's lemma: some transfer between players raises what each of some coalitions gets and leaves others as they
-- are, or weights on these coalitions balance (Kohlberg 1971; Sobolev 1975).
use Rattle.std.proofs.Common.{◌≡◌, ◌⊎◌, ℕ, zero, suc, ◌<◌, Bool, true, false, cond, ◌||◌, List, [], ◌∷◌, ◌++◌, ℤ, pos}
use Rattle.std.proofs.Common.{neg_ℤ, ◌+ℤ◌, ◌-ℤ◌, ◌*ℤ◌, ◌<ℤ◌, ◌≤ℤ◌, refl, sym, ap, ◌∙◌, inl, inr, arith, if◌then◌else◌}
use Rattle.std.specs.List.{AllByRecursion}
use Rattle.std.proofs.lemmas.Bool.{false≢true}
use Rattle.std.proofs.lemmas.Int.{by_lt_z}
use Rattle.definitions.proofs.Ring.{linear, mul-zeroℤ, zero-mulℤ, mul-oneℤ, mul_assocℤ, mul-nonnegativeℤ}
use Rattle.definitions.proofs.Members.{sum_below-same, sum_below-times, sum_below-zero, sum_below-front}
use Rattle.definitions.proofs.Alls.{all_join, all_left, all_right}
use Rattle.definitions.proofs.Cases.{less_or_last, or_left, or_right}
use Rattle.definitions.specs.Sums.{sum_below}
use Rattle.definitions.specs.Coalitions.{has_player, sum_over}
use Rattle.law_duality.proofs.Elimination.{Row, Meets, combined, IsClosed, Contradiction, value_combined, eliminate}
use Rattle.law_duality.proofs.Farkas.{unit_at, unit_at-low, unit_at-other, sum_below-unit}
use Rattle.law_duality.proofs.BondarevaShapley.{member, member_times}
use Rattle.theorems.proofs.Products.{products}

-- ---- rows of the numbers that pass a test

abbrev rows_where : (ℕ → Bool) → (ℕ → Row) → ℕ → List Row
rows_where test f zero = []
rows_where test f (suc k) = if test k then f k ∷ rows_where test f k else rows_where test f k

rows_all : (Q : Row → Type 0) (test : ℕ → Bool) (f : ℕ → Row) (k : ℕ)
    → ((t : ℕ) → t < k → test t ≡ true → Q (f t)) → AllByRecursion Q (rows_where test f k)
rows_all Q test f zero h = tt
rows_all Q test f (suc k) h = next_all (test k) refl (rows_all Q test f k (λ t lt e. h t (omega arith) e))
  where
    next_all : (b : Bool) → test k ≡ b → AllByRecursion Q (rows_where test f k)
        → AllByRecursion Q (cond b (f k ∷ rows_where test f k) (rows_where test f k))
    next_all b e ih = grind arith

rows_at : (Q : Row → Type 0) (test : ℕ → Bool) (f : ℕ → Row) (k t : ℕ) → AllByRecursion Q (rows_where test f k)
    → t < k → test t ≡ true → Q (f t)
rows_at Q test f zero t h lt e = absurd (omega arith)
rows_at Q test f (suc k) t h lt e = next_at (test k) refl (λ all less. rows_at Q test f k t all less e) h
  where
    next_at : (b : Bool) → test k ≡ b → (AllByRecursion Q (rows_where test f k) → t < k → Q (f t))
        → AllByRecursion Q (cond b (f k ∷ rows_where test f k) (rows_where test f k)) → Q (f t)
    next_at true is later all = elim (less_or_last t k lt) [
      | inl less ↦ later all.1 less
      | inr same ↦ rw same all.0
    ]
    next_at false is later all = elim (less_or_last t k lt) [
      | inl less ↦ later all less
      | inr same ↦ absurd (false≢true (sym is ∙ sym (ap test same) ∙ e))
    ]

-- ---- sums with one number

sum_no_weight : (m : ℕ) (f : ℕ → ℤ) → sum_below m (λ k. pos 0 *ℤ f k) ≡ pos 0
sum_no_weight m f = sum_below-zero m (λ k. pos 0 *ℤ f k) (λ k lt. zero-mulℤ (f k))

sum_one_weight : (m t : ℕ) (c : ℤ) (f : ℕ → ℤ) → t < m → sum_below m (λ k. (c *ℤ unit_at t k) *ℤ f k) ≡ c *ℤ f t
sum_one_weight m t c f lt =
    sum_below-same m (λ k. (c *ℤ unit_at t k) *ℤ f k) (λ k. c *ℤ (unit_at t k *ℤ f k))
    (λ k h. mul_assocℤ c (unit_at t k) (f k)) ∙ sum_below-times m (λ k. unit_at t k *ℤ f k) c
    ∙ ap (◌*ℤ◌ c) (sum_below-unit m t f lt)

unit_apart : (test : ℕ → Bool) (t k : ℕ) (c : ℤ) → test t ≡ true → test k ≡ false → c *ℤ unit_at t k ≡ pos 0
unit_apart test t k c e f =
    let zero : unit_at t k ≡ pos 0 = sym (mul-oneℤ (unit_at t k)) ∙ unit_at-other t k (pos 1)
    (λ same. false≢true (sym f ∙ ap test same ∙ e)) in
    ap (◌*ℤ◌ c) zero ∙ mul-zeroℤ c

-- ---- the rows, unknown 0 in front of the players

abbrev vector : ℤ → (ℕ → ℤ) → Row
vector c f zero = c
vector c f (suc i) = f i

-- Of m coalitions, suc t for each t below m: risers are to get more, still ones the same. Of n players: low ones are to
-- get no less, still ones the same.
module _ (n m : ℕ) (riser still : ℕ → Bool) (low fixed : ℕ → Bool) where
  -- a transfer between the players
  pub record Direction : Type 0 where
    pub gain : ℕ → ℤ
    pub total : sum_below n gain ≡ pos 0
    pub risers : (t : ℕ) → t < m → riser t ≡ true → pos 1 ≤ℤ sum_over n gain (suc t)
    pub stills : (t : ℕ) → t < m → still t ≡ true → sum_over n gain (suc t) ≡ pos 0
    pub lows : (i : ℕ) → i < n → low i ≡ true → pos 0 ≤ℤ gain i
    pub fixeds : (i : ℕ) → i < n → fixed i ≡ true → gain i ≡ pos 0

  -- weights on risers, on still coalitions and on low and fixed players
  record Made (u : Row) : Type 0 where
    pub weights : ℕ → ℤ
    pub others : ℕ → ℤ
    pub bounds : ℕ → ℤ
    pub total : ℤ
    pub positive : (t : ℕ) → pos 0 ≤ℤ weights t
    pub on_risers : (t : ℕ) → riser t ≡ false → weights t ≡ pos 0
    pub on_still : (t : ℕ) → still t ≡ false → others t ≡ pos 0
    pub bounds_positive : (i : ℕ) → fixed i ≡ false → pos 0 ≤ℤ bounds i
    pub on_bounds : (i : ℕ) → (low i || fixed i) ≡ false → bounds i ≡ pos 0
    pub head : u 0 ≡ neg_ℤ (sum_below m (λ t. weights t *ℤ pos 1))
    pub entries : (i : ℕ)
        → u (suc i)
        ≡ sum_below m (λ t. weights t *ℤ member (suc t) i) +ℤ sum_below m (λ t. others t *ℤ member (suc t) i)
        +ℤ bounds i -ℤ total

  pub record Balance : Type 0 where
    pub weights : ℕ → ℤ
    pub others : ℕ → ℤ
    pub bounds : ℕ → ℤ
    pub total : ℤ
    pub positive : (t : ℕ) → pos 0 ≤ℤ weights t
    pub on_risers : (t : ℕ) → riser t ≡ false → weights t ≡ pos 0
    pub on_still : (t : ℕ) → still t ≡ false → others t ≡ pos 0
    pub bounds_positive : (i : ℕ) → fixed i ≡ false → pos 0 ≤ℤ bounds i
    pub on_bounds : (i : ℕ) → (low i || fixed i) ≡ false → bounds i ≡ pos 0
    pub one : ℕ
    pub within : one < m
    pub weighs : pos 1 ≤ℤ weights one
    pub balanced : (i : ℕ) → i < n
        → sum_below m (λ t. weights t *ℤ member (suc t) i) +ℤ sum_below m (λ t. others t *ℤ member (suc t) i)
        +ℤ bounds i
        ≡ total

  combined_zero : (c d p q : ℤ) → p ≡ pos 0 → q ≡ pos 0 → c *ℤ p +ℤ d *ℤ q ≡ pos 0
  combined_zero c d p q e f = omega (products, ap (◌*ℤ◌ c) e, ap (◌*ℤ◌ d) f)

  combined_low : (c d p q : ℤ) → pos 0 ≤ℤ c → pos 0 ≤ℤ d → pos 0 ≤ℤ p → pos 0 ≤ℤ q → pos 0 ≤ℤ (c *ℤ p +ℤ d *ℤ q)
  combined_low c d p q hc hd hp hq = omega (arith, linear, mul-nonnegativeℤ c p hc hp, mul-nonnegativeℤ d q hd hq)

  made_closed : IsClosed Made
  made_closed c d u v hc hd p q = record {
    weights = combined c d p.weights q.weights;
    others = combined c d p.others q.others;
    bounds = combined c d p.bounds q.bounds;
    total = c *ℤ p.total +ℤ d *ℤ q.total;
    positive = λ t. combined_low c d (p.weights t) (q.weights t) hc hd (p.positive t) (q.positive t);
    on_risers = λ t e. combined_zero c d (p.weights t) (q.weights t) (p.on_risers t e) (q.on_risers t e);
    on_still = λ t e. combined_zero c d (p.others t) (q.others t) (p.on_still t e) (q.on_still t e);
    bounds_positive = λ i e. combined_low c d (p.bounds i) (q.bounds i) hc hd (p.bounds_positive i e)
        (q.bounds_positive i e);
    on_bounds = λ i e. combined_zero c d (p.bounds i) (q.bounds i) (p.on_bounds i e) (q.on_bounds i e);
    head = (let a = sum_below m (λ t. p.weights t *ℤ pos 1) in
        let b = sum_below m (λ t. q.weights t *ℤ pos 1) in
        omega
        (products, value_combined m (λ t. pos 1) c d p.weights q.weights, ap (◌*ℤ◌ c) p.head, ap (◌*ℤ◌ d) q.head));
    entries = λ i.
        let a = sum_below m (λ t. p.weights t *ℤ member (suc t) i) in
        let b = sum_below m (λ t. p.others t *ℤ member (suc t) i) in
        let a' = sum_below m (λ t. q.weights t *ℤ member (suc t) i) in
        let b' = sum_below m (λ t. q.others t *ℤ member (suc t) i) in
        omega (
          products,
          value_combined m (λ t. member (suc t) i) c d p.weights q.weights,
          value_combined m (λ t. member (suc t) i) c d p.others q.others,
          spread c (u (suc i)) a b (p.bounds i) p.total (p.entries i),
          spread d (v (suc i)) a' b' (q.bounds i) q.total (q.entries i),
        );
  }
    where
      spread : (c u a b k t : ℤ) → u ≡ a +ℤ b +ℤ k -ℤ t → c *ℤ u ≡ c *ℤ a +ℤ c *ℤ b +ℤ c *ℤ k -ℤ c *ℤ t
      spread c u a b k t e = omega (products, ap (◌*ℤ◌ c) e)

  -- ---- each row is made

  abbrev none : ℕ → ℤ
  none t = pos 0

  made_riser : (t : ℕ) → t < m → riser t ≡ true → Made (vector (neg_ℤ (pos 1)) (member (suc t)))
  made_riser t lt e = record {
    weights = λ k. pos 1 *ℤ unit_at t k;
    others = none;
    bounds = none;
    total = pos 0;
    positive = λ k. omega (products, unit_at-low t k);
    on_risers = λ k f. unit_apart riser t k (pos 1) e f;
    on_still = λ k f. refl;
    bounds_positive = λ i f. omega (arith, linear);
    on_bounds = λ i f. refl;
    head = omega (products, sum_one_weight m t (pos 1) (λ k. pos 1) lt);
    entries = λ i. omega (
      products,
      sum_one_weight m t (pos 1) (λ k. member (suc k) i) lt,
      sum_no_weight m (λ k. member (suc k) i),
    );
  }

  made_still : (c : ℤ) (t : ℕ) → t < m → still t ≡ true → Made (vector (pos 0) (λ i. c *ℤ member (suc t) i))
  made_still c t lt e = record {
    weights = none;
    others = λ k. c *ℤ unit_at t k;
    bounds = none;
    total = pos 0;
    positive = λ k. omega (arith, linear);
    on_risers = λ k f. refl;
    on_still = λ k f. unit_apart still t k c e f;
    bounds_positive = λ i f. omega (arith, linear);
    on_bounds = λ i f. refl;
    head = omega (arith, linear, sum_no_weight m (λ k. pos 1));
    entries = λ i. omega (
      products,
      sum_one_weight m t c (λ k. member (suc k) i) lt,
      sum_no_weight m (λ k. member (suc k) i),
    );
  }

  made_bound : (c : ℤ) (i : ℕ) → (low i || fixed i) ≡ true → (pos 0 ≤ℤ c) ⊎ (fixed i ≡ true)
      → Made (vector (pos 0) (λ k. c *ℤ unit_at i k))
  made_bound c i e h = record {
    weights = none;
    others = none;
    bounds = λ k. c *ℤ unit_at i k;
    total = pos 0;
    positive = λ k. omega (arith, linear);
    on_risers = λ k f. refl;
    on_still = λ k f. refl;
    bounds_positive = λ k f. elim h [
      | inl pc ↦ mul-nonnegativeℤ c (unit_at i k) pc (unit_at-low i k)
      | inr g ↦ omega (arith, linear, unit_apart fixed i k c g f)
    ];
    on_bounds = λ k f. unit_apart (λ j. low j || fixed j) i k c e f;
    head = omega (arith, linear, sum_no_weight m (λ k. pos 1));
    entries = λ k. omega (arith, linear, sum_no_weight m (λ t. member (suc t) k));
  }

  made_all : (c : ℤ) → Made (vector (pos 0) (λ i. c))
  made_all c = record {
    weights = none;
    others = none;
    bounds = none;
    total = neg_ℤ c;
    positive = λ k. omega (arith, linear);
    on_risers = λ k f. refl;
    on_still = λ k f. refl;
    bounds_positive = λ i f. omega (arith, linear);
    on_bounds = λ i f. refl;
    head = omega (arith, linear, sum_no_weight m (λ k. pos 1));
    entries = λ i. omega (arith, linear, sum_no_weight m (λ k. member (suc k) i));
  }

  abbrev up : ℤ
  up = pos 1

  abbrev down : ℤ
  down = neg_ℤ (pos 1)

  abbrev riser_rows : List Row
  riser_rows = rows_where riser (λ t. vector down (member (suc t))) m

  abbrev still_rows : ℤ → List Row
  still_rows c = rows_where still (λ t. vector (pos 0) (λ i. c *ℤ member (suc t) i)) m

  abbrev bound_rows : List Row
  bound_rows = rows_where (λ i. low i || fixed i) (λ i. vector (pos 0) (λ k. up *ℤ unit_at i k)) n

  abbrev fixed_rows : List Row
  fixed_rows = rows_where fixed (λ i. vector (pos 0) (λ k. down *ℤ unit_at i k)) n

  abbrev all_rows : List Row
  all_rows = vector (pos 0) (λ i. up) ∷ (vector (pos 0) (λ i. down) ∷ [])

  abbrev after_bounds : List Row
  after_bounds = fixed_rows ++ all_rows

  abbrev after_down : List Row
  after_down = bound_rows ++ after_bounds

  abbrev after_up : List Row
  after_up = still_rows down ++ after_down

  abbrev after_risers : List Row
  after_risers = still_rows up ++ after_up

  abbrev rows : List Row
  rows = riser_rows ++ after_risers

  rows_made : AllByRecursion Made rows
  rows_made =
      all_join Made riser_rows after_risers
      (rows_all Made riser (λ t. vector down (member (suc t))) m made_riser)
      (all_join Made (still_rows up) after_up
      (rows_all Made still (λ t. vector (pos 0) (λ i. up *ℤ member (suc t) i)) m (made_still up))
      (all_join Made (still_rows down) after_down
      (rows_all Made still (λ t. vector (pos 0) (λ i. down *ℤ member (suc t) i)) m (made_still down))
      (all_join Made bound_rows after_bounds
      (rows_all Made (λ i. low i || fixed i) (λ i. vector (pos 0) (λ k. up *ℤ unit_at i k)) n
      (λ i lt e. made_bound up i e (inl (omega (arith, linear)))))
      (all_join Made fixed_rows all_rows
      (rows_all Made fixed (λ i. vector (pos 0) (λ k. down *ℤ unit_at i k)) n
      (λ i lt e. made_bound down i (or_right (low i) (fixed i) e) (inr e)))
      (made_all up, (made_all down, tt))))))

  -- ---- a point that meets all rows is a direction

  value_vector : (c : ℤ) (f : ℕ → ℤ) (y : Row)
      → sum_below (suc n) (λ i. vector c f i *ℤ y i) ≡ c *ℤ y 0 +ℤ sum_below n (λ i. f i *ℤ y (suc i))
  value_vector c f y = sum_below-front n (λ i. vector c f i *ℤ y i)

  times_members : (c : ℤ) (s : ℕ) (z : ℕ → ℤ)
      → sum_below n (λ i. (c *ℤ member s i) *ℤ z i) ≡ c *ℤ sum_over n z s
  times_members c s z =
      sum_below-same n (λ i. (c *ℤ member s i) *ℤ z i) (λ i. c *ℤ (if has_player s i then z i else pos 0))
      (λ i lt. mul_assocℤ c (member s i) (z i) ∙ ap (◌*ℤ◌ c) (member_times (has_player s i) (z i)))
      ∙ sum_below-times n (λ i. if has_player s i then z i else pos 0) c

  plain_members : (s : ℕ) (z : ℕ → ℤ) → sum_below n (λ i. member s i *ℤ z i) ≡ sum_over n z s
  plain_members s z =
      sum_below-same n (λ i. member s i *ℤ z i) (λ i. if has_player s i then z i else pos 0)
      (λ i lt. member_times (has_player s i) (z i))

  direction_of : (y : Row) → pos 1 ≤ℤ y 0 → AllByRecursion (Meets (suc n) y) rows → Direction
  direction_of y one all =
      let Q = Meets (suc n) y in
      let z : ℕ → ℤ = λ i. y (suc i) in
      let rest1 = all_right Q riser_rows after_risers all in
      let rest2 = all_right Q (still_rows up) after_up rest1 in
      let rest3 = all_right Q (still_rows down) after_down rest2 in
      let rest4 = all_right Q bound_rows after_bounds rest3 in
      let rest5 = all_right Q fixed_rows all_rows rest4 in
      let rs = all_left Q riser_rows after_risers all in
      let bs = all_left Q (still_rows up) after_up rest1 in
      let cs = all_left Q (still_rows down) after_down rest2 in
      let ds = all_left Q bound_rows after_bounds rest3 in
      let es = all_left Q fixed_rows all_rows rest4 in
      let bound_low : (i : ℕ) → i < n → (low i || fixed i) ≡ true → pos 0 ≤ℤ z i = λ i lt e.
      let h = rows_at Q (λ i. low i || fixed i) (λ i. vector (pos 0) (λ k. up *ℤ unit_at i k)) n i ds lt e in
      omega (products, h, value_vector (pos 0) (λ k. up *ℤ unit_at i k) y, sum_one_weight n i up z lt) in
      record {
        gain = z;
        total = omega (
          products,
          rest5.0,
          rest5.1.0,
          value_vector (pos 0) (λ i. up) y,
          value_vector (pos 0) (λ i. down) y,
          sum_below-times n z up,
          sum_below-times n z down,
        );
        risers = λ t lt e.
            let h = rows_at Q riser (λ t. vector down (member (suc t))) m t rs lt e in
            omega (products, h, value_vector down (member (suc t)) y, plain_members (suc t) z, one);
        stills = λ t lt e.
            omega (
              products,
              rows_at Q still (λ t. vector (pos 0) (λ i. up *ℤ member (suc t) i)) m t bs lt e,
              rows_at Q still (λ t. vector (pos 0) (λ i. down *ℤ member (suc t) i)) m t cs lt e,
              value_vector (pos 0) (λ i. up *ℤ member (suc t) i) y,
              value_vector (pos 0) (λ i. down *ℤ member (suc t) i) y,
              times_members up (suc t) z,
              times_members down (suc t) z,
            );
        lows = λ i lt e. bound_low i lt (or_left (low i) (fixed i) e);
        fixeds = λ i lt e.
            let h = bound_low i lt (or_right (low i) (fixed i) e) in
            let k = rows_at Q fixed (λ i. vector (pos 0) (λ k. down *ℤ unit_at i k)) n i es lt e in
            omega (products, h, k, value_vector (pos 0) (λ k. down *ℤ unit_at i k) y, sum_one_weight n i down z lt);
      }

  -- ---- a contradiction is a balance

  one_positive : (k : ℕ) (w : ℕ → ℤ) → pos 0 <ℤ sum_below k (λ t. w t *ℤ pos 1)
      → (t : ℕ) × (t < k) × (pos 1 ≤ℤ w t)
  one_positive zero w h = absurd (omega (arith, linear, h))
  one_positive (suc k) w h =
      by_lt_z (pos 0) (w k) (λ lt. (k, omega arith, omega (arith, linear, lt)))
      (λ le.
      let r = one_positive k w (omega (products, h, le)) in
      (r.0, (omega (arith, r.1)), r.2))

  balance_of : Contradiction n Made → Balance
  balance_of c =
      let w = c.made in
      let one = one_positive m w.weights (omega (arith, linear, c.negative, w.head)) in
      record {
        weights = w.weights;
        others = w.others;
        bounds = w.bounds;
        total = w.total;
        positive = w.positive;
        on_risers = w.on_risers;
        on_still = w.on_still;
        bounds_positive = w.bounds_positive;
        on_bounds = w.on_bounds;
        one = one.0;
        within = one.1;
        weighs = one.2;
        balanced = λ i lt.
            omega (arith, linear, c.zeros (suc i) (omega arith) (omega arith), w.entries i);
      }

  pub direction_or_balance : Direction ⊎ Balance
  direction_or_balance = elim (eliminate n Made made_closed rows rows_made) [
    | inl point ↦ inl (direction_of point.at point.unit point.meets)
    | inr c ↦ inr (balance_of c)
  ]
