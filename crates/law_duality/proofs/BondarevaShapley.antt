-- Every game has a core point or a balanced collection of excess worth, by Farkas's lemma: the shares are the unknowns,
-- each coalition asks for its worth, and that of all asks for no more. The factors of a contradiction are the weights.
--
-- There are 2^n + 1 inequalities. Fractions that meet them are a core point (`core_point`). Otherwise the weight of the
-- last inequality is k. It is positive, since at 0 each coalition with a member would have weight 0 (`no_weight`). The
-- collection has the coalitions of positive weight in mask order (`collected`), over the greatest common divisor
-- (`reduced` in CommonDivisors.antt).
use Rattle.std.proofs.Common.{◌≡◌, ℕ, zero, suc, ◌+◌, ◌-◌, ◌^◌, ◌<◌, ◌≤◌, Bool, cond, List, [], ◌∷◌, length}
use Rattle.std.proofs.Common.{slice_index_or, ℤ, pos, neg_ℤ, ◌+ℤ◌, ◌*ℤ◌, ◌<ℤ◌, ◌≤ℤ◌, int_lt, refl, sym, ap, ◌∙◌, inl}
use Rattle.std.proofs.Common.{inr, arith, nat_eq, if◌then◌else◌}
use Rattle.std.specs.List.{AllByRecursion}
use Rattle.std.proofs.lemmas.Int.{ints, by_lt_z}
use Rattle.definitions.proofs.Ring.{linear, mul-zeroℤ, zero-mulℤ, mul-oneℤ, one-mulℤ}
use Rattle.definitions.proofs.Members.{has_player-empty, sum_below-same, sum_below-times, sum_below-zero}
use Rattle.definitions.proofs.Members.{sum_below-front, sum_over-grand_coalition, sum_below-nonnegative, times_bit}
use Rattle.definitions.proofs.SumsOver.{sum_over-same}
use Rattle.definitions.proofs.Masks.{grand_coalition-within}
use Rattle.definitions.proofs.Cases.{nat_eq-same, nat_eq-less, less_or_last}
use Rattle.definitions.specs.Sums.{sum_below, weighted_sum}
use Rattle.definitions.specs.Coalitions.{has_player, grand_coalition, sum_over, weight_at}
use Rattle.definitions.specs.Games.{Game, Allocation, share, amount, InCore}
use Rattle.definitions.specs.Balanced.{AscendsFrom}
use Rattle.law_duality.specs.Farkas.{MeetsAll, Contradicts}
use Rattle.law_duality.specs.BondarevaShapley.{HasBalancedCollection, BondarevaShapley}
use Rattle.theorems.proofs.Bondareva.{collection_blocks}
use Rattle.definitions.proofs.SomeMembers.{some_member}
use Rattle.law_duality.proofs.CommonDivisors.{IsUnreduced, reduced}
use Rattle.law_duality.proofs.Farkas.{farkas}
use Rattle.theorems.proofs.Products.{products}

-- ---- what the coalitions ask for

-- 1 for a member
abbrev pub member : ℕ → ℕ → ℤ
member s i = if has_player s i then pos 1 else pos 0

-- the coefficients: each coalition's members, and behind them all players with a minus
abbrev asked : ℕ → ℕ → ℕ → ℤ
asked n s i = if nat_eq s (2 ^ n) then neg_ℤ (pos 1) else member s i

-- the right sides
abbrev wanted : Game → ℕ → ℤ
wanted g s = if nat_eq s (2 ^ g.players) then neg_ℤ (g.worth (grand_coalition g.players)) else g.worth s

pub member_times : (b : Bool) (z : ℤ) → cond b (pos 1) (pos 0) *ℤ z ≡ cond b z (pos 0)
member_times b z = grind (arith, one-mulℤ, zero-mulℤ)

asked_members : (n s : ℕ) (x : ℕ → ℤ) → s < 2 ^ n → sum_below n (λ i. asked n s i *ℤ x i) ≡ sum_over n x s
asked_members n s x h =
    sum_below-same n (λ i. asked n s i *ℤ x i) (λ i. if has_player s i then x i else pos 0)
    (λ i lt. rw (nat_eq-less s (2 ^ n) h) (member_times (has_player s i) (x i)))

asked_all : (n : ℕ) (x : ℕ → ℤ) → sum_below n (λ i. asked n (2 ^ n) i *ℤ x i) ≡ neg_ℤ (sum_below n x)
asked_all n x =
    let same = sum_below-same n (λ i. asked n (2 ^ n) i *ℤ x i) (λ i. neg_ℤ (pos 1) *ℤ x i)
    (λ i lt. rw (nat_eq-same (2 ^ n)) refl) in
    omega (products, same, sum_below-times n x (neg_ℤ (pos 1)))

wanted_of : (g : Game) (s : ℕ) → s < 2 ^ g.players → wanted g s ≡ g.worth s
wanted_of g s h = rw (nat_eq-less s (2 ^ g.players) h) refl

wanted_all : (g : Game) → wanted g (2 ^ g.players) ≡ neg_ℤ (g.worth (grand_coalition g.players))
wanted_all g = rw (nat_eq-same (2 ^ g.players)) refl

-- ---- a core point

abbrev pub listed : ℕ → (ℕ → ℤ) → List ℤ
listed zero x = []
listed (suc n) x = x 0 ∷ listed n (λ i. x (suc i))

pub listed_length : (n : ℕ) (x : ℕ → ℤ) → length (listed n x) ≡ n
listed_length zero x = refl
listed_length (suc n) x = ap suc (listed_length n (λ i. x (suc i)))

pub listed_at : (n : ℕ) (x : ℕ → ℤ) (i : ℕ) → i < n → slice_index_or (listed n x) i (pos 0) ≡ x i
listed_at zero x i h = absurd (omega arith)
listed_at (suc n) x zero h = refl
listed_at (suc n) x (suc i) h = listed_at n (λ i. x (suc i)) i (omega arith)

abbrev pub point : ℕ → (ℕ → ℤ) → ℤ → Allocation
point n x q = record { shares = listed n x; den = q }

pub amount_point : (n : ℕ) (x : ℕ → ℤ) (q : ℤ) (s : ℕ) → amount (point n x q) s ≡ sum_over n x s
amount_point n x q s =
    ap (λ m. sum_over m (share (point n x q)) s) (listed_length n x)
    ∙ sum_over-same n (share (point n x q)) x s (listed_at n x)

core_point : (g : Game) (x : ℕ → ℤ) (q : ℤ)
    → MeetsAll (suc (2 ^ g.players)) g.players (asked g.players) (wanted g) x q → InCore g (point g.players x q)
core_point g x q meets = (
  (listed_length g.players x, meets.0),
  efficient,
  λ s lt blocks. omega (arith, linear, blocks, low s lt, amount_point g.players x q s),
)
  where
    low : (s : ℕ) → s < 2 ^ g.players → (q *ℤ g.worth s) ≤ℤ sum_over g.players x s
    low s lt =
        omega (products, meets.1 s (omega arith), asked_members g.players s x lt, ap (◌*ℤ◌ q) (wanted_of g s lt))

    efficient : amount (point g.players x q) (grand_coalition g.players) ≡ q *ℤ g.worth (grand_coalition g.players)
    efficient =
        let all = grand_coalition g.players in
        omega (
          products,
          low all (grand_coalition-within g.players),
          meets.1 (2 ^ g.players) (omega arith),
          asked_all g.players x,
          ap (◌*ℤ◌ q) (wanted_all g),
          sum_over-grand_coalition g.players x,
          amount_point g.players x q all,
        )

-- ---- the collection of the coalitions of positive weight

abbrev collected : (ℕ → ℤ) → ℕ → ℕ → List (ℕ × ℤ)
collected w j zero = []
collected w j (suc c) = if int_lt (pos 0) (w j) then (j, w j) ∷ collected w (j + 1) c else collected w (j + 1) c

collected_ascends : (w : ℕ → ℤ) (low j c : ℕ) → low < j → AscendsFrom low (collected w j c)
collected_ascends w low j zero h = tt
collected_ascends w low j (suc c) h =
    ascends_either (int_lt (pos 0) (w j)) (collected_ascends w j (j + 1) c (omega arith))
    (collected_ascends w low (j + 1) c (omega arith))
  where
    ascends_either : (b : Bool) → AscendsFrom j (collected w (j + 1) c) → AscendsFrom low (collected w (j + 1) c)
        → AscendsFrom low (cond b ((j, w j) ∷ collected w (j + 1) c) (collected w (j + 1) c))
    ascends_either b taken left = grind arith

collected_within : (w : ℕ → ℤ) (j c n : ℕ) → j + c ≤ n → AllByRecursion (λ (p : ℕ × ℤ). p.0 < n) (collected w j c)
collected_within w j zero n h = tt
collected_within w j (suc c) n h = within_either (int_lt (pos 0) (w j)) (collected_within w (j + 1) c n (omega arith))
  where
    within_either : (b : Bool) → AllByRecursion (λ (p : ℕ × ℤ). p.0 < n) (collected w (j + 1) c)
        → AllByRecursion (λ (p : ℕ × ℤ). p.0 < n)
        (cond b ((j, w j) ∷ collected w (j + 1) c) (collected w (j + 1) c))
    within_either b ih = grind arith

collected_positive : (w : ℕ → ℤ) (j c : ℕ) → AllByRecursion (λ (p : ℕ × ℤ). pos 1 ≤ℤ p.1) (collected w j c)
collected_positive w j zero = tt
collected_positive w j (suc c) = positive_either (int_lt (pos 0) (w j)) refl (collected_positive w (j + 1) c)
  where
    positive_either : (b : Bool) → int_lt (pos 0) (w j) ≡ b
        → AllByRecursion (λ (p : ℕ × ℤ). pos 1 ≤ℤ p.1) (collected w (j + 1) c)
        → AllByRecursion (λ (p : ℕ × ℤ). pos 1 ≤ℤ p.1)
        (cond b ((j, w j) ∷ collected w (j + 1) c) (collected w (j + 1) c))
    positive_either b e ih = grind (arith, ints)

collected_sum : (f w : ℕ → ℤ) (j c : ℕ) → ((s : ℕ) → s < j + c → pos 0 ≤ℤ w s)
    → weighted_sum f (collected w j c) ≡ sum_below c (λ t. w (j + t) *ℤ f (j + t))
collected_sum f w j zero low = refl
collected_sum f w j (suc c) low =
    let ih = collected_sum f w (j + 1) c (λ s h. low s (omega arith)) in
    let moved = sum_below-same c (λ t. w (j + 1 + t) *ℤ f (j + 1 + t)) (λ t. w (j + suc t) *ℤ f (j + suc t))
    (λ t h. ap (λ (s : ℕ). w s *ℤ f s) (shift t)) in
    let first : w (j + 0) *ℤ f (j + 0) ≡ w j *ℤ f j = ap (λ (s : ℕ). w s *ℤ f s) (omega arith) in
    sum_either (int_lt (pos 0) (w j)) refl ∙ ap (λ (z : ℤ). w j *ℤ f j +ℤ z) (ih ∙ moved)
    ∙ ap (λ (z : ℤ). z +ℤ sum_below c (λ t. w (j + suc t) *ℤ f (j + suc t))) (sym first)
    ∙ sym (sum_below-front c (λ t. w (j + t) *ℤ f (j + t)))
  where
    shift : (t : ℕ) → j + 1 + t ≡ j + suc t
    shift t = omega arith

    sum_either : (b : Bool) → int_lt (pos 0) (w j) ≡ b
        → weighted_sum f (cond b ((j, w j) ∷ collected w (j + 1) c) (collected w (j + 1) c))
        ≡ w j *ℤ f j +ℤ weighted_sum f (collected w (j + 1) c)
    sum_either b e = grind (arith, ints, low, zero-mulℤ)

pub weights_at : (ps : List (ℕ × ℤ)) (i : ℕ) → weight_at ps i ≡ weighted_sum (λ s. member s i) ps
weights_at [] i = refl
weights_at (p ∷ ps) i = omega (arith, linear, weights_at ps i, times_bit (has_player p.0 i) p.1)

-- nothing is lost with the empty coalition
without_empty : (n : ℕ) (f w : ℕ → ℤ) → ((s : ℕ) → s < 2 ^ n → pos 0 ≤ℤ w s) → w 0 *ℤ f 0 ≡ pos 0
    → weighted_sum f (collected w 1 (2 ^ n - 1)) ≡ sum_below (2 ^ n) (λ s. w s *ℤ f s)
without_empty n f w low none =
    let some = grand_coalition-within n in
    let e : 2 ^ n ≡ suc (2 ^ n - 1) = omega (arith, some) in
    let moved = sum_below-same (2 ^ n - 1) (λ t. w (1 + t) *ℤ f (1 + t)) (λ t. w (suc t) *ℤ f (suc t))
    (λ t h. ap (λ (s : ℕ). w s *ℤ f s) (shift t)) in
    omega (
      products,
      collected_sum f w 1 (2 ^ n - 1) (λ s h. low s (omega (arith, some))),
      moved,
      ap (λ (m : ℕ). sum_below m (λ s. w s *ℤ f s)) e,
      sum_below-front (2 ^ n - 1) (λ s. w s *ℤ f s),
      none,
    )
  where
    shift : (t : ℕ) → 1 + t ≡ suc t
    shift t = omega arith

-- ---- the weight of all is positive

-- numbers of at least 0 add to at least each

one_of_sum : (m s : ℕ) (f : ℕ → ℤ) → ((s : ℕ) → s < m → pos 0 ≤ℤ f s) → s < m → f s ≤ℤ sum_below m f
one_of_sum zero s f low lt = absurd (omega arith)
one_of_sum (suc m) s f low lt = elim (less_or_last s m lt) [
  | inl less ↦ omega (arith, linear, one_of_sum m s f (λ t h. low t (omega arith)) less, low m (omega arith))
  | inr same ↦ (let e = ap f same in omega (arith, linear, sum_below-nonnegative m f (λ t h. low t (omega arith)), e))
]

member_low : (b : Bool) (z : ℤ) → pos 0 ≤ℤ z → pos 0 ≤ℤ (z *ℤ cond b (pos 1) (pos 0))
member_low b z h = grind (arith, linear, mul-oneℤ, mul-zeroℤ)

module _ (g : Game) (nobody : g.worth 0 ≡ pos 0) (w : ℕ → ℤ)
    (c : Contradicts (suc (2 ^ g.players)) g.players (asked g.players) (wanted g) w) where
  abbrev n : ℕ
  n = g.players

  abbrev k : ℤ
  k = w (2 ^ g.players)

  low : (s : ℕ) → s < 2 ^ n → pos 0 ≤ℤ w s
  low s lt = c.0 s (omega arith)

  balance : (i : ℕ) → i < n → sum_below (2 ^ n) (λ s. w s *ℤ member s i) ≡ k
  balance i lt =
      let same = sum_below-same (2 ^ n) (λ s. w s *ℤ asked n s i) (λ s. w s *ℤ member s i)
      (λ s h. ap (◌*ℤ◌ (w s)) (rw (nat_eq-less s (2 ^ n) h) refl)) in
      let last : asked n (2 ^ n) i ≡ neg_ℤ (pos 1) = rw (nat_eq-same (2 ^ n)) refl in
      omega (products, c.1 i lt, same, ap (◌*ℤ◌ k) last)

  excess : (k *ℤ g.worth (grand_coalition n)) <ℤ sum_below (2 ^ n) (λ s. w s *ℤ g.worth s)
  excess =
      let same = sum_below-same (2 ^ n) (λ s. w s *ℤ wanted g s) (λ s. w s *ℤ g.worth s)
      (λ s h. ap (◌*ℤ◌ (w s)) (wanted_of g s h)) in
      omega (products, c.2, same, ap (◌*ℤ◌ k) (wanted_all g))

  -- without a weight of all no coalition with members has a weight
  no_weight : k ≤ℤ pos 0 → (s : ℕ) → s < 2 ^ n → w s *ℤ g.worth s ≡ pos 0
  no_weight le zero lt = ap (◌*ℤ◌ (w 0)) nobody ∙ mul-zeroℤ (w 0)
  no_weight le (suc t) lt =
      let i = some_member n (suc t) (omega arith) lt in
      let part = one_of_sum (2 ^ n) (suc t) (λ s. w s *ℤ member s i.0)
      (λ s h. member_low (has_player s i.0) (w s) (low s h)) lt in
      let is : w (suc t) *ℤ member (suc t) i.0 ≡ w (suc t) = rw i.2 (mul-oneℤ (w (suc t))) in
      let none : w (suc t) ≡ pos 0 = omega (arith, linear, part, is, balance i.0 i.1, le, low (suc t) lt) in
      ap (λ (z : ℤ). z *ℤ g.worth (suc t)) none ∙ zero-mulℤ (g.worth (suc t))

  positive : pos 1 ≤ℤ k
  positive = by_lt_z (pos 0) k (λ lt. omega (arith, linear, lt)) (λ le.
      let zero_weight : k ≡ pos 0 = omega (arith, linear, le, c.0 (2 ^ n) (omega arith)) in
      let none = sum_below-zero (2 ^ n) (λ s. w s *ℤ g.worth s) (no_weight le) in
      absurd
      (omega (products, excess, none, ap (λ (z : ℤ). z *ℤ g.worth (grand_coalition n)) zero_weight)))

  collection : IsUnreduced g (collected w 1 (2 ^ n - 1)) k
  collection = record {
    positive = positive;
    ascends = collected_ascends w 0 1 (2 ^ n - 1) (omega arith);
    within = (let some = grand_coalition-within n in collected_within w 1 (2 ^ n - 1) (2 ^ n) (omega (arith, some)));
    weights = collected_positive w 1 (2 ^ n - 1);
    balanced = λ i lt. weights_at (collected w 1 (2 ^ n - 1)) i
        ∙ without_empty n (λ s. member s i) w low (rw (has_player-empty i) (mul-zeroℤ (w 0))) ∙ balance i lt;
    excess_worth =
        omega
        (arith, linear, excess, without_empty n g.worth w low (ap (◌*ℤ◌ (w 0)) nobody ∙ mul-zeroℤ (w 0)));
  }

  pub found : HasBalancedCollection g
  found = reduced g (collected w 1 (2 ^ n - 1)) k collection

pub bondareva_shapley : BondarevaShapley
bondareva_shapley g nobody = elim (farkas (suc (2 ^ g.players)) g.players (asked g.players) (wanted g)) [
  | inl r ↦
      (let core = core_point g r.0 r.1 r.2 in
      inl ((point g.players r.0 r.1, core), λ h. collection_blocks g h.0 h.1 (point g.players r.0 r.1) h.2 core))
  | inr r ↦ (let h = found g nobody r.0 r.1 in inr (h, λ p. collection_blocks g h.0 h.1 p.0 h.2 p.1))
]
