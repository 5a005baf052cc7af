-- Lists of coalitions with values, each as often as its weight: for each coalition one list, of coalitions of no less
-- worth and with its worth as value, that holds each player equally often; and all lists in one.
use Rattle.std.proofs.Common.{◌≡◌, ◌⊎◌, ℕ, zero, suc, ◌+◌, ◌<◌, ◌≤◌, Bool, true, false, cond, List, [], ◌∷◌, ◌++◌}
use Rattle.std.proofs.Common.{length, length-append, get_or, unsigned_abs, ℤ, pos, ◌+ℤ◌, ◌*ℤ◌, ◌<ℤ◌, ◌≤ℤ◌, refl, sym}
use Rattle.std.proofs.Common.{ap, ◌∙◌, inl, inr, arith}
use Rattle.std.proofs.lemmas.Int.{ints, by_lt_z}
use Rattle.std.specs.Ordering.{int_eq}
use Rattle.std.specs.List.{AllByRecursion}
use Rattle.definitions.proofs.Ring.{linear, suc-mulℤ, zero-mulℤ, mul-zeroℤ}
use Rattle.definitions.proofs.Alls.{all_join}
use Rattle.definitions.proofs.Cases.{less_or_last, same_or_other}
use Rattle.definitions.proofs.Members.{has_player-singleton, has_player-singleton_other, sum_below-front}
use Rattle.definitions.proofs.Members.{sum_below-zero}
use Rattle.definitions.specs.Sums.{sum_below}
use Rattle.definitions.specs.Coalitions.{has_player, singleton}
use Rattle.law_answers.proofs.Numbers.{pos-unsigned_abs}
use Rattle.theorems.proofs.Products.{products}

-- ---- lists of pairs

abbrev pub list_sum : (ℕ × ℤ → ℤ) → List (ℕ × ℤ) → ℤ
list_sum f [] = pos 0
list_sum f (p ∷ ps) = f p +ℤ list_sum f ps

list_sum-append : (f : ℕ × ℤ → ℤ) (ps qs : List (ℕ × ℤ)) → list_sum f (ps ++ qs) ≡ list_sum f ps +ℤ list_sum f qs
list_sum-append f [] qs = omega (arith, linear)
list_sum-append f (p ∷ ps) qs = omega (arith, linear, list_sum-append f ps qs)

abbrev pub Holds : ℕ × ℤ → List (ℕ × ℤ) → Type 0
Holds p [] = ⊥
Holds p (q ∷ ps) = (q ≡ p) ⊎ Holds p ps

holds_front : (p : ℕ × ℤ) (ps qs : List (ℕ × ℤ)) → Holds p ps → Holds p (ps ++ qs)
holds_front p [] qs h = absurd h
holds_front p (q ∷ ps) qs (inl e) = inl e
holds_front p (q ∷ ps) qs (inr h) = inr (holds_front p ps qs h)

holds_back : (p : ℕ × ℤ) (ps qs : List (ℕ × ℤ)) → Holds p qs → Holds p (ps ++ qs)
holds_back p [] qs h = h
holds_back p (q ∷ ps) qs h = inr (holds_back p ps qs h)

-- by their places
pub held_at : (p d : ℕ × ℤ) (ps : List (ℕ × ℤ)) → Holds p ps → (l : ℕ) × (l < length ps) × (get_or ps l d ≡ p)
held_at p d [] h = absurd h
held_at p d (q ∷ ps) (inl e) = (0, omega arith, e)
held_at p d (q ∷ ps) (inr h) = (let found = held_at p d ps h in (suc found.0, omega (arith, found.1), found.2))

pub list_sum-places : (f : ℕ × ℤ → ℤ) (d : ℕ × ℤ) (ps : List (ℕ × ℤ))
    → sum_below (length ps) (λ l. f (get_or ps l d)) ≡ list_sum f ps
list_sum-places f d [] = refl
list_sum-places f d (p ∷ ps) =
    sum_below-front (length ps) (λ l. f (get_or (p ∷ ps) l d)) ∙ ap (λ z. f p +ℤ z) (list_sum-places f d ps)

-- ---- a pair some times

abbrev copies : ℕ → ℕ × ℤ → List (ℕ × ℤ)
copies zero p = []
copies (suc k) p = p ∷ copies k p

copies_sum : (f : ℕ × ℤ → ℤ) (k : ℕ) (p : ℕ × ℤ) → list_sum f (copies k p) ≡ pos k *ℤ f p
copies_sum f zero p = sym (zero-mulℤ (f p))
copies_sum f (suc k) p = omega (arith, linear, copies_sum f k p, suc-mulℤ k (f p))

copies_all : (P : ℕ × ℤ → Type 0) (k : ℕ) (p : ℕ × ℤ) → (0 < k → P p) → AllByRecursion P (copies k p)
copies_all P zero p h = tt
copies_all P (suc k) p h = (h (omega arith), copies_all P k p (λ lt. h (omega arith)))

copies_hold : (k : ℕ) (p : ℕ × ℤ) → 0 < k → Holds p (copies k p)
copies_hold k p lt = grind arith

-- ---- the coalitions below t, each as often as its weight, all with the value v

abbrev weighed : (ℕ → ℤ) → ℤ → ℕ → List (ℕ × ℤ)
weighed w v zero = []
weighed w v (suc t) = weighed w v t ++ copies (unsigned_abs (w t)) (t, v)

weighed_sum : (f : ℕ × ℤ → ℤ) (w : ℕ → ℤ) (v : ℤ) (t : ℕ) → ((s : ℕ) → s < t → pos 0 ≤ℤ w s)
    → list_sum f (weighed w v t) ≡ sum_below t (λ s. w s *ℤ f (s, v))
weighed_sum f w v zero low = refl
weighed_sum f w v (suc t) low =
    omega (
      products,
      list_sum-append f (weighed w v t) (copies (unsigned_abs (w t)) (t, v)),
      weighed_sum f w v t (λ s lt. low s (omega arith)),
      copies_sum f (unsigned_abs (w t)) (t, v),
      ap (λ z. z *ℤ f (t, v)) (pos-unsigned_abs (w t) (low t (omega arith))),
    )

some_weight : (z : ℤ) → pos 0 ≤ℤ z → 0 < unsigned_abs z → pos 1 ≤ℤ z
some_weight z low h = omega (arith, ints)

weighed_all : (P : ℕ × ℤ → Type 0) (w : ℕ → ℤ) (v : ℤ) (t : ℕ) → ((s : ℕ) → s < t → pos 0 ≤ℤ w s)
    → ((s : ℕ) → s < t → pos 1 ≤ℤ w s → P (s, v)) → AllByRecursion P (weighed w v t)
weighed_all P w v zero low h = tt
weighed_all P w v (suc t) low h =
    all_join P (weighed w v t) (copies (unsigned_abs (w t)) (t, v))
    (weighed_all P w v t (λ s lt. low s (omega arith)) (λ s lt. h s (omega arith)))
    (copies_all P (unsigned_abs (w t)) (t, v)
    (λ some. h t (omega arith) (some_weight (w t) (low t (omega arith)) some)))

weighed_holds : (w : ℕ → ℤ) (v : ℤ) (t s : ℕ) → s < t → pos 1 ≤ℤ w s → Holds (s, v) (weighed w v t)
weighed_holds w v zero s lt one = absurd (omega arith)
weighed_holds w v (suc t) s lt one = elim (less_or_last s t lt) [
  | inl less ↦
      holds_front (s, v) (weighed w v t) (copies (unsigned_abs (w t)) (t, v)) (weighed_holds w v t s less one)
  | inr same ↦
      holds_back (s, v) (weighed w v t) (copies (unsigned_abs (w t)) (t, v))
      (rw same (copies_hold (unsigned_abs (w t)) (t, v) (some_copy (w t) (omega (arith, linear, one, ap w same)))))
]
  where
    some_copy : (z : ℤ) → pos 1 ≤ℤ z → 0 < unsigned_abs z
    some_copy z h = omega (arith, ints)

-- ---- players of a list

-- 1 where the pair has the value v and holds player i
abbrev pub counts : ℤ → ℕ → ℕ × ℤ → ℤ
counts v i p = cond (int_eq p.1 v) (cond (has_player p.0 i) (pos 1) (pos 0)) (pos 0)

-- of each value as many hold the one player as the other
abbrev pub IsEven : ℕ → List (ℕ × ℤ) → Type 0
IsEven n ps = (v : ℤ) (i j : ℕ) → i < n → j < n → list_sum (counts v i) ps ≡ list_sum (counts v j) ps

-- weights that balance
module _ (n b : ℕ) (E : ℕ → ℤ) (w : ℕ → ℤ) (v total : ℤ) (low : (s : ℕ) → s < b → pos 0 ≤ℤ w s)
    (balance : (i : ℕ) → i < n → sum_below b (λ s. w s *ℤ cond (has_player s i) (pos 1) (pos 0)) ≡ total) where
  weighed_counts : (u : ℤ) (i : ℕ) → i < n → list_sum (counts u i) (weighed w v b) ≡ cond (int_eq v u) total (pos 0)
  weighed_counts u i lt = weighed_sum (counts u i) w v b low ∙ by_value (int_eq v u)
    where
      by_value : (e : Bool)
          → sum_below b (λ s. w s *ℤ cond e (cond (has_player s i) (pos 1) (pos 0)) (pos 0)) ≡ cond e total (pos 0)
      by_value true = balance i lt
      by_value false = sum_below-zero b (λ s. w s *ℤ pos 0) (λ s h. mul-zeroℤ (w s))

  weighed_even : IsEven n (weighed w v b)
  weighed_even u i j hi hj = weighed_counts u i hi ∙ sym (weighed_counts u j hj)

-- ---- all lists in one

-- weights for each of the coalitions 1 .. count, on coalitions below b
pub record AllWeights (n b count : ℕ) (E : ℕ → ℤ) : Type 0 where
  pub weights : (d : ℕ) → d < count → ℕ → ℤ
  pub low : (d : ℕ) (lt : d < count) (s : ℕ) → s < b → pos 0 ≤ℤ weights d lt s
  pub here : (d : ℕ) (lt : d < count) → pos 1 ≤ℤ weights d lt (suc d)
  pub none : (d : ℕ) (lt : d < count) (s : ℕ) → E s <ℤ E (suc d) → weights d lt s ≡ pos 0
  pub total : (d : ℕ) → d < count → ℤ
  pub balance : (d : ℕ) (lt : d < count) (i : ℕ) → i < n
      → sum_below b (λ s. weights d lt s *ℤ cond (has_player s i) (pos 1) (pos 0)) ≡ total d lt

-- each coalition with its worth, among coalitions of no less worth than their values, evenly
pub record Positions (n b count : ℕ) (E : ℕ → ℤ) : Type 0 where
  pub pairs : List (ℕ × ℤ)
  pub inside : AllByRecursion (λ p. (p.0 < b) × (p.1 ≤ℤ E p.0)) pairs
  pub even : IsEven n pairs
  pub holds : (d : ℕ) → d < count → Holds (suc d, E (suc d)) pairs

module _ (n b count : ℕ) (E : ℕ → ℤ) (a : AllWeights n b count E) (small : (d : ℕ) → d < count → suc d < b) where
  upto : (c : ℕ) → c ≤ count → Positions n b c E
  upto zero le = record { pairs = []; inside = tt; even = λ v i j hi hj. refl; holds = λ d lt. absurd (omega arith) }
  upto (suc c) le =
      let before = upto c (omega arith) in
      let lt : c < count = omega arith in
      let v = E (suc c) in
      let w = a.weights c lt in
      let more = weighed w v b in
      let even_more = weighed_even n b E w v (a.total c lt) (a.low c lt) (a.balance c lt) in
      record {
        pairs = before.pairs ++ more;
        inside = all_join (λ p. (p.0 < b) × (p.1 ≤ℤ E p.0)) before.pairs more before.inside
            (weighed_all (λ p. (p.0 < b) × (p.1 ≤ℤ E p.0)) w v b (a.low c lt)
            (λ s within one. (
              within,
              by_lt_z (E s) v
                  (λ less. absurd (let off = a.none c lt s less in omega (arith, linear, one, off)))
                  (λ ge. ge),
            )));
        even = λ u i j hi hj.
            list_sum-append (counts u i) before.pairs more
            ∙ omega (arith, linear, before.even u i j hi hj, even_more u i j hi hj)
            ∙ sym (list_sum-append (counts u j) before.pairs more);
        holds = λ d less. elim (less_or_last d c less) [
          | inl earlier ↦ holds_front (suc d, E (suc d)) before.pairs more (before.holds d earlier)
          | inr same ↦
              holds_back (suc d, E (suc d)) before.pairs more
              (rw same (weighed_holds w v b (suc c) (small c lt) (a.here c lt)))
        ];
      }

  pub positions : Positions n b count E
  positions = upto count (omega arith)

-- ---- each player alone, with one value

abbrev pub singles : ℕ → ℕ → ℤ → List (ℕ × ℤ)
singles a zero v = []
singles a (suc k) v = (singleton a, v) ∷ singles (suc a) k v

pub singles_length : (a k : ℕ) (v : ℤ) → length (singles a k v) ≡ k
singles_length a zero v = refl
singles_length a (suc k) v = ap suc (singles_length (suc a) k v)

pub singles_at : (a k : ℕ) (v : ℤ) (d : ℕ × ℤ) (j : ℕ) → j < k → get_or (singles a k v) j d ≡ (singleton (a + j), v)
singles_at a zero v d j lt = absurd (omega arith)
singles_at a (suc k) v d zero lt = (let e : a ≡ a + 0 = omega arith in ap (λ i. (singleton i, v)) e)
singles_at a (suc k) v d (suc j) lt = (let e : suc a + j ≡ a + suc j = omega arith in
    singles_at (suc a) k v d j (omega arith) ∙ ap (λ i. (singleton i, v)) e)

pub singles_all : (P : ℕ × ℤ → Type 0) (a k : ℕ) (v : ℤ) → ((j : ℕ) → a ≤ j → j < a + k → P (singleton j, v))
    → AllByRecursion P (singles a k v)
singles_all P a zero v h = tt
singles_all P a (suc k) v h =
    (h a (omega arith) (omega arith), singles_all P (suc a) k v (λ j low high. h j (omega arith) (omega arith)))

alone_counts : (u v : ℤ) (i j : ℕ) (b : Bool) → has_player (singleton j) i ≡ b
    → counts u i (singleton j, v) ≡ cond (int_eq v u) (cond b (pos 1) (pos 0)) (pos 0)
alone_counts u v i j b e = ap (λ (t : Bool). cond (int_eq v u) (cond t (pos 1) (pos 0)) (pos 0)) e

nothing_either : (b : Bool) → cond b (pos 0) (pos 0) ≡ pos 0
nothing_either b = grind arith

singles_none : (u v : ℤ) (i a k : ℕ) → i < a → list_sum (counts u i) (singles a k v) ≡ pos 0
singles_none u v i a zero lt = refl
singles_none u v i a (suc k) lt =
    omega (
      products,
      alone_counts u v i a false (has_player-singleton_other a i (λ e. omega (arith, lt, e))),
      nothing_either (int_eq v u),
      singles_none u v i (suc a) k (omega (arith, lt)),
    )

-- each player is in one
singles_one : (u v : ℤ) (i a k : ℕ) → a ≤ i → i < a + k
    → list_sum (counts u i) (singles a k v) ≡ cond (int_eq v u) (pos 1) (pos 0)
singles_one u v i a zero low high = absurd (omega arith)
singles_one u v i a (suc k) low high = elim (same_or_other i a) [
  | inl same ↦
      omega (
        products,
        alone_counts u v i a true (ap (has_player (singleton a)) same ∙ has_player-singleton a),
        singles_none u v i (suc a) k (omega (arith, same)),
      )
  | inr other ↦
      omega (
        products,
        alone_counts u v i a false (has_player-singleton_other a i other),
        nothing_either (int_eq v u),
        singles_one u v i (suc a) k (omega (arith, low, other)) (omega (arith, high)),
      )
]

singles_even : (n : ℕ) (v : ℤ) → IsEven n (singles 0 n v)
singles_even n v u i j hi hj =
    singles_one u v i 0 n (omega arith) (omega (arith, hi))
    ∙ sym (singles_one u v j 0 n (omega arith) (omega (arith, hj)))

back_at : (ps qs : List (ℕ × ℤ)) (d : ℕ × ℤ) (l j : ℕ) → l ≡ length ps + j → get_or (ps ++ qs) l d ≡ get_or qs j d
back_at [] qs d l j e = (let same : l ≡ j = omega (arith, e) in ap (λ i. get_or qs i d) same)
back_at (p ∷ ps) qs d zero j e = absurd (omega (arith, e))
back_at (p ∷ ps) qs d (suc l) j e = back_at ps qs d l j (omega (arith, e))

-- positions, and behind them each player alone
pub record WithSingles (n b count : ℕ) (E : ℕ → ℤ) : Type 0 where
  pub positions : Positions n b count E
  pub front : ℕ
  pub long : length positions.pairs ≡ front + n
  pub alone : (j : ℕ) → j < n → (get_or positions.pairs (front + j) (0, pos 0)).0 ≡ singleton j

pub with_singles : (n b count : ℕ) (E : ℕ → ℤ) (v : ℤ) → Positions n b count E
    → ((j : ℕ) → j < n → singleton j < b) → ((s : ℕ) → s < b → v ≤ℤ E s) → WithSingles n b count E
with_singles n b count E v p within low = record {
  positions = record {
    pairs = p.pairs ++ singles 0 n v;
    inside = all_join (λ p. (p.0 < b) × (p.1 ≤ℤ E p.0)) p.pairs (singles 0 n v) p.inside
        (singles_all (λ p. (p.0 < b) × (p.1 ≤ℤ E p.0)) 0 n v
        (λ j first lt. (let in_b = within j (omega (arith, lt)) in (in_b, low (singleton j) in_b))));
    even = λ u i j hi hj.
        list_sum-append (counts u i) p.pairs (singles 0 n v)
        ∙ omega (arith, linear, p.even u i j hi hj, singles_even n v u i j hi hj)
        ∙ sym (list_sum-append (counts u j) p.pairs (singles 0 n v));
    holds = λ d lt. holds_front (suc d, E (suc d)) p.pairs (singles 0 n v) (p.holds d lt);
  };
  front = length p.pairs;
  long = length-append p.pairs (singles 0 n v) ∙ ap (λ k. length p.pairs + k) (singles_length 0 n v);
  alone = λ j lt.
      ap (λ q. q.0) (back_at p.pairs (singles 0 n v) (0, pos 0) (length p.pairs + j) j refl
      ∙ singles_at 0 n v (0, pos 0) j lt)
      ∙ ap singleton (omega arith);
}
