-- Coalitions of places in mask order, and their weights.
--
-- A half level lists, for each half player of one claim, that player alone and all the others. One of the two holds any
-- player, so the weights balance in one line (`weight-both`). The level of the rest lists either of the two for each
-- other player, and weighs the half players as earlier coalitions. For two players the one level lists both players
-- once.
use Rattle.std.proofs.Common.{◌≡◌, ◌≢◌, ◌⊎◌, ℕ, zero, suc, ◌+◌, ◌<◌, ◌≤◌, Bool}
use Rattle.std.proofs.Common.{true, false, not, cond, []}
use Rattle.std.proofs.Common.{◌∷◌, length, ℤ, pos, ◌+ℤ◌, refl, sym, ap, ◌∙◌, inl}
use Rattle.std.proofs.Common.{inr, arith}
use Rattle.std.specs.List.{list_any, AllByRecursion}
use Rattle.std.proofs.lemmas.Bool.{false≢true}
use Rattle.std.proofs.lemmas.Int.{ints}
use Rattle.std.proofs.Math.Pow.{pow-lt}
use Rattle.definitions.proofs.Members.{has_player-singleton, has_player-singleton_other, has_player-complement}
use Rattle.definitions.specs.Coalitions.{has_player, singleton, weight_at}
use Rattle.definitions.specs.Certificates.{Ascends}
use Rattle.definitions.proofs.Parts.{others_has, others_lacks}
use Rattle.orders.specs.Orders.{IsOrder}
use Rattle.kohlberg.specs.Pairs.{with_pair}
use Rattle.kohlberg.proofs.WithPair.{weight_at-with_pair, all-with_pair, any-with_pair}
use Rattle.kohlberg.proofs.WithPair.{length-with_pair, ascends-with_pair}
use Rattle.talmud.specs.Levels.{single, others, with_keys, with_both}
use Rattle.definitions.proofs.Cases.{less_or_greater, less_or_last, outside_fewer}

-- ---- places

apart_at : (n : ℕ) (cost at : ℕ → ℕ) → IsOrder n cost at → (j h : ℕ) → j < n → h < n → j ≢ h → at h ≢ at j
apart_at n cost at o j h jn hn ne e =
    elim (less_or_greater j h ne) [ inl less ↦ o.apart j h less hn (sym e) | inr more ↦ o.apart h j more jn e ]

pub single-has : (at : ℕ → ℕ) (j : ℕ) → has_player (single at j) (at j) ≡ true
single-has at j = has_player-singleton (at j)

pub single-lacks : (n : ℕ) (cost at : ℕ → ℕ) → IsOrder n cost at → (j h : ℕ) → j < n → h < n → j ≢ h
    → has_player (single at j) (at h) ≡ false
single-lacks n cost at o j h jn hn ne = has_player-singleton_other (at j) (at h) (apart_at n cost at o j h jn hn ne)

pub others-has : (n : ℕ) (cost at : ℕ → ℕ) → IsOrder n cost at → (j h : ℕ) → j < n → h < n → j ≢ h
    → has_player (others n at j) (at h) ≡ true
others-has n cost at o j h jn hn ne =
    others_has n (at j) (at h) (pow-lt (o.below j jn)) (o.below h hn) (apart_at n cost at o j h jn hn ne)

pub others-lacks : (n : ℕ) (cost at : ℕ → ℕ) → IsOrder n cost at → (j : ℕ) → j < n
    → has_player (others n at j) (at j) ≡ false
others-lacks n cost at o j jn = others_lacks n (at j) (pow-lt (o.below j jn)) (o.below j jn)

-- a third place
free_place : (j k : ℕ) → ((0 ≢ j) × (0 ≢ k)) ⊎ (((1 ≢ j) × (1 ≢ k)) ⊎ ((2 ≢ j) × (2 ≢ k)))
free_place zero zero = inr (inl ((λ e. omega arith), (λ e. omega arith)))
free_place zero (suc zero) = inr (inr ((λ e. omega arith), (λ e. omega arith)))
free_place zero (suc (suc k)) = elim (same_or k) [
  | inl e ↦ inr (inl ((λ f. omega arith), (λ f. omega arith)))
  | inr ne ↦ inr (inl ((λ f. omega arith), (λ f. omega arith)))
]
  where
    same_or : (k : ℕ) → (k ≡ 0) ⊎ (k ≢ 0)
    same_or k = grind arith
free_place (suc j) (suc k) = inl ((λ e. omega arith), (λ e. omega arith))
free_place (suc zero) zero = inr (inr ((λ e. omega arith), (λ e. omega arith)))
free_place (suc (suc j)) zero = inr (inl ((λ e. omega arith), (λ e. omega arith)))

third : (n j k : ℕ) → 3 ≤ n → (h : ℕ) × (h < n) × (j ≢ h) × (k ≢ h)
third n j k three = elim (free_place j k) [
  | inl a ↦ (0, omega arith, (λ e. a.0 (sym e)), (λ e. a.1 (sym e)))
  | inr (inl a) ↦ (1, omega arith, (λ e. a.0 (sym e)), (λ e. a.1 (sym e)))
  | inr (inr a) ↦ (2, omega arith, (λ e. a.0 (sym e)), (λ e. a.1 (sym e)))
]

differ : (s t i : ℕ) → has_player s i ≡ true → has_player t i ≡ false → s ≢ t
differ s t i has lacks e = false≢true (sym lacks ∙ ap (λ (u : ℕ). has_player u i) (sym e) ∙ has)

pub single-apart : (n : ℕ) (cost at : ℕ → ℕ) → IsOrder n cost at → (j k : ℕ) → j < k → k < n
    → single at j ≢ single at k
single-apart n cost at o j k lt kn =
    differ (single at j) (single at k) (at j) (single-has at j)
    (single-lacks n cost at o k j kn (omega arith) (λ e. omega arith))

pub others-apart : (n : ℕ) (cost at : ℕ → ℕ) → IsOrder n cost at → (j k : ℕ) → j < k → k < n
    → others n at j ≢ others n at k
others-apart n cost at o j k lt kn =
    differ (others n at j) (others n at k) (at k) (others-has n cost at o j k (omega arith) kn (λ e. omega arith))
    (others-lacks n cost at o k kn)

-- a player alone isn't all but that player
pub own-apart : (n : ℕ) (cost at : ℕ → ℕ) → IsOrder n cost at → (j : ℕ) → j < n → single at j ≢ others n at j
own-apart n cost at o j jn =
    differ (single at j) (others n at j) (at j) (single-has at j) (others-lacks n cost at o j jn)

-- among three players, nobody alone is all but another
mixed-apart : (n : ℕ) (cost at : ℕ → ℕ) → IsOrder n cost at → 3 ≤ n → (j k : ℕ) → j < n → k < n
    → others n at j ≢ single at k
mixed-apart n cost at o three j k jn kn =
    let h = third n j k three in
    differ (others n at j) (single at k) (at h.0) (others-has n cost at o j h.0 jn h.1 h.2)
    (single-lacks n cost at o k h.0 kn h.1 h.3)

-- ---- lists

pub all-keys : (P : ℕ × ℤ → Type 0) (key : ℕ → ℕ) (i b : ℕ) → ((j : ℕ) → i ≤ j → j < i + b → P (key j, pos 1))
    → AllByRecursion P (with_keys key i b)
all-keys P key i zero each = tt
all-keys P key i (suc b) each =
    all-with_pair P (key (i + b)) (pos 1) (with_keys key i b) (each (i + b) (omega arith) (omega arith))
    (all-keys P key i b (λ j le lt. each j le (omega arith)))

pub all-both : (P : ℕ × ℤ → Type 0) (n : ℕ) (at : ℕ → ℕ) (i b : ℕ)
    → ((j : ℕ) → i ≤ j → j < i + b → P (single at j, pos 1))
    → ((j : ℕ) → i ≤ j → j < i + b → P (others n at j, pos 1)) → AllByRecursion P (with_both n at i b)
all-both P n at i zero each more = tt
all-both P n at i (suc b) each more =
    all-with_pair P (others n at (i + b)) (pos 1) (with_pair (single at (i + b)) (pos 1) (with_both n at i b))
    (more (i + b) (omega arith) (omega arith))
    (all-with_pair P (single at (i + b)) (pos 1) (with_both n at i b) (each (i + b) (omega arith) (omega arith))
    (all-both P n at i b (λ j le lt. each j le (omega arith)) (λ j le lt. more j le (omega arith))))

pub length-keys : (key : ℕ → ℕ) (i b : ℕ) → length (with_keys key i b) ≡ b
length-keys key i zero = refl
length-keys key i (suc b) =
    length-with_pair (key (i + b)) (pos 1) (with_keys key i b) ∙ ap suc (length-keys key i b)

pub length-both : (n : ℕ) (at : ℕ → ℕ) (i b : ℕ) → length (with_both n at i b) ≡ b + b
length-both n at i zero = refl
length-both n at i (suc b) =
    let a =
    length-with_pair (others n at (i + b)) (pos 1)
    (with_pair (single at (i + b)) (pos 1) (with_both n at i b)) in
    let c = length-with_pair (single at (i + b)) (pos 1) (with_both n at i b) in
    let ih = length-both n at i b in
    omega arith

pub any-keys : (test : ℕ × ℤ → Bool) (key : ℕ → ℕ) (i b j : ℕ) → i ≤ j → j < i + b → test (key j, pos 1) ≡ true
    → list_any test (with_keys key i b) ≡ true
any-keys test key i zero j le lt h = absurd (omega arith)
any-keys test key i (suc b) j le lt h =
    any-with_pair test (key (i + b)) (pos 1) (with_keys key i b)
    (elim (less_or_last j (i + b) (omega arith))
    [ inl less ↦ inr (any-keys test key i b j le less h) | inr same ↦ inl (rw (← same) h) ])

pub any-both_single : (test : ℕ × ℤ → Bool) (n : ℕ) (at : ℕ → ℕ) (i b j : ℕ) → i ≤ j → j < i + b
    → test (single at j, pos 1) ≡ true → list_any test (with_both n at i b) ≡ true
any-both_single test n at i zero j le lt h = absurd (omega arith)
any-both_single test n at i (suc b) j le lt h =
    any-with_pair test (others n at (i + b)) (pos 1) (with_pair (single at (i + b)) (pos 1) (with_both n at i b))
    (inr
    (any-with_pair test (single at (i + b)) (pos 1) (with_both n at i b)
    (elim (less_or_last j (i + b) (omega arith))
    [ inl less ↦ inr (any-both_single test n at i b j le less h) | inr same ↦ inl (rw (← same) h) ])))

pub any-both_others : (test : ℕ × ℤ → Bool) (n : ℕ) (at : ℕ → ℕ) (i b j : ℕ) → i ≤ j → j < i + b
    → test (others n at j, pos 1) ≡ true → list_any test (with_both n at i b) ≡ true
any-both_others test n at i zero j le lt h = absurd (omega arith)
any-both_others test n at i (suc b) j le lt h =
    any-with_pair test (others n at (i + b)) (pos 1) (with_pair (single at (i + b)) (pos 1) (with_both n at i b))
    (elim (less_or_last j (i + b) (omega arith)) [
      | inl less ↦ inr
          (any-with_pair test (single at (i + b)) (pos 1) (with_both n at i b)
          (inr (any-both_others test n at i b j le less h)))
      | inr same ↦ inl (rw (← same) h)
    ])

pub ascends-keys : (key : ℕ → ℕ) (i b : ℕ) → ((j k : ℕ) → i ≤ j → j < k → k < i + b → key j ≢ key k)
    → Ascends 0 (with_keys key i b)
ascends-keys key i zero apart = tt
ascends-keys key i (suc b) apart =
    ascends-with_pair 0 (key (i + b)) (pos 1) (with_keys key i b) (omega arith)
    (all-keys (λ p. p.0 ≢ key (i + b)) key i b (λ j le lt. apart j (i + b) le lt (omega arith)))
    (ascends-keys key i b (λ j k le lt h. apart j k le lt (omega arith)))

pub ascends-both : (n : ℕ) (cost at : ℕ → ℕ) → IsOrder n cost at → 3 ≤ n → (i b : ℕ) → i + b ≤ n
    → Ascends 0 (with_both n at i b)
ascends-both n cost at o three i zero le = tt
ascends-both n cost at o three i (suc b) le =
    let s = single at (i + b) in
    let t = others n at (i + b) in
    let old = with_both n at i b in
    let first =
    all-both (λ p. p.0 ≢ s) n at i b (λ j low high. single-apart n cost at o j (i + b) high (omega arith))
    (λ j low high. mixed-apart n cost at o three j (i + b) (omega arith) (omega arith)) in
    let second =
    all-both (λ p. p.0 ≢ t) n at i b
    (λ j low high. (λ e. mixed-apart n cost at o three (i + b) j (omega arith) (omega arith) (sym e)))
    (λ j low high. others-apart n cost at o j (i + b) high (omega arith)) in
    ascends-with_pair 0 t (pos 1) (with_pair s (pos 1) old) (omega arith)
    (all-with_pair (λ p. p.0 ≢ t) s (pos 1) old (own-apart n cost at o (i + b) (omega arith)) second)
    (ascends-with_pair 0 s (pos 1) old (omega arith) first (ascends-both n cost at o three i b (omega arith)))

pub ascends-one : (n : ℕ) (cost at : ℕ → ℕ) → IsOrder n cost at → (i : ℕ) → i < n → Ascends 0 (with_both n at i 1)
ascends-one n cost at o i lt =
    let s = single at (i + 0) in
    let t = others n at (i + 0) in
    ascends-with_pair 0 t (pos 1) ((s, pos 1) ∷ []) (omega arith) (own-apart n cost at o (i + 0) (omega arith), tt)
    (omega arith, tt)

-- ---- weights

one_of : (b : Bool) → cond b (pos 1) (pos 0) +ℤ cond (not b) (pos 1) (pos 0) ≡ pos 1
one_of true = refl
one_of false = refl

-- a player is in one of the two coalitions of a place
two_parts : (n : ℕ) (cost at : ℕ → ℕ) → IsOrder n cost at → (j p : ℕ) → j < n → p < n
    → cond (has_player (single at j) p) (pos 1) (pos 0) +ℤ cond (has_player (others n at j) p) (pos 1) (pos 0)
    ≡ pos 1
two_parts n cost at o j p jn pn = rw (has_player-complement n (singleton (at j)) p (pow-lt (o.below j jn)) pn)
    (one_of (has_player (singleton (at j)) p))

pub weight-both : (n : ℕ) (cost at : ℕ → ℕ) → IsOrder n cost at → (i b p : ℕ) → i + b ≤ n → p < n
    → weight_at (with_both n at i b) p ≡ pos b
weight-both n cost at o i zero p le pn = refl
weight-both n cost at o i (suc b) p le pn =
    let ih = weight-both n cost at o i b p (omega arith) pn in
    let two = two_parts n cost at o (i + b) p (omega arith) pn in
    let c = weight_at-with_pair (single at (i + b)) (pos 1) (with_both n at i b) p in
    weight_at-with_pair (others n at (i + b)) (pos 1) (with_pair (single at (i + b)) (pos 1) (with_both n at i b)) p
    ∙ joined (cond (has_player (single at (i + b)) p) (pos 1) (pos 0))
    (cond (has_player (others n at (i + b)) p) (pos 1) (pos 0)) _ _ b two c ih
  where
    joined : (u v w z : ℤ) (b : ℕ) → u +ℤ v ≡ pos 1 → w ≡ u +ℤ z → z ≡ pos b → v +ℤ w ≡ pos (suc b)
    joined u v w z b e f g = omega (arith, ints)

-- the two lists of keys together weigh as much as there are places
pub weight-two : (n : ℕ) (cost at : ℕ → ℕ) → IsOrder n cost at → (i b p : ℕ) → i + b ≤ n → p < n
    → weight_at (with_keys (single at) i b) p +ℤ weight_at (with_keys (others n at) i b) p ≡ pos b
weight-two n cost at o i zero p le pn = refl
weight-two n cost at o i (suc b) p le pn =
    joined (cond (has_player (single at (i + b)) p) (pos 1) (pos 0))
    (cond (has_player (others n at (i + b)) p) (pos 1) (pos 0)) _ _ _ _ b
    (two_parts n cost at o (i + b) p (omega arith) pn)
    (weight_at-with_pair (single at (i + b)) (pos 1) (with_keys (single at) i b) p)
    (weight_at-with_pair (others n at (i + b)) (pos 1) (with_keys (others n at) i b) p)
    (weight-two n cost at o i b p (omega arith) pn)
  where
    joined : (u v s t y z : ℤ) (b : ℕ) → u +ℤ v ≡ pos 1 → s ≡ u +ℤ y → t ≡ v +ℤ z → y +ℤ z ≡ pos b
        → s +ℤ t ≡ pos (suc b)
    joined u v s t y z b e f g h = omega (arith, ints)

-- a player counts once where its place is among them
pub weight-single_out : (n : ℕ) (cost at : ℕ → ℕ) → IsOrder n cost at → (i b h : ℕ) → i + b ≤ n → h < n
    → (h < i) ⊎ (i + b ≤ h) → weight_at (with_keys (single at) i b) (at h) ≡ pos 0
weight-single_out n cost at o i zero h le hn out = refl
weight-single_out n cost at o i (suc b) h le hn out =
    weight_at-with_pair (single at (i + b)) (pos 1) (with_keys (single at) i b) (at h)
    ∙ rw (single-lacks n cost at o (i + b) h (omega arith) hn (apart out))
    (zero_added _ (weight-single_out n cost at o i b h (omega arith) hn (outside_fewer h i b out)))
  where
    apart : (h < i) ⊎ (i + suc b ≤ h) → i + b ≢ h
    apart (inl a) e = omega arith
    apart (inr a) e = omega arith

    zero_added : (z : ℤ) → z ≡ pos 0 → pos 0 +ℤ z ≡ pos 0
    zero_added z e = omega (arith, ints)

pub weight-single_in : (n : ℕ) (cost at : ℕ → ℕ) → IsOrder n cost at → (i b h : ℕ) → i + b ≤ n → i ≤ h → h < i + b
    → weight_at (with_keys (single at) i b) (at h) ≡ pos 1
weight-single_in n cost at o i zero h le low high = absurd (omega arith)
weight-single_in n cost at o i (suc b) h le low high =
    weight_at-with_pair (single at (i + b)) (pos 1) (with_keys (single at) i b) (at h)
    ∙ elim (less_or_last h (i + b) (omega arith)) [
      | inl less ↦ rw (single-lacks n cost at o (i + b) h (omega arith) (omega arith) (λ e. omega arith))
          (plus _ (weight-single_in n cost at o i b h (omega arith) low less))
      | inr same ↦ rw same
          (rw (single-has at (i + b))
          (once _ (weight-single_out n cost at o i b (i + b) (omega arith) (omega arith) (inr (omega arith)))))
    ]
  where
    plus : (z : ℤ) → z ≡ pos 1 → pos 0 +ℤ z ≡ pos 1
    plus z e = omega (arith, ints)

    once : (z : ℤ) → z ≡ pos 0 → pos 1 +ℤ z ≡ pos 1
    once z e = omega (arith, ints)
