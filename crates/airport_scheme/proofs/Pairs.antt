-- Lists of pairs by ascending key.
use Rattle.std.proofs.Common.{◌≡◌, ◌≢◌, ◌⊎◌, ℕ, zero, suc, ◌+◌, ◌-◌, ◌<◌, ◌≤◌}
use Rattle.std.proofs.Common.{Bool, true, false, cond, List, []}
use Rattle.std.proofs.Common.{◌∷◌, length, ℤ, pos, ◌+ℤ◌, ◌-ℤ◌, refl, sym, ap, ◌∙◌}
use Rattle.std.proofs.Common.{inl, inr, arith}
use Rattle.std.specs.List.{list_any, AllByRecursion}
use Rattle.std.proofs.lemmas.Bool.{false≢true}
use Rattle.std.proofs.Math.Pow.{pow-lt}
use Rattle.definitions.proofs.Ring.{linear}
use Rattle.definitions.proofs.Parts.{others_has, others_lacks}
use Rattle.definitions.specs.Coalitions.{has_player, singleton, grand_coalition, weight_at}
use Rattle.definitions.specs.Certificates.{Ascends}
use Rattle.orders.specs.Orders.{IsOrder, front}
use Rattle.orders.proofs.Fronts.{front-has, front-lacks}
use Rattle.kohlberg.proofs.WithPair.{weight_at-with_pair, all-with_pair, any-with_pair}
use Rattle.kohlberg.proofs.WithPair.{length-with_pair, ascends-with_pair}
use Rattle.airport_scheme.specs.Levels.{with_others, front_pair}
use Rattle.definitions.proofs.Cases.{less_or_last, less_or_greater, outside_fewer}

-- ---- all but one, for each of b players

pub length-with_others : (n : ℕ) (at : ℕ → ℕ) (ps : List (ℕ × ℤ)) (i b : ℕ)
    → length (with_others n at ps i b) ≡ b + length ps
length-with_others n at ps i zero = omega arith
length-with_others n at ps i (suc b) =
    length-with_pair (grand_coalition n - singleton (at (i + b))) (pos 1) (with_others n at ps i b)
    ∙ (omega (arith, length-with_others n at ps i b))

pub all-with_others : (P : ℕ × ℤ → Type 0) (n : ℕ) (at : ℕ → ℕ) (ps : List (ℕ × ℤ)) (i b : ℕ)
    → ((j : ℕ) → i ≤ j → j < i + b → P (grand_coalition n - singleton (at j), pos 1)) → AllByRecursion P ps
    → AllByRecursion P (with_others n at ps i b)
all-with_others P n at ps i zero each h = h
all-with_others P n at ps i (suc b) each h =
    all-with_pair P (grand_coalition n - singleton (at (i + b))) (pos 1) (with_others n at ps i b)
    (each (i + b) (omega arith) (omega arith))
    (all-with_others P n at ps i b (λ j le lt. each j le (omega arith)) h)

pub any-with_others_start : (test : ℕ × ℤ → Bool) (n : ℕ) (at : ℕ → ℕ) (ps : List (ℕ × ℤ)) (i b : ℕ)
    → list_any test ps ≡ true → list_any test (with_others n at ps i b) ≡ true
any-with_others_start test n at ps i zero h = h
any-with_others_start test n at ps i (suc b) h =
    any-with_pair test (grand_coalition n - singleton (at (i + b))) (pos 1) (with_others n at ps i b)
    (inr (any-with_others_start test n at ps i b h))

pub any-with_others : (test : ℕ × ℤ → Bool) (n : ℕ) (at : ℕ → ℕ) (ps : List (ℕ × ℤ)) (i b j : ℕ) → i ≤ j → j < i + b
    → test (grand_coalition n - singleton (at j), pos 1) ≡ true → list_any test (with_others n at ps i b) ≡ true
any-with_others test n at ps i zero j le lt h = absurd (omega arith)
any-with_others test n at ps i (suc b) j le lt h =
    any-with_pair test (grand_coalition n - singleton (at (i + b))) (pos 1) (with_others n at ps i b)
    (elim (less_or_last j (i + b) (omega arith)) [
      | inl less ↦ inr (any-with_others test n at ps i b j le less h)
      | inr same ↦ inl (rw (← same) h)
    ])

order-apart : (n : ℕ) (cost at : ℕ → ℕ) → IsOrder n cost at → (j h : ℕ) → j < n → h < n → h ≢ j → at h ≢ at j
order-apart n cost at o j h jn hn ne e =
    elim (less_or_greater h j ne) [ inl less ↦ o.apart h j less jn e | inr more ↦ o.apart j h more hn (sym e) ]

-- who stands at another place is in all but one
pub others-has : (n : ℕ) (cost at : ℕ → ℕ) → IsOrder n cost at → (j h : ℕ) → j < n → h < n → h ≢ j
    → has_player (grand_coalition n - singleton (at j)) (at h) ≡ true
others-has n cost at o j h jn hn ne =
    others_has n (at j) (at h) (pow-lt (o.below j jn)) (o.below h hn) (order-apart n cost at o j h jn hn ne)

pub others-lacks : (n : ℕ) (cost at : ℕ → ℕ) → IsOrder n cost at → (j : ℕ) → j < n
    → has_player (grand_coalition n - singleton (at j)) (at j) ≡ false
others-lacks n cost at o j jn = others_lacks n (at j) (pow-lt (o.below j jn)) (o.below j jn)

-- the weights at a place outside the block and within it
pub weight_at-outside : (n : ℕ) (cost at : ℕ → ℕ) → IsOrder n cost at → (ps : List (ℕ × ℤ)) (i b h : ℕ) → i + b ≤ n
    → h < n → (h < i) ⊎ (i + b ≤ h) → weight_at (with_others n at ps i b) (at h) ≡ weight_at ps (at h) +ℤ pos b
weight_at-outside n cost at o ps i zero h le hn out = omega (arith, linear)
weight_at-outside n cost at o ps i (suc b) h le hn out =
    let has = others-has n cost at o (i + b) h (omega arith) hn (apart out) in
    let ih = weight_at-outside n cost at o ps i b h (omega arith) hn (outside_fewer h i b out) in
    weight_at-with_pair (grand_coalition n - singleton (at (i + b))) (pos 1) (with_others n at ps i b) (at h)
    ∙ rw has (one_more (weight_at (with_others n at ps i b) (at h)) (weight_at ps (at h)) b ih)
  where
    apart : (h < i) ⊎ (i + suc b ≤ h) → h ≢ i + b
    apart (inl lt) e = omega arith
    apart (inr ge) e = omega arith

    one_more : (u v : ℤ) (b : ℕ) → u ≡ v +ℤ pos b → pos 1 +ℤ u ≡ v +ℤ pos (suc b)
    one_more u v b e = omega (arith, linear)

pub weight_at-inside : (n : ℕ) (cost at : ℕ → ℕ) → IsOrder n cost at → (ps : List (ℕ × ℤ)) (i b h : ℕ) → i + b ≤ n
    → i ≤ h → h < i + b → weight_at (with_others n at ps i b) (at h) ≡ weight_at ps (at h) +ℤ pos b -ℤ pos 1
weight_at-inside n cost at o ps i zero h le low high = absurd (omega arith)
weight_at-inside n cost at o ps i (suc b) h le low high =
    weight_at-with_pair (grand_coalition n - singleton (at (i + b))) (pos 1) (with_others n at ps i b) (at h)
    ∙ elim (less_or_last h (i + b) (omega arith)) [
      | inl less ↦ rw (others-has n cost at o (i + b) h (omega arith) (omega arith) (λ e. omega arith))
          (one_more (weight_at (with_others n at ps i b) (at h)) (weight_at ps (at h)) b
          (weight_at-inside n cost at o ps i b h (omega arith) low less))
      | inr same ↦ rw same
          (rw (others-lacks n cost at o (i + b) (omega arith))
          (none_more (weight_at (with_others n at ps i b) (at (i + b))) (weight_at ps (at (i + b))) b
          (weight_at-outside n cost at o ps i b (i + b) (omega arith) (omega arith) (inr (omega arith)))))
    ]
  where
    one_more : (u v : ℤ) (b : ℕ) → u ≡ v +ℤ pos b -ℤ pos 1 → pos 1 +ℤ u ≡ v +ℤ pos (suc b) -ℤ pos 1
    one_more u v b e = omega (arith, linear)

    none_more : (u v : ℤ) (b : ℕ) → u ≡ v +ℤ pos b → pos 0 +ℤ u ≡ v +ℤ pos (suc b) -ℤ pos 1
    none_more u v b e = omega (arith, linear)

-- ---- in mask order

-- each of the coalitions holds the player at a later place of the block
held : (n : ℕ) (cost at : ℕ → ℕ) → IsOrder n cost at → (ps : List (ℕ × ℤ)) (i b h : ℕ) → i + b ≤ h → h < n
    → AllByRecursion (λ p. has_player p.0 (at h) ≡ true) ps
    → AllByRecursion (λ p. has_player p.0 (at h) ≡ true) (with_others n at ps i b)
held n cost at o ps i b h le hn start =
    all-with_others (λ p. has_player p.0 (at h) ≡ true) n at ps i b
    (λ j low high. others-has n cost at o j h (omega arith) hn (λ e. omega arith)) start

new_key : (s h : ℕ) (ps : List (ℕ × ℤ)) → has_player s h ≡ false → AllByRecursion (λ p. has_player p.0 h ≡ true) ps
    → AllByRecursion (λ p. p.0 ≢ s) ps
new_key s h [] lacks all = tt
new_key s h (p ∷ ps) lacks all =
    ((λ e. false≢true (sym lacks ∙ sym (ap (λ (t : ℕ). has_player t h) e) ∙ all.0)), new_key s h ps lacks all.1)

pub ascends-with_others : (n : ℕ) (cost at : ℕ → ℕ) → IsOrder n cost at → (ps : List (ℕ × ℤ)) (i b : ℕ) → i + b ≤ n
    → ((h : ℕ) → i ≤ h → h < i + b → AllByRecursion (λ p. has_player p.0 (at h) ≡ true) ps) → Ascends 0 ps
    → Ascends 0 (with_others n at ps i b)
ascends-with_others n cost at o ps i zero le start h = h
ascends-with_others n cost at o ps i (suc b) le start h =
    let lacks = others-lacks n cost at o (i + b) (omega arith) in
    let all =
    held n cost at o ps i b (i + b) (omega arith) (omega arith) (start (i + b) (omega arith) (omega arith)) in
    ascends-with_pair 0 (grand_coalition n - singleton (at (i + b))) (pos 1) (with_others n at ps i b) (omega arith)
    (new_key (grand_coalition n - singleton (at (i + b))) (at (i + b)) (with_others n at ps i b) lacks all)
    (ascends-with_others n cost at o ps i b (omega arith) (λ k low high. start k low (omega arith)) h)

-- ---- the first players as a pair

-- the pair that may stand is one that P holds of
pub all-front : (P : ℕ × ℤ → Type 0) (at : ℕ → ℕ) (k : ℕ) (w : ℤ) (given : Bool)
    → (given ≡ true → P (front at k, w)) → AllByRecursion P (front_pair at k w given)
all-front P at k w true h = (h refl, tt)
all-front P at k w false h = tt

pub weight_at-front : (n : ℕ) (cost at : ℕ → ℕ) → IsOrder n cost at → (k : ℕ) (w : ℤ) (t : Bool) (h : ℕ) → k ≤ n
    → h < k → weight_at (front_pair at k w t) (at h) ≡ cond t w (pos 0)
weight_at-front n cost at o k w true h le lt = rw (front-has n cost at o k h lt le) (omega (arith, linear))
weight_at-front n cost at o k w false h le lt = refl

pub weight_at-front_past : (n : ℕ) (cost at : ℕ → ℕ) → IsOrder n cost at → (k : ℕ) (w : ℤ) (t : Bool) (h : ℕ)
    → k ≤ h → h < n → weight_at (front_pair at k w t) (at h) ≡ pos 0
weight_at-front_past n cost at o k w true h le lt = rw (front-lacks n cost at o k h le lt) refl
weight_at-front_past n cost at o k w false h le lt = refl
