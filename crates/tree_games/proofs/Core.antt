-- The Bird plan's shares lie in the core: a plan of a coalition, followed by the Bird pairs of the other players,
-- is a plan of all.
--
-- Each Bird link of another player still ends at a connected point. The Bird plan is least, so the members' links cost
-- no more than the coalition's own plan (`paid-least`). And all players together pay the whole plan.
use Rattle.std.proofs.Common.{◌≡◌, ℕ, zero, suc, ◌+◌, ◌-◌, ◌^◌, ◌<◌, ◌≤◌, Bool}
use Rattle.std.proofs.Common.{true, false, not, cond, ◌&&◌}
use Rattle.std.proofs.Common.{◌||◌, nat_eq, List, [], ◌∷◌, ◌++◌, length, ℤ, pos, ◌+ℤ◌}
use Rattle.std.proofs.Common.{◌*ℤ◌, ◌<ℤ◌, ◌≤ℤ◌}
use Rattle.std.proofs.Common.{neg_ℤ, refl, sym, ap, ◌∙◌, inl, inr, arith, if◌then◌else◌}
use Rattle.std.specs.List.{AllByRecursion}
use Rattle.std.proofs.lemmas.Bool.{false≢true}
use Rattle.std.proofs.lemmas.Bool.Decides.{nat_tests}
use Rattle.std.proofs.lemmas.Int.{ints}
use Rattle.std.proofs.lemmas.Nat.Bits.{bit_at_above}
use Rattle.std.specs.Int.{bit_at}
use Rattle.definitions.proofs.Cases.{same_or_other, nat_eq-same, nat_eq-other, from_nat_eq, suc-less_one}
use Rattle.definitions.proofs.Cases.{and_right, or_right, or_left, below_or_above}
use Rattle.definitions.proofs.Masks.{grand_coalition-within}
use Rattle.definitions.proofs.Ring.{linear, one-mulℤ}
use Rattle.definitions.proofs.Members.{has_player-grand_coalition, sum_below-same, sum_below-zero}
use Rattle.definitions.specs.Sums.{sum_below}
use Rattle.definitions.specs.Coalitions.{has_player, grand_coalition, sum_over}
use Rattle.definitions.specs.Games.{Game, Allocation, share, amount, IsEfficient, Blocks, InCore}
use Rattle.definitions.specs.Classes.{Matrix, joined, removed, IsAttachment, IsPlan, IsSymmetric}
use Rattle.definitions.specs.Classes.{IsLeastCost, IsTreeGame, IsBirdFrom, IsBirdPlan, IsBirdShares}
use Rattle.definitions.specs.Classes.{IsNoLater, is_source, is_point_of, entry, plan_cost}
use Rattle.tree_games.specs.Steps.{IsPrimFrom}
use Rattle.tree_games.proofs.Attachments.{Within, Same, joined-within, attachment-more, plan_cost-append}
use Rattle.tree_games.proofs.Exchange.{prim-attaches, prim-least, prim_least}

-- ---- a Bird plan takes Prim's steps

later_costs : (matrix : Matrix) (p r : ℕ × ℕ) → IsNoLater matrix p r → entry matrix p.0 p.1 ≤ entry matrix r.0 r.1
later_costs matrix p r (inl lt) = omega arith
later_costs matrix p r (inr same) = omega arith

pub bird-prim : (matrix : Matrix) (c w : ℕ → Bool) (plan : List (ℕ × ℕ)) → IsBirdFrom matrix c w plan
    → IsPrimFrom matrix c w plan
bird-prim matrix c w [] h = h
bird-prim matrix c w (p ∷ plan) h = (
  h.0,
  h.1,
  λ b t cb wt. later_costs matrix p (b, t) (h.2 (b, t) cb wt),
  bird-prim matrix (joined c p.1) (removed w p.1) plan h.3,
)

-- ---- the pairs of the points outside a set

abbrev outside : (ℕ → Bool) → List (ℕ × ℕ) → List (ℕ × ℕ)
outside s [] = []
outside s (p ∷ plan) = if s p.1 then outside s plan else p ∷ outside s plan

-- what the points of a set pay
abbrev paid : Matrix → (ℕ → Bool) → List (ℕ × ℕ) → ℕ
paid matrix s [] = 0
paid matrix s (p ∷ plan) = (if s p.1 then entry matrix p.0 p.1 else 0) + paid matrix s plan

paid-outside : (matrix : Matrix) (s : ℕ → Bool) (plan : List (ℕ × ℕ))
    → paid matrix s plan + plan_cost matrix (outside s plan) ≡ plan_cost matrix plan
paid-outside matrix s [] = refl
paid-outside matrix s (p ∷ plan) = grind (arith, paid-outside matrix s plan)

outside-attaches : (s c w d u : ℕ → Bool) (plan : List (ℕ × ℕ)) → Within c d → Within (λ j. w j && s j) d
    → Same u (λ j. w j && not (s j)) → IsAttachment c w plan → IsAttachment d u (outside s plan)
outside-attaches s c w d u [] h k e a = λ j. e j ∙ ap (λ b. b && not (s j)) (a j)
outside-attaches s c w d u (p ∷ plan) h k e a =
    cases (s p.1) refl
    (λ inside. outside-attaches s (joined c p.1) (removed w p.1) d u plan (from_joined inside) fewer_within
    (same_inside inside) a.2)
    (λ out. outside-attaches s (joined c p.1) (removed w p.1) (joined d p.1) (removed u p.1) plan
    (joined-within c d p.1 h) (λ j t. to_joined j (fewer_within j t)) same_outside a.2)
  where
    from_joined : s p.1 ≡ true → Within (joined c p.1) d
    from_joined inside j t =
        let there : d p.1 ≡ true = k p.1 (rw (a.1, inside) refl) in grind (arith, from_nat_eq j p.1, h j, there)

    fewer_within : Within (λ j. removed w p.1 j && s j) d
    fewer_within j t = k j (grind arith)

    to_joined : (j : ℕ) → d j ≡ true → joined d p.1 j ≡ true
    to_joined j e = or_right (nat_eq j p.1) (d j) e

    same_inside : s p.1 ≡ true → Same u (λ j. removed w p.1 j && not (s j))
    same_inside inside j = grind (arith, e j, from_nat_eq j p.1)

    same_outside : Same (removed u p.1) (λ j. removed w p.1 j && not (s j))
    same_outside j = grind (arith, e j)

    cases : (b : Bool) → s p.1 ≡ b → (s p.1 ≡ true → IsAttachment d u (outside s plan))
        → (s p.1 ≡ false → IsAttachment (joined d p.1) (removed u p.1) (outside s plan))
        → IsAttachment d u (cond b (outside s plan) (p ∷ outside s plan))
    cases b f inside out = grind arith

-- ---- one plan after another

attachment-append : (c w u v : ℕ → Bool) (plan rest : List (ℕ × ℕ)) → Same v (λ j. w j || u j)
    → ((j : ℕ) → w j ≡ true → u j ≡ false) → IsAttachment c w plan → IsAttachment (λ j. c j || w j) u rest
    → IsAttachment c v (plan ++ rest)
attachment-append c w u v [] rest same apart a b =
    attachment-more (λ j. c j || w j) c u v rest (λ j t. grind (arith, a j))
    (λ j. sym (same j ∙ ap (λ x. x || u j) (a j))) b
attachment-append c w u v (p ∷ plan) rest same apart a b = (
  a.0,
  same p.1 ∙ rw a.1 refl,
  attachment-append (joined c p.1) (removed w p.1) u (removed v p.1) plan rest onward
      (λ j t. apart j (and_right (not (nat_eq j p.1)) (w j) t)) a.2
      (attachment-more (λ j. c j || w j) (λ j. joined c p.1 j || removed w p.1 j) u u rest
      (λ j e. grind arith) (λ j. refl) b),
)
  where
    onward : Same (removed v p.1) (λ j. removed w p.1 j || u j)
    onward j = grind (arith, same j, from_nat_eq j p.1, apart p.1 a.1)

-- ---- what a coalition pays is at most the cost of its own plans

pub paid-least : (matrix : Matrix) → IsSymmetric matrix → (c w s : ℕ → Bool) (plan own : List (ℕ × ℕ)) → Within s w
    → IsPrimFrom matrix c w plan → IsAttachment c s own → paid matrix s plan ≤ plan_cost matrix own
paid-least matrix symmetric c w s plan own within prim a =
    let rest =
    outside-attaches s c w (λ j. c j || s j) (λ j. w j && not (s j)) plan (λ j. or_left (c j) (s j))
    (λ j e. grind arith) (λ j. refl) (prim-attaches matrix c w plan prim) in
    let whole =
    attachment-append c s (λ j. w j && not (s j)) w own (outside s plan) (λ j. grind (arith, within j))
    (λ j e. grind arith) a rest in
    let least = prim-least matrix symmetric c w plan (own ++ outside s plan) prim whole in
    omega (arith, plan_cost-append matrix own (outside s plan), paid-outside matrix s plan)

-- ---- shares

-- the numbers of the points 1 .. n that pass the test, added
abbrev sum_points : ℕ → (ℕ → Bool) → (ℕ → ℤ) → ℤ
sum_points n w f = sum_below n (λ i. if w (suc i) then f (suc i) else pos 0)

sum_points-take : (n : ℕ) (w : ℕ → Bool) (f : ℕ → ℤ) (p : ℕ) → 1 ≤ p → p ≤ n → w p ≡ true
    → sum_points n w f ≡ f p +ℤ sum_points n (removed w p) f
sum_points-take zero w f p low high e = absurd (omega arith)
sum_points-take (suc n) w f p low high e = elim (same_or_other (suc n) p) [
  | inl here ↦
      let rest =
      sum_below-same n (λ i. if w (suc i) then f (suc i) else pos 0)
      (λ i. if removed w p (suc i) then f (suc i) else pos 0)
      (λ i lt. rw (nat_eq-other (suc i) p (λ k. omega arith)) refl) in
      rw (here, nat_eq-same p, e) (omega (arith, linear))
  | inr there ↦
      rw (nat_eq-other (suc n) p there) (omega (arith, linear, sum_points-take n w f p low (omega arith) e))
]

share-paid : (matrix : Matrix) (n : ℕ) (a : ℕ → ℤ) (s c w : ℕ → Bool) (plan : List (ℕ × ℕ))
    → ((j : ℕ) → w j ≡ true → (1 ≤ j) × (j ≤ n)) → IsAttachment c w plan
    → AllByRecursion (λ p. a (p.1 - 1) ≡ neg_ℤ (pos (entry matrix p.0 p.1))) plan
    → sum_points n w (λ j. if s j then a (j - 1) else pos 0) ≡ neg_ℤ (pos (paid matrix s plan))
share-paid matrix n a s c w [] range att shares =
    sum_below-zero n (λ i. if w (suc i) then (if s (suc i) then a (suc i - 1) else pos 0) else pos 0)
    (λ i lt. rw (att (suc i)) refl)
share-paid matrix n a s c w (p ∷ plan) range att shares =
    let ih =
    share-paid matrix n a s (joined c p.1) (removed w p.1) plan
    (λ j t. range j (and_right (not (nat_eq j p.1)) (w j) t)) att.2 shares.1 in
    let take =
    sum_points-take n w (λ j. if s j then a (j - 1) else pos 0) p.1 (range p.1 att.1).0 (range p.1 att.1).1
    att.1 in
    let one = minus_of_cond (s p.1) (a (p.1 - 1)) (entry matrix p.0 p.1) shares.0 in
    omega (arith, linear)
  where
    minus_of_cond : (b : Bool) (x : ℤ) (k : ℕ) → x ≡ neg_ℤ (pos k) → cond b x (pos 0) ≡ neg_ℤ (pos (cond b k 0))
    minus_of_cond b x k e = grind arith

-- ---- the core

pub point_in : (n s j : ℕ) → s < 2 ^ n → is_point_of s j ≡ true → (1 ≤ j) × (j ≤ n)
point_in n s zero lt e = absurd (false≢true e)
point_in n s (suc i) lt e = (omega arith, by_bit i (bit_at_above s n i lt) e)
  where
    by_bit : (i : ℕ) → (n ≤ i → bit_at s i ≡ 0) → nat_eq (bit_at s i) 1 ≡ true → suc i ≤ n
    by_bit i f e = elim (below_or_above i n) [
      | inl low ↦ omega arith
      | inr high ↦ absurd (zero_one (bit_at s i) (f high) e)
    ]
      where
        zero_one : (b : ℕ) → b ≡ 0 → nat_eq b 1 ≡ true → ⊥
        zero_one b z e = grind (arith, nat_tests)

point_all : (n s : ℕ) → s < 2 ^ n → Within (is_point_of s) (is_point_of (grand_coalition n))
point_all n s lt zero e = e
point_all n s lt (suc i) e = let r = (point_in n s (suc i) lt e).1 in has_player-grand_coalition n i (omega arith)

-- what a coalition gets is minus what its players pay
amount-paid : (matrix : Matrix) (n s : ℕ) (x : Allocation) (plan : List (ℕ × ℕ)) → length x.shares ≡ n
    → IsPlan (grand_coalition n) plan → IsBirdShares matrix plan x
    → amount x s ≡ neg_ℤ (pos (paid matrix (is_point_of s) plan))
amount-paid matrix n s x plan len a shares =
    ap (λ k. sum_over k (share x) s) len
    ∙ sum_below-same n (λ i. if has_player s i then share x i else pos 0)
    (λ i. if is_point_of (grand_coalition n) (suc i)
    then (if is_point_of s (suc i) then share x (suc i - 1) else pos 0) else pos 0) each
    ∙ share-paid matrix n (share x) (is_point_of s) is_source (is_point_of (grand_coalition n)) plan range a
    shares.1
  where
    each : (i : ℕ) → i < n
        → (if has_player s i then share x i else pos 0)
        ≡ (if has_player (grand_coalition n) i then (if has_player s i then share x (suc i - 1) else pos 0)
        else pos 0)
    each i lt = rw (has_player-grand_coalition n i lt, suc-less_one i) refl

    range : (j : ℕ) → is_point_of (grand_coalition n) j ≡ true → (1 ≤ j) × (j ≤ n)
    range j e = point_in n (grand_coalition n) j (grand_coalition-within n) e

paid-all : (matrix : Matrix) (c w s : ℕ → Bool) (plan : List (ℕ × ℕ)) → Within w s → IsAttachment c w plan
    → paid matrix s plan ≡ plan_cost matrix plan
paid-all matrix c w s [] within a = refl
paid-all matrix c w s (p ∷ plan) within a =
    let ih =
    paid-all matrix (joined c p.1) (removed w p.1) s plan
    (λ j t. within j (and_right (not (nat_eq j p.1)) (w j) t)) a.2 in
    rw (within p.1 a.1) (omega arith)

at_one : (d a b : ℤ) → d ≡ pos 1 → b ≡ a → b ≡ d *ℤ a
at_one d a b e f = f ∙ sym (one-mulℤ a) ∙ ap (λ z. z *ℤ a) (sym e)

least_same : (matrix : Matrix) (s a b : ℕ) → IsLeastCost matrix s a → IsLeastCost matrix s b → a ≡ b
least_same matrix s a b h k =
    let low = h.least k.reached.0 k.reached.1 in
    let high = k.least h.reached.0 h.reached.1 in
    omega arith

not_blocked : (amount worth : ℤ) (paid cost : ℕ) → amount ≡ neg_ℤ (pos paid) → worth ≡ neg_ℤ (pos cost)
    → paid ≤ cost → amount <ℤ worth → ⊥
not_blocked amount worth paid cost e f le lt = omega (arith, ints)

pub bird_in_core : (matrix : Matrix) (g : Game) (plan : List (ℕ × ℕ)) (x : Allocation) → IsSymmetric matrix
    → IsTreeGame matrix g → IsBirdPlan matrix (grand_coalition g.players) plan → length x.shares ≡ g.players
    → IsBirdShares matrix plan x → InCore g x
bird_in_core matrix g plan x symmetric tree bird len shares =
    ((len, den_positive), efficient, λ s lt blocks. unblocked s lt blocks)
  where
    prim : IsPrimFrom matrix is_source (is_point_of (grand_coalition g.players)) plan
    prim = bird-prim matrix is_source (is_point_of (grand_coalition g.players)) plan bird

    attaches : IsPlan (grand_coalition g.players) plan
    attaches = prim-attaches matrix is_source (is_point_of (grand_coalition g.players)) plan prim

    den_positive : pos 1 ≤ℤ x.den
    den_positive = omega (arith, ints)

    paid_by : (s : ℕ) → amount x s ≡ neg_ℤ (pos (paid matrix (is_point_of s) plan))
    paid_by s = amount-paid matrix g.players s x plan len attaches shares

    efficient : IsEfficient g x
    efficient =
        let worth = tree (grand_coalition g.players) (grand_coalition-within g.players) in
        let same =
        least_same matrix (grand_coalition g.players) worth.0 (plan_cost matrix plan) worth.2
        (prim_least matrix (grand_coalition g.players) plan symmetric prim) in
        let whole =
        paid-all matrix is_source (is_point_of (grand_coalition g.players))
        (is_point_of (grand_coalition g.players)) plan (λ j t. t) attaches in
        at_one x.den (g.worth (grand_coalition g.players)) (amount x (grand_coalition g.players)) shares.0
        (paid_by (grand_coalition g.players) ∙ ap (λ k. neg_ℤ (pos k)) (whole ∙ sym same) ∙ sym worth.1)

    unblocked : (s : ℕ) → s < 2 ^ g.players → ¬ Blocks g x s
    unblocked s lt blocks =
        let worth = tree s lt in
        let own = worth.2.reached in
        let le =
        paid-least matrix symmetric is_source (is_point_of (grand_coalition g.players)) (is_point_of s) plan
        own.0 (point_all g.players s lt) prim own.1 in
        not_blocked (amount x s) (x.den *ℤ g.worth s) (paid matrix (is_point_of s) plan) worth.0 (paid_by s)
        (sym (at_one x.den (g.worth s) (neg_ℤ (pos worth.0)) shares.0 (sym worth.1))) (omega arith)
        blocks
