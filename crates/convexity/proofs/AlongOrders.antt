-- The players of an order join one after the other: what the members of a coalition add is at least its worth
-- (Shapley 1971).
use Rattle.std.proofs.Common.{◌≡◌, ◌≢◌, ℕ, zero, suc, ◌+◌, ◌^◌, ◌<◌, Bool, true}
use Rattle.std.proofs.Common.{false, cond}
use Rattle.std.proofs.Common.{◌&&◌, nat_eq, List, [], ◌∷◌, length, ℤ, pos, ◌+ℤ◌, ◌-ℤ◌}
use Rattle.std.proofs.Common.{◌≤ℤ◌, refl}
use Rattle.std.proofs.Common.{sym, ap, ◌∙◌, inl, inr, arith, if◌then◌else◌}
use Rattle.std.specs.List.{AllByRecursion}
use Rattle.definitions.proofs.Ring.{linear}
use Rattle.definitions.proofs.Members.{has_player-empty, has_player-grand_coalition}
use Rattle.definitions.proofs.Members.{has_player-singleton, has_player-singleton_other}
use Rattle.definitions.proofs.Members.{sum_below-same, sum_below-add, sum_over-singleton}
use Rattle.definitions.proofs.Cases.{true_or_false, below_or_above, same_or_other}
use Rattle.definitions.proofs.Cases.{less_or_last, nat_eq-same, nat_eq-other, from_not_nat_eq, and_left}
use Rattle.definitions.proofs.Halves.{size_below, size_below-yes, size_below-no, size_below-most, size_below-more}
use Rattle.definitions.proofs.Masks.{grand_coalition-within}
use Rattle.definitions.proofs.Parts.{same_coalition, has_player-more_same}
use Rattle.definitions.proofs.Parts.{has_player-more_other, has_player-past, more-lt, part, has_player-within}
use Rattle.definitions.proofs.MarginalWorths.{marginal_worth-none}
use Rattle.definitions.proofs.SumsOver.{sum_over-zero}
use Rattle.definitions.specs.Coalitions.{has_player, singleton, grand_coalition, sum_over}
use Rattle.definitions.specs.Games.{Game}
use Rattle.definitions.specs.Shapley.{AllDiffer, IsOrder, marginal_worth}
use Rattle.definitions.specs.Convexity.{IsConvex}
use Rattle.convexity.proofs.Joining.{adds, adds_more}

-- players that are still to come: none twice, none in front
pub record IsRest (n front : ℕ) (ps : List ℕ) : Type 0 where
  pub below : AllByRecursion (λ p. p < n) ps
  pub apart : AllByRecursion (λ p. has_player front p ≡ false) ps
  pub once : AllDiffer ps

still_apart : (front p : ℕ) (ps : List ℕ) → has_player front p ≡ false → AllByRecursion (λ q. nat_eq p q ≡ false) ps
    → AllByRecursion (λ q. has_player front q ≡ false) ps
    → AllByRecursion (λ q. has_player (front + 2 ^ p) q ≡ false) ps
still_apart front p [] e differ apart = tt
still_apart front p (q ∷ ps) e differ apart = (
  has_player-more_other front p q e (from_not_nat_eq p q differ.0) ∙ apart.0,
  still_apart front p ps e differ.1 apart.1,
)

pub rest_next : (n front p : ℕ) (ps : List ℕ) → IsRest n front (p ∷ ps) → IsRest n (front + 2 ^ p) ps
rest_next n front p ps h = record {
  below = h.below.1;
  apart = still_apart front p ps h.apart.0 h.once.0 h.apart.1;
  once = h.once.1;
}

pub rest_of_order : (n : ℕ) (order : List ℕ) → IsOrder n order → IsRest n 0 order
rest_of_order n order h = record { below = h.below; apart = all order; once = h.once }
  where
    all : (ps : List ℕ) → AllByRecursion (λ p. has_player 0 p ≡ false) ps
    all [] = tt
    all (p ∷ ps) = (has_player-empty p, all ps)

-- what the members of s add, where front stand in front of the list
abbrev pub along : (ℕ → ℤ) → ℕ → ℕ → List ℕ → ℤ
along v s front [] = pos 0
along v s front (p ∷ ps) = (if has_player s p then adds v p front else pos 0) +ℤ along v s (front + 2 ^ p) ps

pub amount-along : (n s : ℕ) (v : ℕ → ℤ) (front : ℕ) (ps : List ℕ) → IsRest n front ps
    → sum_over n (λ i. marginal_worth v i front ps) s ≡ along v s front ps
amount-along n s v front [] h =
    sum_over-zero n s
amount-along n s v front (p ∷ ps) h =
    let ih = amount-along n s v (front + 2 ^ p) ps (rest_next n front p ps h) in
    let sums =
    sum_below-same n (part (λ i. marginal_worth v i front (p ∷ ps)) s)
    (λ i. part (λ j. marginal_worth v j (front + 2 ^ p) ps) s i +ℤ part (λ j. first) (singleton p) i) here in
    let both =
    sum_below-add n (part (λ i. marginal_worth v i (front + 2 ^ p) ps) s) (part (λ j. first) (singleton p)) in
    let one = sum_over-singleton n p (λ j. first) h.below.0 in
    omega (arith, linear, sums, both, ih, one)
  where
    first : ℤ
    first = if has_player s p then adds v p front else pos 0

    itself : (i : ℕ) → i ≡ p
        → part (λ j. marginal_worth v j front (p ∷ ps)) s i
        ≡ part (λ j. marginal_worth v j (front + 2 ^ p) ps) s i +ℤ part (λ j. first) (singleton p) i
    itself i e = rw e
        (rw (has_player-singleton p, nat_eq-same p, marginal_worth-none v p (front + 2 ^ p) ps h.once.0)
        (after_nothing (has_player s p) (adds v p front)))
      where
        after_nothing : (b : Bool) (z : ℤ) → cond b z (pos 0) ≡ cond b (pos 0) (pos 0) +ℤ cond b z (pos 0)
        after_nothing true z = omega (arith, linear)
        after_nothing false z = omega (arith, linear)

    another : (i : ℕ) → i ≢ p
        → part (λ j. marginal_worth v j front (p ∷ ps)) s i
        ≡ part (λ j. marginal_worth v j (front + 2 ^ p) ps) s i +ℤ part (λ j. first) (singleton p) i
    another i ne =
        rw (has_player-singleton_other p i ne, nat_eq-other p i (λ same. ne (sym same))) (omega (arith, linear))

    here : (i : ℕ) → i < n
        → part (λ j. marginal_worth v j front (p ∷ ps)) s i
        ≡ part (λ j. marginal_worth v j (front + 2 ^ p) ps) s i +ℤ part (λ j. first) (singleton p) i
    here i lt = elim (same_or_other i p) [ inl e ↦ itself i e | inr ne ↦ another i ne ]

-- ---- when all have come

-- a coalition of as many as there are has everybody
size-full : (n s i : ℕ) → size_below n s ≡ n → i < n → has_player s i ≡ true
size-full zero s i e h = absurd (omega arith)
size-full (suc n) s i e h = elim (true_or_false (has_player s n)) [
  | inl inside ↦ elim (less_or_last i n h) [
    | inl less ↦ size-full n s i (omega (arith, size_below-yes n s inside, e)) less
    | inr same ↦ ap (has_player s) same ∙ inside
  ]
  | inr outside ↦ absurd (omega (arith, size_below-no n s outside, size_below-most n s, e))
]

-- the members of s in front, where all have come, are s
all_came : (n s a b : ℕ) → s < 2 ^ n → a < 2 ^ n → size_below n b ≡ n
    → ((j : ℕ) → has_player a j ≡ (has_player b j && has_player s j)) → a ≡ s
all_came n s a b ls la full h = same_coalition a s (λ j. elim (below_or_above j n) [
  | inl less ↦ h j ∙ ap (λ c. c && has_player s j) (size-full n b j full less)
  | inr past ↦ has_player-past n a j la past ∙ sym (has_player-past n s j ls past)
])

count_next : (n b p l : ℕ) → p < n → has_player b p ≡ false → size_below n b + suc l ≡ n
    → size_below n (b + 2 ^ p) + l ≡ n
count_next n b p l lt e h = let more = size_below-more n p b lt e in omega (arith, more, h)

pub along-reaches : (g : Game) (s : ℕ) → IsConvex g → s < 2 ^ g.players → (ps : List ℕ) (a b : ℕ)
    → IsRest g.players b ps → size_below g.players b + length ps ≡ g.players → a < 2 ^ g.players → b < 2 ^ g.players
    → ((j : ℕ) → has_player a j ≡ (has_player b j && has_player s j))
    → (g.worth s -ℤ g.worth a) ≤ℤ along g.worth s b ps
along-reaches g s convex ls [] a b rest count la lb h =
    let e = all_came g.players s a b ls la (omega (arith, count)) h in
    rw e (omega (arith, linear))
along-reaches g s convex ls (p ∷ ps) a b rest count la lb h =
    cases (has_player s p) refl
    (λ less now. along-reaches g s convex ls ps (a + 2 ^ p) (b + 2 ^ p) next counted less after now)
    (λ now. along-reaches g s convex ls ps a (b + 2 ^ p) next counted la after now)
  where
    out : has_player b p ≡ false
    out = rest.apart.0

    below : p < g.players
    below = rest.below.0

    next : IsRest g.players (b + 2 ^ p) ps
    next = rest_next g.players b p ps rest

    counted : size_below g.players (b + 2 ^ p) + length ps ≡ g.players
    counted = count_next g.players b p (length ps) below out count

    after : b + 2 ^ p < 2 ^ g.players
    after = more-lt g.players b p lb below out

    lacks : has_player a p ≡ false
    lacks = h p ∙ ap (λ c. c && has_player s p) out

    joined : has_player s p ≡ true → (j : ℕ)
        → has_player (a + 2 ^ p) j ≡ (has_player (b + 2 ^ p) j && has_player s j)
    joined e j = elim (same_or_other j p) [
      | inl at ↦ rw at (rw (has_player-more_same a p lacks, has_player-more_same b p out, e) refl)
      | inr other ↦ rw (has_player-more_other a p j lacks other, has_player-more_other b p j out other) (h j)
    ]

    passed : has_player s p ≡ false → (j : ℕ) → has_player a j ≡ (has_player (b + 2 ^ p) j && has_player s j)
    passed e j = elim (same_or_other j p) [
      | inl at ↦ rw at (rw (lacks, has_player-more_same b p out, e) refl)
      | inr other ↦ rw (has_player-more_other b p j out other) (h j)
    ]

    within : (j : ℕ) → has_player a j ≡ true → has_player b j ≡ true
    within j e = and_left (has_player b j) (has_player s j) (sym (h j) ∙ e)

    cases : (c : Bool) → has_player s p ≡ c
        → (a + 2 ^ p < 2 ^ g.players
        → ((j : ℕ) → has_player (a + 2 ^ p) j ≡ (has_player (b + 2 ^ p) j && has_player s j))
        → (g.worth s -ℤ g.worth (a + 2 ^ p)) ≤ℤ along g.worth s (b + 2 ^ p) ps)
        → (((j : ℕ) → has_player a j ≡ (has_player (b + 2 ^ p) j && has_player s j))
        → (g.worth s -ℤ g.worth a) ≤ℤ along g.worth s (b + 2 ^ p) ps)
        → (g.worth s -ℤ g.worth a) ≤ℤ (cond c (adds g.worth p b) (pos 0) +ℤ along g.worth s (b + 2 ^ p) ps)
    cases true e join pass =
        let ih = join (more-lt g.players a p la below lacks) (joined e) in
        let more = adds_more g p a b convex la lb below out within in
        omega (arith, linear, ih, more)
    cases false e join pass = let ih = pass (passed e) in omega (arith, linear, ih)

everybody : (n b : ℕ) → b < 2 ^ n → size_below n b ≡ n → b ≡ grand_coalition n
everybody n b lb full =
    all_came n (grand_coalition n) b b (grand_coalition-within n) lb full
    (λ j. both (has_player b j) (has_player (grand_coalition n) j)
    (λ e. has_player-grand_coalition n j (has_player-within n b j lb e)))
  where
    both : (c d : Bool) → (c ≡ true → d ≡ true) → c ≡ (c && d)
    both true d f = sym (f refl)
    both false d f = refl

-- all together add the worth of all
pub along-all : (g : Game) (ps : List ℕ) (b : ℕ) → IsRest g.players b ps
    → size_below g.players b + length ps ≡ g.players → b < 2 ^ g.players
    → along g.worth (grand_coalition g.players) b ps ≡ g.worth (grand_coalition g.players) -ℤ g.worth b
along-all g [] b rest count lb =
    let e = everybody g.players b lb (omega (arith, count)) in
    rw e (omega (arith, linear))
along-all g (p ∷ ps) b rest count lb =
    let out = rest.apart.0 in
    let below = rest.below.0 in
    let ih =
    along-all g ps (b + 2 ^ p) (rest_next g.players b p ps rest)
    (count_next g.players b p (length ps) below out count) (more-lt g.players b p lb below out) in
    rw (has_player-grand_coalition g.players p below) (omega (arith, linear, ih))
