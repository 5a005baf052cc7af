-- The marginal shares while the players of an order join one after the other.
use Rattle.std.proofs.Common.{◌≡◌, ◌≢◌, ℕ, zero, suc, ◌+◌, ◌^◌, ◌<◌, ◌≤◌, false}
use Rattle.std.proofs.Common.{List, [], ◌∷◌}
use Rattle.std.proofs.Common.{length, get_or, set, drop, replicate, ℤ, pos, ◌+ℤ◌, ◌-ℤ◌}
use Rattle.std.proofs.Common.{unsigned_abs, refl, sym, ap, ◌∙◌, inl, inr, arith}
use Rattle.std.proofs.lemmas.Bool.{false≢true}
use Rattle.std.proofs.lemmas.Int.{ints}
use Rattle.std.proofs.lemmas.List.{drop_more, get_or-replicate, length-replicate}
use Rattle.std.proofs.lemmas.List.{get_or-set_same, get_or-set_other, length-set}
use Rattle.std.proofs.Math.Pow.{pow_pos}
use Rattle.definitions.proofs.Ring.{linear, one-mulℤ}
use Rattle.definitions.proofs.Cases.{same_or_other, nat_eq-same, nat_eq-other}
use Rattle.definitions.proofs.Parts.{has_player-more_same, has_player-more_other, more-lt}
use Rattle.definitions.proofs.MarginalWorths.{marginal_worth-none}
use Rattle.definitions.specs.Coalitions.{has_player}
use Rattle.definitions.specs.Games.{Game, IsGame, IsShares}
use Rattle.definitions.specs.Shapley.{IsOrder, marginal_worth}
use Rattle.definitions.specs.Convexity.{IsMarginal}
use lib.IntN.{+ℤ_idr}
use Rattle.worth_core.specs.Allocations.{allocation}
use Rattle.convexity.proofs.AlongOrders.{IsRest, rest_next, rest_of_order}

-- the first k players of the order are front, and their shares are found
pub record IsPartway (g : Game) (order : List ℕ) (k front : ℕ) (before : ℤ) (num : List ℤ) : Type 0 where
  pub within : front < 2 ^ g.players
  pub rest : IsRest g.players front (drop k order)
  pub worth : before ≡ g.worth front
  pub long : length num ≡ g.players
  pub left : (i : ℕ) → i < g.players
      → marginal_worth g.worth i 0 order ≡ get_or num i (pos 0) +ℤ marginal_worth g.worth i front (drop k order)
  pub none : (i : ℕ) → i < g.players → has_player front i ≡ false → get_or num i (pos 0) ≡ pos 0
  pub small : (i : ℕ) → i < g.players → unsigned_abs (get_or num i (pos 0)) < 2 ^ 47

pub partway_start : (g : Game) (order : List ℕ) → IsGame g → IsOrder g.players order
    → IsPartway g order 0 0 (pos 0) (replicate g.players (pos 0))
partway_start g order laws h = record {
  within = pow_pos g.players;
  rest = rest_of_order g.players order h;
  worth = sym laws.nobody;
  long = length-replicate g.players (pos 0);
  left = λ i lt. rw (get_or-replicate g.players i (pos 0) (pos 0) lt) (omega (arith, linear));
  none = λ i lt out. get_or-replicate g.players i (pos 0) (pos 0) lt;
  small = λ i lt. rw (get_or-replicate g.players i (pos 0) (pos 0) lt) (omega arith);
}

-- the next player, who isn't in front
pub next_of : (g : Game) (order : List ℕ) (k front : ℕ) (before : ℤ) (num : List ℤ)
    → IsPartway g order k front before num → k < length order
    → (get_or order k 0 < g.players) × (has_player front (get_or order k 0) ≡ false)
    × IsRest g.players front (get_or order k 0 ∷ drop (k + 1) order)
next_of g order k front before num h lt =
    let rest = rw (drop_more order k 0 lt) at h.rest in (rest.below.0, rest.apart.0, rest)

pub partway_next : (g : Game) (order : List ℕ) (k front : ℕ) (before : ℤ) (num : List ℤ) → IsGame g
    → IsPartway g order k front before num → k < length order
    → IsPartway g order (k + 1) (front + 2 ^ get_or order k 0) (g.worth (front + 2 ^ get_or order k 0))
    (set num (get_or order k 0) (g.worth (front + 2 ^ get_or order k 0) -ℤ g.worth front))
partway_next g order k front before num laws h lt = record {
  within = within;
  rest = rest_next g.players front p (drop (k + 1) order) next.2;
  worth = refl;
  long = length-set num p more ∙ h.long;
  left = λ i l. elim (same_or_other i p) [ inl same ↦ itself i same l | inr other ↦ another i other l ];
  none = λ i l out. elim (same_or_other i p) [
    | inl same ↦ absurd
        (false≢true (sym out ∙ ap (has_player (front + 2 ^ p)) same ∙ has_player-more_same front p next.1))
    | inr other ↦ get_or-set_other num p i more (pos 0) other
        ∙ h.none i l (sym (has_player-more_other front p i next.1 other) ∙ out)
  ];
  small = λ i l. elim (same_or_other i p) [
    | inl same ↦ rw (same, get_or-set_same num p more (pos 0) below)
        (difference_small (g.worth (front + 2 ^ p)) (g.worth front) (laws.small (front + 2 ^ p) within)
        (laws.small front h.within))
    | inr other ↦ rw (get_or-set_other num p i more (pos 0) other) (h.small i l)
  ];
}
  where
    p : ℕ
    p = get_or order k 0

    ps : List ℕ
    ps = drop (k + 1) order

    next : (p < g.players) × (has_player front p ≡ false) × IsRest g.players front (p ∷ ps)
    next = next_of g order k front before num h lt

    within : front + 2 ^ p < 2 ^ g.players
    within = more-lt g.players front p h.within next.0 next.1

    more : ℤ
    more = g.worth (front + 2 ^ p) -ℤ g.worth front

    below : p < length num
    below = let long = h.long in let lt = next.0 in omega (arith, long, lt)

    difference_small : (a b : ℤ) → unsigned_abs a < 2 ^ 46 → unsigned_abs b < 2 ^ 46
        → unsigned_abs (a -ℤ b) < 2 ^ 47
    difference_small a b h k = omega (arith, ints)

    at : (i : ℕ) → i < g.players
        → marginal_worth g.worth i 0 order ≡ get_or num i (pos 0) +ℤ marginal_worth g.worth i front (p ∷ ps)
    at i l =
        h.left i l
        ∙ ap (λ (qs : List ℕ). get_or num i (pos 0) +ℤ marginal_worth g.worth i front qs) (drop_more order k 0 lt)

    first : marginal_worth g.worth p front (p ∷ ps) ≡ more
    first = rw (nat_eq-same p) refl

    itself : (i : ℕ) → i ≡ p → i < g.players
        → marginal_worth g.worth i 0 order
        ≡ get_or (set num p more) i (pos 0) +ℤ marginal_worth g.worth i (front + 2 ^ p) ps
    itself i same l =
        rw same
        (exchanged _ _ _ _ _ (at p next.0) (h.none p next.0 next.1) first (get_or-set_same num p more (pos 0) below)
        (marginal_worth-none g.worth p (front + 2 ^ p) ps next.2.once.0))
      where
        exchanged : (m a b c d : ℤ) → m ≡ a +ℤ b → a ≡ pos 0 → b ≡ more → c ≡ more → d ≡ pos 0 → m ≡ c +ℤ d
        exchanged m a b c d e f s t u = omega (arith, linear, e, f, s, t, u)

    another : (i : ℕ) → i ≢ p → i < g.players
        → marginal_worth g.worth i 0 order
        ≡ get_or (set num p more) i (pos 0) +ℤ marginal_worth g.worth i (front + 2 ^ p) ps
    another i other l =
        rw (get_or-set_other num p i more (pos 0) other) (at i l ∙ ap (λ z. get_or num i (pos 0) +ℤ z) passed)
      where
        passed : marginal_worth g.worth i front (p ∷ ps) ≡ marginal_worth g.worth i (front + 2 ^ p) ps
        passed = rw (nat_eq-other p i (λ same. other (sym same))) refl

-- where all have joined
pub partway_end : (g : Game) (order : List ℕ) (k front : ℕ) (before : ℤ) (num : List ℤ)
    → IsPartway g order k front before num → length order ≤ k → IsMarginal g order (allocation num (pos 1))
partway_end g order k front before num h le = (
  (h.long, omega (arith, linear)),
  λ i lt. sym
      (one-mulℤ (marginal_worth g.worth i 0 order) ∙ h.left i lt
      ∙ ap (λ (qs : List ℕ). get_or num i (pos 0) +ℤ marginal_worth g.worth i front qs) (nothing_left k order le)
      ∙ +ℤ_idr (get_or num i (pos 0))),
)
  where
    nothing_left : (k : ℕ) (qs : List ℕ) → length qs ≤ k → drop k qs ≡ []
    nothing_left zero [] h = refl
    nothing_left zero (q ∷ qs) h = absurd (omega arith)
    nothing_left (suc k) [] h = refl
    nothing_left (suc k) (q ∷ qs) h = nothing_left k qs (omega arith)

pub partway_fit : (g : Game) (order : List ℕ) (k front : ℕ) (before : ℤ) (num : List ℤ) → IsGame g
    → IsPartway g order k front before num → IsShares (allocation num (pos 1))
partway_fit g order k front before num laws h =
    let long = h.long in
    let some = laws.some in
    let few = laws.few in
    record {
      some = omega (arith, long, some);
      few = omega (arith, long, few);
      positive = omega (arith, linear);
      common = omega (arith, linear);
      small = λ i lt. let s = h.small i (omega (arith, long, lt)) in omega (arith, s);
    }
