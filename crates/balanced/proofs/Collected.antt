-- Optimal weights of the balanced program, put in mask order, are a balanced collection of excess worth if the
-- multipliers add to more than the worth of all.
--
-- Both values of an optimum are equal, so the weights' worth is more too (`more_worth`). The weights add to their
-- denominator at each player, because they solve the program. The simplex gives them in lowest terms, on distinct
-- columns, so in mask order the masks ascend strictly (`is_balanced`).
use Rattle.std.proofs.Common.{◌≡◌, ◌≢◌, ℕ, ◌+◌, ◌^◌, ◌<◌, ◌≤◌, Bool, true, false}
use Rattle.std.proofs.Common.{cond, List, [], ◌∷◌}
use Rattle.std.proofs.Common.{map, ℤ, pos, ◌+ℤ◌, ◌*ℤ◌, ◌<ℤ◌, ◌≤ℤ◌, refl, sym, ap}
use Rattle.std.proofs.Common.{subst, ◌∙◌, arith}
use Rattle.std.proofs.Common.{nat_eq, nat_lt, IsTrue, if◌then◌else◌, unsigned_abs}
use Prim.Native.Nat.{◌∣◌}
use Rattle.std.proofs.lemmas.Int.{by_lt_z, unsigned_abs-mul}
use Rattle.std.proofs.Math.Nat.{dvd-mul_right}
use Rattle.std.specs.List.{AllByRecursion, IsDistinct}
use Rattle.definitions.proofs.Ring.{linear, mul-oneℤ, mul-leℤ, mul-ltℤ, mul_left_commℤ}
use Rattle.definitions.proofs.Members.{sum_over-grand_coalition, times_bit}
use Rattle.definitions.proofs.Cases.{from_not_nat_eq}
use Rattle.definitions.proofs.Alls.{all_weaken}
use Rattle.theorems.proofs.Bondareva.{collection_blocks}
use Rattle.definitions.specs.Sums.{weighted_sum}
use Rattle.definitions.specs.Coalitions.{has_player, grand_coalition, weight_at}
use Rattle.definitions.specs.Certificates.{Ascends}
use Rattle.definitions.specs.Games.{Game, IsGame, Allocation, amount, IsEfficient}
use Rattle.definitions.specs.Balanced.{AscendsFrom, Divides, IsBalancedOfExcessWorth}
use lib.IntN.{*ℤ_comm}
use Rattle.kohlberg.specs.Pairs.{with_pair, placed_behind, placed}
use Rattle.kohlberg.proofs.Placed.{Apart, placed_ascends, placed_all, weight_at-placed, length-placed}
use Rattle.simplex.specs.Answer.{IsAnswer}
use Rattle.separation.specs.Balanced.{balanced_program}
use Rattle.separation.specs.Shares.{IsReadFrom}
use Rattle.separation.specs.Values.{multiplier_at}
use Rattle.balanced_collections.specs.Collections.{ShowsEmpty}
use Rattle.balanced.proofs.Values.{above_none, below_all, value_right}
use Rattle.balanced.proofs.Points.{amount_read, above_worth}

-- ---- masks in order

keys_apart : (ws : List (ℕ × ℤ)) → IsDistinct nat_eq (map (λ (w : ℕ × ℤ). w.0) ws) → Apart ws
unfolding IsDistinct
keys_apart [] h = tt
keys_apart (w ∷ ws) h = (others ws h.0, keys_apart ws h.1)
  where
    others : (vs : List (ℕ × ℤ)) → AllByRecursion (λ y. nat_eq w.0 y ≡ false) (map (λ (v : ℕ × ℤ). v.0) vs)
        → AllByRecursion (λ p. p.0 ≢ w.0) vs
    others [] h = tt
    others (v ∷ vs) h = (from_not_nat_eq w.0 v.0 h.0, others vs h.1)

further : (k : ℕ) (ps : List (ℕ × ℤ)) → Ascends (k + 1) ps → AscendsFrom k ps
further k [] h = tt
further k (p ∷ ps) h = (let le = h.0 in omega (arith, le), further p.0 ps h.1)

from_nobody : (ps : List (ℕ × ℤ)) → Ascends 0 ps → AllByRecursion (λ p. 0 < p.0) ps → AscendsFrom 0 ps
from_nobody [] h some = tt
from_nobody (p ∷ ps) h some = (some.0, further p.0 ps h.1)

-- ---- sums, and facts of all pairs, whatever the order

weighted_sum-with_pair : (f : ℕ → ℤ) (s : ℕ) (w : ℤ) (ps : List (ℕ × ℤ))
    → weighted_sum f (with_pair s w ps) ≡ w *ℤ f s +ℤ weighted_sum f ps
weighted_sum-with_pair f s w [] = refl
weighted_sum-with_pair f s w (p ∷ ps) =
    let ih = weighted_sum-with_pair f s w ps in
    let step : (b : Bool)
    → weighted_sum f (cond b ((s, w) ∷ (p ∷ ps)) (p ∷ with_pair s w ps))
    ≡ w *ℤ f s +ℤ (p.1 *ℤ f p.0 +ℤ weighted_sum f ps) = elim [
      | true ↦ refl
      | false ↦ omega (arith, linear, ih)
    ] in
    step (nat_lt s p.0)

weighted_sum-placed_behind : (f : ℕ → ℤ) (ps qs : List (ℕ × ℤ))
    → weighted_sum f (placed_behind ps qs) ≡ weighted_sum f ps +ℤ weighted_sum f qs
weighted_sum-placed_behind f ps [] = omega (arith, linear)
weighted_sum-placed_behind f ps (q ∷ qs) =
    omega
    (arith, linear, weighted_sum-placed_behind f (with_pair q.0 q.1 ps) qs, weighted_sum-with_pair f q.0 q.1 ps)

weighted_sum-placed : (f : ℕ → ℤ) (qs : List (ℕ × ℤ)) → weighted_sum f (placed qs) ≡ weighted_sum f qs
weighted_sum-placed f qs = omega (arith, linear, weighted_sum-placed_behind f [] qs)

all_of_pair : (P : ℕ × ℤ → Type 0) (s : ℕ) (w : ℤ) (ps : List (ℕ × ℤ)) → AllByRecursion P (with_pair s w ps)
    → P (s, w) × AllByRecursion P ps
all_of_pair P s w [] h = (h.0, tt)
all_of_pair P s w (p ∷ ps) h = parts_either (nat_lt s p.0) (all_of_pair P s w ps) h
  where
    parts_either : (b : Bool) → (AllByRecursion P (with_pair s w ps) → P (s, w) × AllByRecursion P ps)
        → AllByRecursion P (cond b ((s, w) ∷ (p ∷ ps)) (p ∷ with_pair s w ps))
        → P (s, w) × (P p × AllByRecursion P ps)
    parts_either true ih h = (h.0, (h.1.0, h.1.1))
    parts_either false ih h = let rest = ih h.1 in (rest.0, (h.0, rest.1))

all_of_placed_behind : (P : ℕ × ℤ → Type 0) (ps qs : List (ℕ × ℤ)) → AllByRecursion P (placed_behind ps qs)
    → AllByRecursion P ps × AllByRecursion P qs
all_of_placed_behind P ps [] h = (h, tt)
all_of_placed_behind P ps (q ∷ qs) h =
    let rest = all_of_placed_behind P (with_pair q.0 q.1 ps) qs h in
    let here = all_of_pair P q.0 q.1 ps rest.0 in
    (here.1, (here.0, rest.1))

all_of_placed : (P : ℕ × ℤ → Type 0) (qs : List (ℕ × ℤ)) → AllByRecursion P (placed qs) → AllByRecursion P qs
all_of_placed P qs h = (all_of_placed_behind P [] qs h).1

-- ---- weights at a player

row_weight : (ws : List (ℕ × ℤ)) (i : ℕ)
    → weighted_sum (λ id. if has_player id i then pos 1 else pos 0) ws ≡ weight_at ws i
row_weight [] i = refl
row_weight (w ∷ ws) i = omega (arith, linear, row_weight ws i, times_bit (has_player w.0 i) w.1)

-- ---- divisors

divides_size : (d : ℕ) (z : ℤ) → Divides d z → d ∣ unsigned_abs z
divides_size d z (c, e) =
    subst (λ (t : ℕ). d ∣ t) (sym (ap unsigned_abs e ∙ unsigned_abs-mul (pos d) c)) (dvd-mul_right d (unsigned_abs c))

-- ---- the collection

-- weights worth more over their denominator than the worth of all over that of the shares
more_worth : (wden den c v a : ℤ) → pos 1 ≤ℤ wden → pos 1 ≤ℤ den → c *ℤ den ≡ a *ℤ wden → (den *ℤ v) <ℤ a
    → (wden *ℤ v) <ℤ c
more_worth wden den c v a wpos dpos value above = by_lt_z (wden *ℤ v) c (λ lt. lt) (λ le.
    let up = mul-leℤ den c (wden *ℤ v) (omega (arith, linear, dpos)) le in
    let high = mul-ltℤ wden (den *ℤ v) a (omega (arith, linear, wpos)) above in
    absurd (omega (arith, linear, up, high, value, *ℤ_comm c den, *ℤ_comm a wden, mul_left_commℤ den wden v)))

module _ (g : Game) (laws : IsGame g) (ws : List (ℕ × ℤ)) (wden : ℤ) (m : List ℤ) (den : ℤ)
    (answer : IsAnswer (balanced_program g) ws wden m den) (x : Allocation) (read : IsReadFrom g.players m den x)
    (not : ¬ IsEfficient g x) where
  abbrev P : ℕ × ℤ → Type 0
  P w = IsTrue ((balanced_program g).is_column w.0) × (pos 0 ≤ℤ w.1)

  excess : (wden *ℤ g.worth (grand_coalition g.players)) <ℤ weighted_sum g.worth ws
  excess =
      let total =
      value_right g m ∙ sym (sum_over-grand_coalition g.players (multiplier_at m))
      ∙ sym (amount_read g laws m den answer.optimal.1 x read (grand_coalition g.players)) in
      let value : weighted_sum g.worth ws *ℤ den ≡ amount x (grand_coalition g.players) *ℤ wden =
      answer.optimal.2 ∙ ap (λ (z : ℤ). z *ℤ wden) total in
      let above =
      subst (λ (d : ℤ). (d *ℤ g.worth (grand_coalition g.players)) <ℤ amount x (grand_coalition g.players))
      read.common (above_worth g laws m den answer.optimal.1 x read not) in
      more_worth wden den (weighted_sum g.worth ws) (g.worth (grand_coalition g.players))
      (amount x (grand_coalition g.players)) answer.optimal.0.1 answer.optimal.1.0 value above

  pub is_balanced : IsBalancedOfExcessWorth g (placed ws) wden
  is_balanced = record {
    positive = answer.optimal.0.1;
    ascends =
        from_nobody (placed ws) (placed_ascends ws (keys_apart ws answer.optimal.0.0.1))
        (placed_all (λ p. 0 < p.0) ws
        (all_weaken P (λ p. 0 < p.0) ws (λ w h. above_none g w.0 h.0) answer.optimal.0.0.0));
    within =
        placed_all (λ p. p.0 < 2 ^ g.players) ws
        (all_weaken P (λ p. p.0 < 2 ^ g.players) ws (λ w h. below_all g w.0 h.0) answer.optimal.0.0.0);
    weights = placed_all (λ p. pos 1 ≤ℤ p.1) ws answer.form.positive;
    balanced = λ i lt. weight_at-placed ws i ∙ sym (row_weight ws i) ∙ answer.optimal.0.2 i lt ∙ mul-oneℤ wden;
    excess_worth =
        subst (λ (z : ℤ). (wden *ℤ g.worth (grand_coalition g.players)) <ℤ z) (sym (weighted_sum-placed g.worth ws))
        excess;
    lowest_terms = λ d k each. one_most d
        (answer.form.lowest d (divides_size d wden k)
        (all_weaken (λ p. Divides d p.1) (λ p. d ∣ unsigned_abs p.1) ws (λ w h. divides_size d w.1 h)
        (all_of_placed (λ p. Divides d p.1) ws each)));
  }
    where
      one_most : (d : ℕ) → d ≡ 1 → d ≤ 1
      one_most d e = omega (arith, e)

  pub shows_empty : ShowsEmpty g (record { weights = placed ws; k = wden })
  shows_empty = record {
    balanced = is_balanced;
    small = record {
      few = subst (λ (n : ℕ). n ≤ g.players) (sym (length-placed ws)) answer.form.count;
      weights = placed_all (λ p. unsigned_abs p.1 < 2 ^ 62) ws answer.form.small;
      k = answer.form.den_small;
    };
    empty = λ y core. collection_blocks g (placed ws) wden y is_balanced core;
  }
