-- The blocker and the split bounds are read off the best sets of each weight.
use Rattle.std.proofs.Common.{◌≡◌, ℕ, zero, suc, ◌^◌, ◌<◌, ◌≤◌, Bool, true, false}
use Rattle.std.proofs.Common.{cond, IsTrue, nat_le, List}
use Rattle.std.proofs.Common.{length, get_or, ℤ, pos, ◌+ℤ◌, ◌-ℤ◌, ◌*ℤ◌, neg_ℤ, ◌<ℤ◌, ◌≤ℤ◌}
use Rattle.std.proofs.Common.{int_le, Option}
use Rattle.std.proofs.Common.{None, Some, IsSome, IfSome, MatchOption, refl, sym, ap, ◌∙◌}
use Rattle.std.proofs.Common.{arith}
use Rattle.std.proofs.lemmas.Bool.Decides.{nat_tests}
use Rattle.std.proofs.lemmas.Int.{ints}
use Rattle.std.proofs.lemmas.List.{get_or_default}
use Rattle.std.proofs.Math.Pow.{pow_pos, pow-lt}
use Rattle.definitions.proofs.Ring.{linear, mul-oneℤ, mul-zeroℤ}
use Rattle.definitions.proofs.Cases.{and_both, and_parts}
use Rattle.definitions.proofs.Splits.{splits-singleton}
use Rattle.definitions.specs.Coalitions.{has_player, singleton, sum_over, splits}
use Rattle.definitions.specs.Games.{Game, Allocation, share, amount, excess, Blocks}
use Rattle.definitions.specs.Games.{IsChosenBlocker, IsSplitMaximum, HasTwo}
use Rattle.voting.specs.declared.candidate.Candidate.{Candidate}
use Rattle.voting.specs.declared.layer.Layer.{Layer}
use Rattle.definitions.specs.Classes.{voting_worth}
use Rattle.voting.specs.Voting.{Voting, voting, IsVoting, voting_game}
use Rattle.voting.specs.Candidates.{best_below, chosen_of, IsBest}
use Rattle.voting.specs.SetKinds.{Numbers, weights, holds_one_of, lacks_one_of, IsLayer}
use Rattle.voting.proofs.Best.{IsBest-same}
use Rattle.orders.proofs.ListSums.{number_of}
use Rattle.voting.proofs.Laws.{weight_few}
use Rattle.voting.proofs.Layers.{IsBelow, bonus, IsBest-below}

-- the players by their weights, and minus their shares
abbrev pub numbers : Voting → Allocation → Numbers
numbers g x =
    record { players = length g.weights; weight = λ i. get_or g.weights i 0; number = λ i. neg_ℤ (share x i) }

-- ---- the excess of a set of a weight

sum_over-neg : (n s : ℕ) (a : ℕ → ℤ) → sum_over n (λ i. neg_ℤ (a i)) s ≡ neg_ℤ (sum_over n a s)
sum_over-neg zero s a = refl
sum_over-neg (suc n) s a =
    let ih = sum_over-neg n s a in
    let with_last : (b : Bool)
    → sum_over n (λ i. neg_ℤ (a i)) s +ℤ cond b (neg_ℤ (a n)) (pos 0)
    ≡ neg_ℤ (sum_over n a s +ℤ cond b (a n) (pos 0)) =
    elim [ true ↦ omega (arith, linear) | false ↦ omega (arith, linear) ] in
    with_last (has_player s n)

pub same_test : (q w : ℕ) → int_le (pos q) (pos w) ≡ nat_le q w
same_test q w = grind (arith, ints)
  where
    at_most : nat_le q w ≡ true → q ≤ w
    at_most e = grind (arith, nat_tests)

    above : nat_le q w ≡ false → w < q
    above e = grind (arith, nat_tests)

scaled : (d : ℤ) (b : Bool) → d *ℤ cond b (pos 1) (pos 0) ≡ cond b d (pos 0)
scaled d true = mul-oneℤ d
scaled d false = mul-zeroℤ d

pub excess-at : (g : Voting) (x : Allocation) → length x.shares ≡ length g.weights → (s w : ℕ)
    → sum_over (length g.weights) (weights (numbers g x)) s ≡ pos w
    → excess (voting_game g) x s ≡ sum_over (length g.weights) (numbers g x).number s +ℤ bonus x.den g.quota w
excess-at g x same s w e =
    let test : int_le (pos g.quota) (sum_over (length g.weights) (number_of g.weights) s) ≡ nat_le g.quota w =
    ap (λ (z : ℤ). int_le (pos g.quota) z) e ∙ same_test g.quota w in
    let worth : x.den *ℤ voting_worth g.quota g.weights s ≡ bonus x.den g.quota w =
    ap (λ (b : Bool). x.den *ℤ cond b (pos 1) (pos 0)) test ∙ scaled x.den (nat_le g.quota w) in
    let paid : amount x s ≡ sum_over (length g.weights) (share x) s = ap (λ (n : ℕ). sum_over n (share x) s) same in
    join _ _ _ _ _ worth paid (sum_over-neg (length g.weights) s (share x))
  where
    join : (v b a t u : ℤ) → v ≡ b → a ≡ t → u ≡ neg_ℤ t → v -ℤ a ≡ u +ℤ b
    join v b a t u e f h = omega (arith, linear)

-- ---- the blocker

-- the best of all sets is best of all coalitions
pub best-all : (g : Voting) (x : Allocation) (l : Layer) → IsVoting g → length x.shares ≡ length g.weights
    → IsLayer (numbers g x) false false 0 (length g.weights) l
    → IsBest (λ s. s < 2 ^ length g.weights) (excess (voting_game g) x) (best_below x.den g.quota l 1001)
best-all g x l laws same h =
    IsBest-same (IsBelow (numbers g x) false false 0 1001) (λ s. s < 2 ^ length g.weights)
    (excess (voting_game g) x) (best_below x.den g.quota l 1001) (λ s lt. ((lt, refl, refl), weight_few g s laws))
    (λ s k. k.0.0)
    (IsBest-below (numbers g x) false false 0 l x.den g.quota (excess (voting_game g) x) h (excess-at g x same) 1001
    (omega arith))

chosen : (g : Game) (x : Allocation) (c : Candidate) → IsBest (λ s. s < 2 ^ g.players) (excess g x) (Some c)
    → pos 0 <ℤ c.sum → IsChosenBlocker g x c.coalition
chosen g x c h up = record {
  within = h.of_kind;
  blocks = omega (arith, linear);
  greatest = λ t lt. let le = h.greatest t lt in omega (arith, linear);
  least = λ t lt.
      let less = h.least t (omega arith) lt in omega (arith, linear);
}

none_blocks : (g : Game) (x : Allocation) (c : Candidate) → IsBest (λ s. s < 2 ^ g.players) (excess g x) (Some c)
    → c.sum ≤ℤ pos 0 → (t : ℕ) → t < 2 ^ g.players → ¬ Blocks g x t
none_blocks g x c h low t lt = λ blocks. let le = h.greatest t lt in omega (arith, linear)

pub blocker-best : (g : Game) (x : Allocation) (c : Option Candidate) (r : Option ℕ)
    → IsBest (λ s. s < 2 ^ g.players) (excess g x) c → r ≡ chosen_of c
    → MatchOption r ((t : ℕ) → t < 2 ^ g.players → ¬ Blocks g x t) (IsChosenBlocker g x)
blocker-best g x None r h e = absurd (h 0 (pow_pos g.players))
blocker-best g x (Some c) r h e = grind (arith, ints)

-- ---- the split bound

-- the best of the sets that hold some of f and lack some is best of the coalitions that split f
pub best-split : (g : Voting) (x : Allocation) (f : ℕ) (l : Layer) → IsVoting g → length x.shares ≡ length g.weights
    → IsLayer (numbers g x) true true f (length g.weights) l
    → IsBest (λ s. (s < 2 ^ length g.weights) × IsTrue (splits (length g.weights) (has_player f) s))
    (excess (voting_game g) x) (best_below x.den g.quota l 1001)
best-split g x f l laws same h =
    let n = length g.weights in
    IsBest-same (IsBelow (numbers g x) true true f 1001) (λ s. (s < 2 ^ n) × IsTrue (splits n (has_player f) s))
    (excess (voting_game g) x) (best_below x.den g.quota l 1001)
    (λ s k.
    let two = and_parts (holds_one_of f n s) (lacks_one_of f n s) k.1 in
    ((k.0, two.0, two.1), weight_few g s laws))
    (λ s k. (k.0.0, and_both (holds_one_of f n s) (lacks_one_of f n s) k.0.1 k.0.2))
    (IsBest-below (numbers g x) true true f l x.den g.quota (excess (voting_game g) x) h (excess-at g x same) 1001
    (omega arith))

pub some_splits : (n f : ℕ) (v : ℕ → ℤ) (c : Option Candidate) → HasTwo n f
    → IsBest (λ s. (s < 2 ^ n) × IsTrue (splits n (has_player f) s)) v c → IsSome c
some_splits n f v None (i, j, lt, within, hi, hj) h =
    absurd (h (singleton i) (pow-lt (omega arith), splits-singleton n f i j lt within hi hj))
some_splits n f v (Some c) two h = refl

pub split-best : (g : Game) (x : Allocation) (f : ℕ) (b : Option Candidate) (m : ℤ) → IsSome b
    → IfSome b (λ c. m ≡ c.sum)
    → IsBest (λ s. (s < 2 ^ g.players) × IsTrue (splits g.players (has_player f) s)) (excess g x) b
    → IsSplitMaximum g x f m
split-best g x f None m some e h = absurd (cc)
split-best g x f (Some c) m some e h =
    ((c.coalition, h.of_kind, e ∙ h.value), λ s p. rw e (h.greatest s p))

-- ---- where the parts are known by equations

pub read-all : (g : Voting) (x : Allocation) (l : Layer) (q i : ℕ) (d : ℤ) (c : Option Candidate) → IsVoting g
    → length x.shares ≡ length g.weights → q ≡ g.quota → d ≡ x.den → i ≡ length g.weights
    → IsLayer (numbers g x) false false 0 i l → c ≡ best_below d q l 1001
    → IsBest (λ s. s < 2 ^ length g.weights) (excess (voting_game g) x) c
read-all g x l q i d c laws same quota den all h e =
    rw (e, quota, den) (best-all g x l laws same (rw all at h))

pub read-split : (g : Voting) (x : Allocation) (f : ℕ) (l : Layer) (q i : ℕ) (d : ℤ) (c : Option Candidate)
    → IsVoting g → length x.shares ≡ length g.weights → q ≡ g.quota → d ≡ x.den → i ≡ length g.weights
    → IsLayer (numbers g x) true true f i l → c ≡ best_below d q l 1001
    → IsBest (λ s. (s < 2 ^ length g.weights) × IsTrue (splits (length g.weights) (has_player f) s))
    (excess (voting_game g) x) c
read-split g x f l q i d c laws same quota den all h e =
    rw (e, quota, den) (best-split g x f l laws same (rw all at h))

-- the weight that was read
pub weight-read : (g : Voting) (q : ℕ) (ws : List ℕ) (i w : ℕ) → voting q ws ≡ g → i < length g.weights
    → w ≡ get_or ws i w → get_or g.weights i 0 ≡ w
weight-read g q ws i w view lt read =
    let count : length ws ≡ length g.weights = ap (λ (v : Voting). length v.weights) view in
    let same : get_or ws i 0 ≡ get_or g.weights i 0 = ap (λ (v : Voting). get_or v.weights i 0) view in
    sym same ∙ sym (read ∙ get_or_default ws i w 0 (omega arith))
