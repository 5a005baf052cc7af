-- The Shapley total of a voting game by the coalitions that its player makes winning.
--
-- The player adds 1 to exactly those coalitions that weigh less than the quota, and at least the quota less its weight
-- (`adds`). Its total is a sum over the coalitions without it (`orders_are_subsets` of shapley). `ways` counts these by
-- size and weight, one player after the other (`ways-count` in Counting.antt).
use Rattle.std.proofs.Common.{◌≡◌, ℕ, ◌+◌, ◌-◌, ◌*◌, ◌^◌, ◌<◌, ◌≤◌, Bool, true}
use Rattle.std.proofs.Common.{false, cond, nat_le}
use Rattle.std.proofs.Common.{List, length, get_or, ℤ, pos, ◌-ℤ◌, ◌*ℤ◌, int_le, refl, sym}
use Rattle.std.proofs.Common.{ap, ◌∙◌, arith}
use Rattle.std.proofs.lemmas.Bool.Decides.{nat_tests}
use Rattle.definitions.proofs.Cases.{nat_lt-less}
use Rattle.definitions.proofs.Ring.{linear, mul-zeroℤ, mul_assocℤ}
use Rattle.definitions.proofs.Members.{sum_below-same, sum_below-times}
use Rattle.definitions.proofs.Parts.{sum_over-more}
use lib.IntN.{*ℤ_comm}
use Rattle.definitions.specs.Coalitions.{has_player}
use Rattle.definitions.specs.Shapley.{shapley_total, factorial}
use Rattle.definitions.proofs.Halves.{size_below, size_below-less}
use Rattle.shapley.specs.Subsets.{orders_with, subset_term}
use Rattle.shapley.specs.Layers.{common}
use Rattle.shapley.proofs.Orders.{orders_are_subsets}
use Rattle.definitions.specs.Classes.{voting_worth}
use Rattle.voting.specs.Voting.{Voting, voting_game}
use Rattle.voting.specs.Counts.{share_unit, numerator}
use Rattle.voting.proofs.Blocking.{same_test}
use Rattle.voting.proofs.Counting.{mark, weigh, pos-weigh, in_range, at_size, sizes-count}
use Rattle.voting.proofs.WholeUnits.{unit-whole}

abbrev pub weight_of : List ℕ → ℕ → ℕ
weight_of weights i = get_or weights i 0

-- what a player of weight c adds to a coalition of weight b
marginal_mark : (q b c : ℕ) → mark (nat_le q (b + c)) -ℤ mark (nat_le q b) ≡ mark (in_range (q - c) q b)
marginal_mark q b c =
    grind (arith, nat_tests)

worth-weigh : (g : Voting) (s : ℕ)
    → voting_worth g.quota g.weights s ≡ mark (nat_le g.quota (weigh (weight_of g.weights) (length g.weights) s))
worth-weigh g s =
    ap (λ (z : ℤ). cond (int_le (pos g.quota) z) (pos 1) (pos 0))
    (sym (pos-weigh (weight_of g.weights) (length g.weights) s))
    ∙ ap mark (same_test g.quota (weigh (weight_of g.weights) (length g.weights) s))

weigh-more : (weight : ℕ → ℕ) (n s i : ℕ) → i < n → has_player s i ≡ false
    → weigh weight n (s + 2 ^ i) ≡ weigh weight n s + weight i
weigh-more weight n s i lt out =
    let a = pos-weigh weight n (s + 2 ^ i) in
    let b = pos-weigh weight n s in
    let c = sum_over-more n s i (λ j. pos (weight j)) lt out in
    omega (arith, linear)

adds : (g : Voting) (i s : ℕ) → i < length g.weights → has_player s i ≡ false
    → voting_worth g.quota g.weights (s + 2 ^ i) -ℤ voting_worth g.quota g.weights s
    ≡ mark (in_range (g.quota - weight_of g.weights i) g.quota (weigh (weight_of g.weights) (length g.weights) s))
adds g i s lt out =
    let w = weight_of g.weights in
    let n = length g.weights in
    let with_it : voting_worth g.quota g.weights (s + 2 ^ i) ≡ mark (nat_le g.quota (weigh w n s + w i)) =
    worth-weigh g (s + 2 ^ i) ∙ ap (λ (m : ℕ). mark (nat_le g.quota m)) (weigh-more w n s i lt out) in
    rw (with_it, worth-weigh g s) (marginal_mark g.quota (weigh w n s) (w i))

-- ---- the whole total

scaled : (f u l o : ℕ) (m : ℤ) → u * f ≡ l * o → pos l *ℤ (pos o *ℤ m) ≡ pos f *ℤ (pos u *ℤ m)
scaled f u l o m e =
    let a : pos (l * o) *ℤ m ≡ pos l *ℤ (pos o *ℤ m) = mul_assocℤ (pos l) (pos o) m in
    let b : pos (f * u) *ℤ m ≡ pos f *ℤ (pos u *ℤ m) = mul_assocℤ (pos f) (pos u) m in
    let same : l * o ≡ f * u = omega arith in
    sym a ∙ ap (λ (k : ℕ). pos k *ℤ m) same ∙ b

term : (g : Voting) (i s : ℕ) → length g.weights ≤ 32 → i < length g.weights
    → pos common *ℤ subset_term (voting_worth g.quota g.weights) (length g.weights) i s
    ≡ pos (factorial (length g.weights))
    *ℤ at_size (λ k. pos (share_unit (length g.weights) k)) (weight_of g.weights) i (length g.weights)
    (g.quota - weight_of g.weights i) g.quota (length g.weights) s
term g i s few lt = by_membership (has_player s i) refl
  where
    by_membership : (b : Bool) → has_player s i ≡ b
        → pos common *ℤ subset_term (voting_worth g.quota g.weights) (length g.weights) i s
        ≡ pos (factorial (length g.weights))
        *ℤ at_size (λ k. pos (share_unit (length g.weights) k)) (weight_of g.weights) i (length g.weights)
        (g.quota - weight_of g.weights i) g.quota (length g.weights) s
    by_membership true e = rw e (mul-zeroℤ (pos common) ∙ sym (mul-zeroℤ (pos (factorial (length g.weights)))))
    by_membership false e =
        let n = length g.weights in
        let k = size_below n s in
        rw (e, nat_lt-less k n (size_below-less n i s lt e), adds g i s lt e)
        (scaled (factorial n) (share_unit n k) common (orders_with n k) _
        (unit-whole n k few (size_below-less n i s lt e)))

-- the total over the orders, by the counts
pub pivots-total : (g : Voting) (i : ℕ) → length g.weights ≤ 32 → i < length g.weights
    → numerator (weight_of g.weights) i (length g.weights) (g.quota - weight_of g.weights i) g.quota
    *ℤ pos (factorial (length g.weights)) ≡ pos common *ℤ shapley_total (voting_game g) i
pivots-total g i few lt =
    let n = length g.weights in
    let w = weight_of g.weights in
    let low = g.quota - w i in
    let v = voting_worth g.quota g.weights in
    let c : ℕ → ℤ = λ k. pos (share_unit n k) in
    *ℤ_comm (numerator w i n low g.quota) (pos (factorial n))
    ∙ ap (λ (z : ℤ). pos (factorial n) *ℤ z) (sizes-count c w i n low g.quota n)
    ∙ sym (sum_below-times (2 ^ n) (at_size c w i n low g.quota n) (pos (factorial n)))
    ∙ sym
    (sum_below-same (2 ^ n) (λ s. pos common *ℤ subset_term v n i s)
    (λ s. pos (factorial n) *ℤ at_size c w i n low g.quota n s) (λ s less. term g i s few lt))
    ∙ sum_below-times (2 ^ n) (subset_term v n i) (pos common)
    ∙ ap (λ (z : ℤ). pos common *ℤ z) (sym (orders_are_subsets (voting_game g) i lt))
