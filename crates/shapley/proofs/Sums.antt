-- The loop over all coalitions, and the vector of the totals.
use Rattle.std.proofs.Common.{◌≡◌, ℕ, suc, ◌+◌, ◌-◌, ◌*◌, ◌^◌, ◌<◌, ◌≤◌, Bool}
use Rattle.std.proofs.Common.{true, false, cond, List, length}
use Rattle.std.proofs.Common.{get_or, replicate, ℤ, pos, ◌+ℤ◌, ◌*ℤ◌, neg_ℤ, unsigned_abs, refl, sym}
use Rattle.std.proofs.Common.{ap, ◌∙◌}
use Rattle.std.proofs.Common.{arith, add-one, if◌then◌else◌, set, to_z, of_z, inl, inr}
use mir.Syntax.{w128}
use Rattle.definitions.proofs.Cases.{same_or_other}
use Rattle.definitions.proofs.Casts.{cast_kept}
use Rattle.definitions.proofs.Halves.{size_below, size_below-some, size_below-less}
use Rattle.std.specs.List.{All}
use Rattle.std.proofs.lemmas.Int.{ints}
use Rattle.std.proofs.lemmas.List.{get_or-replicate, length-replicate, get_or_default}
use Rattle.std.proofs.lemmas.List.{get_or-set_same, get_or-set_other}
use Rattle.definitions.proofs.Ring.{linear}
use Rattle.definitions.specs.Coalitions.{has_player}
use Rattle.definitions.specs.Games.{Game, IsGame, IsShares}
use Rattle.definitions.specs.Shapley.{factorial}
use Rattle.worth_core.specs.Allocations.{allocation}
use Rattle.shapley.specs.Subsets.{orders_with, credit}
use Rattle.shapley.proofs.Credits.{credits}
use Rattle.shapley.proofs.Sizes.{product_small, orders_with-small, factorial-some, factorial-sixteen}

-- ---- one coalition

-- gain and loss are what the worth counts
pub credit-is : (n s members k : ℕ) (worth gain loss : ℤ) → k < n → members ≡ size_below n s
    → (1 ≤ members → gain ≡ pos (orders_with n (members - 1)) *ℤ worth)
    → (members < n → loss ≡ pos (orders_with n members) *ℤ worth)
    → (if has_player s k then gain else neg_ℤ loss) ≡ credit n s worth k
credit-is n s members k worth gain loss lt count for against = cases (has_player s k) refl
  where
    cases : (b : Bool) → has_player s k ≡ b
        → cond b gain (neg_ℤ loss)
        ≡ cond b (pos (orders_with n (size_below n s - 1)) *ℤ worth)
        (neg_ℤ (pos (orders_with n (size_below n s)) *ℤ worth))
    cases true e =
        for (omega (arith, size_below-some n k s lt e))
        ∙ ap (λ (j : ℕ). pos (orders_with n (j - 1)) *ℤ worth) count
    cases false e =
        ap neg_ℤ
        (against (omega (arith, size_below-less n k s lt e))
        ∙ ap (λ (j : ℕ). pos (orders_with n j) *ℤ worth) count)

times-small : (n k : ℕ) (worth : ℤ) → k < n → n ≤ 16 → unsigned_abs worth < 2 ^ 46
    → unsigned_abs (pos (orders_with n k) *ℤ worth) < 2 ^ 87
times-small n k worth lt few small =
    product_small (orders_with n k) worth
    (orders_with-small n k (factorial k) (factorial (n - 1 - k)) lt few refl refl) small

credit-small : (n s k : ℕ) (worth : ℤ) → k < n → n ≤ 16 → unsigned_abs worth < 2 ^ 46 → size_below n s ≤ n
    → unsigned_abs (credit n s worth k) < 2 ^ 87
credit-small n s k worth lt few small most = cases (has_player s k) refl
  where
    negated : (z : ℤ) → unsigned_abs z < 2 ^ 87 → unsigned_abs (neg_ℤ z) < 2 ^ 87
    negated z h = omega (arith, ints)

    cases : (b : Bool) → has_player s k ≡ b
        → unsigned_abs
        (cond b (pos (orders_with n (size_below n s - 1)) *ℤ worth)
        (neg_ℤ (pos (orders_with n (size_below n s)) *ℤ worth))) < 2 ^ 87
    cases true e = times-small n (size_below n s - 1) worth (omega (arith, size_below-some n k s lt e)) few small
    cases false e = negated _ (times-small n (size_below n s) worth (size_below-less n k s lt e) few small)

-- the totals, where one more of them is changed
pub set_next : (xs old : List ℤ) (i : ℕ) (part : ℕ → ℤ) (r : ℤ) → i < length xs → unsigned_abs r < 2 ^ 110
    → ((k : ℕ) → k < i → get_or xs k (pos 0) ≡ get_or old k (pos 0) +ℤ part k)
    × ((k : ℕ) → i ≤ k → get_or xs k (pos 0) ≡ get_or old k (pos 0)) → r ≡ get_or xs i (pos 0) +ℤ part i
    → ((k : ℕ) → k < i + 1 → get_or (set xs i (to_z w128 (of_z w128 r))) k (pos 0) ≡ get_or old k (pos 0) +ℤ part k)
    × ((k : ℕ) → i + 1 ≤ k → get_or (set xs i (to_z w128 (of_z w128 r))) k (pos 0) ≡ get_or old k (pos 0))
set_next xs old i part r lt small before here =
    let kept : to_z w128 (of_z w128 r) ≡ r = cast_kept w128 r (omega arith) in
    rw kept (
      λ k h. elim (same_or_other k i) [
        | inl same ↦ rw same
            (get_or-set_same xs i r (pos 0) lt ∙ here ∙ ap (λ z. z +ℤ part i) (before.1 i (omega arith)))
        | inr other ↦ get_or-set_other xs i k r (pos 0) other ∙ before.0 k (omega arith)
      ],
      λ k h. get_or-set_other xs i k r (pos 0) (λ same. omega arith) ∙ before.1 k (omega arith),
    )

-- ---- the totals so far

-- the totals of the first so many coalitions
pub record AreTotals (g : Game) (n mask : ℕ) (totals : List ℤ) : Type 0 where
  pub long : length totals ≡ n
  pub value : (k : ℕ) → k < n → get_or totals k (pos 0) ≡ credits g.worth n k mask
  pub small : (k : ℕ) → k < n → unsigned_abs (get_or totals k (pos 0)) ≤ mask * 2 ^ 87

pub totals_start : (g : Game) (n : ℕ) → AreTotals g n 0 (replicate n (pos 0))
totals_start g n = record {
  long = length-replicate n (pos 0);
  value = λ k lt. get_or-replicate n k (pos 0) (pos 0) lt;
  small = λ k lt. rw (get_or-replicate n k (pos 0) (pos 0) lt) (omega arith);
}

pub totals_next : (g : Game) (n mask : ℕ) (xs ys : List ℤ) → IsGame g → n ≡ g.players → n ≤ 16 → mask < 2 ^ n
    → size_below n mask ≤ n → AreTotals g n mask xs → length ys ≡ n
    → ((k : ℕ) → k < n → get_or ys k (pos 0) ≡ get_or xs k (pos 0) +ℤ credit n mask (g.worth mask) k)
    → AreTotals g n (mask + 1) ys
totals_next g n mask xs ys laws count few lt most before long more = rw add-one (record {
  long = long;
  value = λ k h. more k h ∙ ap (λ z. z +ℤ credit n mask (g.worth mask) k) (before.value k h);
  small = λ k h. rw (more k h)
      (wider (get_or xs k (pos 0)) (credit n mask (g.worth mask) k) (before.small k h)
      (credit-small n mask k (g.worth mask) h few worth_small most));
})
  where
    worth_small : unsigned_abs (g.worth mask) < 2 ^ 46
    worth_small = laws.small mask (rw (sym count) lt)

    wider : (a b : ℤ) → unsigned_abs a ≤ mask * 2 ^ 87 → unsigned_abs b < 2 ^ 87
        → unsigned_abs (a +ℤ b) ≤ suc mask * 2 ^ 87
    wider a b h k = omega (arith, ints)

pub totals_small : (g : Game) (n mask : ℕ) (xs : List ℤ) → mask ≤ 65536 → AreTotals g n mask xs
    → All (λ z. unsigned_abs z < 2 ^ 109) xs
totals_small g n mask xs few h k d lt =
    rw (get_or_default xs k d (pos 0) lt) (omega (arith, h.small k (omega arith)))

-- ---- the shares

pub totals_fit : (n : ℕ) (num : List ℤ) → 1 ≤ n → n ≤ 16 → length num ≡ n → All (λ z. unsigned_abs z < 2 ^ 109) num
    → IsShares (allocation num (pos (factorial n)))
totals_fit n num some few long small =
    record {
      some = omega arith;
      few = omega arith;
      positive = omega (arith, linear, factorial-some n);
      common = omega (arith, linear, factorial-sixteen n few);
      small = λ i lt. omega (arith, small i (pos 0) lt);
    }
