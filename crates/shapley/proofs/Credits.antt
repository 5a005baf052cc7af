-- The worths of all coalitions, each counted for its members and against the others, add to the Shapley total.
--
-- The worth of s counts for each member (|s| - 1)! (n - |s|)! times, and against every other player |s|! (n - 1 - |s|)!
-- times. So each worth is asked for once.
use Rattle.std.proofs.Common.{◌≡◌, ℕ, ◌+◌, ◌-◌, ◌^◌, ◌<◌, Bool, true, false, cond}
use Rattle.std.proofs.Common.{ℤ, pos, ◌+ℤ◌}
use Rattle.std.proofs.Common.{◌-ℤ◌, ◌*ℤ◌, neg_ℤ, refl, ap, ◌∙◌, arith, if◌then◌else◌}
use Rattle.definitions.proofs.Ring.{linear, mul-subℤ}
use Rattle.definitions.proofs.Members.{sum_below-same, sum_below-add}
use Rattle.definitions.proofs.Halves.{size_below, size_below-more, gained, held, sum_below-moved}
use Rattle.definitions.specs.Sums.{sum_below}
use Rattle.definitions.specs.Coalitions.{has_player}
use Rattle.definitions.specs.Games.{Game}
use Rattle.definitions.specs.Shapley.{shapley_total}
use Rattle.shapley.specs.Subsets.{orders_with, subset_term, credit}
use Rattle.shapley.proofs.Orders.{orders_are_subsets}
use Rattle.definitions.proofs.Cases.{suc-less_one}

-- the worth of a coalition, as often as the others of it stand in front of a member
abbrev for_member : (ℕ → ℤ) → ℕ → ℕ → ℤ
for_member v n s = pos (orders_with n (size_below n s - 1)) *ℤ v s

-- the worth of a coalition, counted against a player outside
abbrev against : (ℕ → ℤ) → ℕ → ℕ → ℕ → ℤ
against v n i s = if has_player s i then pos 0 else neg_ℤ (pos (orders_with n (size_below n s)) *ℤ v s)

subset_term-parts : (v : ℕ → ℤ) (n i s : ℕ) → i < n
    → subset_term v n i s ≡ gained (for_member v n) i s +ℤ against v n i s
subset_term-parts v n i s h = cases (has_player s i) refl
  where
    cases : (b : Bool) → has_player s i ≡ b
        → cond b (pos 0) (pos (orders_with n (size_below n s)) *ℤ (v (s + 2 ^ i) -ℤ v s))
        ≡ cond b (pos 0) (for_member v n (s + 2 ^ i))
        +ℤ cond b (pos 0) (neg_ℤ (pos (orders_with n (size_below n s)) *ℤ v s))
    cases true e = refl
    cases false e =
        let more =
        ap (λ (k : ℕ). pos (orders_with n (k - 1)) *ℤ v (s + 2 ^ i)) (size_below-more n i s h e)
        ∙ ap (λ (k : ℕ). pos (orders_with n k) *ℤ v (s + 2 ^ i)) (suc-less_one (size_below n s)) in
        omega (arith, linear, mul-subℤ (pos (orders_with n (size_below n s))) (v (s + 2 ^ i)) (v s))

credit-parts : (v : ℕ → ℤ) (n i s : ℕ) → credit n s (v s) i ≡ held (for_member v n) i s +ℤ against v n i s
credit-parts v n i s =
    grind (arith, linear)

-- what the worths of the first m coalitions add to the total of player i
abbrev pub credits : (ℕ → ℤ) → ℕ → ℕ → ℕ → ℤ
credits v n i m = sum_below m (λ s. credit n s (v s) i)

pub credits-total : (g : Game) (i : ℕ) → i < g.players
    → credits g.worth g.players i (2 ^ g.players) ≡ shapley_total g i
credits-total g i h =
    let v = g.worth in
    let n = g.players in
    let a =
    sum_below-same (2 ^ n) (subset_term v n i) (λ s. gained (for_member v n) i s +ℤ against v n i s)
    (λ s k. subset_term-parts v n i s h) in
    let b = sum_below-add (2 ^ n) (gained (for_member v n) i) (against v n i) in
    let c = sum_below-moved n i (for_member v n) h in
    let d =
    sum_below-same (2 ^ n) (λ s. credit n s (v s) i) (λ s. held (for_member v n) i s +ℤ against v n i s)
    (λ s k. credit-parts v n i s) in
    let e = sum_below-add (2 ^ n) (held (for_member v n) i) (against v n i) in
    let f = orders_are_subsets g i h in
    omega (arith, linear)
