-- What members get together, from one step in Gray order to the next.
use Rattle.std.proofs.Common.{◌≡◌, ◌≢◌, ℕ, zero, suc, ◌+◌, ◌-◌, ◌<◌, Bool, true}
use Rattle.std.proofs.Common.{false, cond, not}
use Rattle.std.proofs.Common.{nat_eq, length, ℤ, pos, ◌+ℤ◌, ◌-ℤ◌, Option, Some, None}
use Rattle.std.proofs.Common.{MatchOption, sym, ap, ◌∙◌, arith, inl, inr, if◌then◌else◌}
use Rattle.std.proofs.lemmas.Bool.Decides.{nat_tests}
use Rattle.definitions.proofs.Ring.{linear}
use Rattle.definitions.proofs.Members.{sum_below-same}
use Rattle.definitions.specs.Sums.{sum_below}
use Rattle.definitions.specs.Coalitions.{has_player, sum_over}
use Rattle.std.specs.Option.{ForSome}
use Rattle.coalitions.specs.declared.gray.GrayStep.{GrayStep}
use Rattle.definitions.specs.Games.{Allocation, share, amount}
use Rattle.definitions.proofs.SumsOver.{amount-empty}
use Rattle.coalitions.specs.GrayOrder.{gray_mask, gray_step, IsFlip}
use Rattle.checker.specs.Paid.{paid_after}
use Rattle.definitions.proofs.Cases.{less_or_last}

-- two sums that differ in one number
sums_but_one : (n i : ℕ) (f g : ℕ → ℤ) → i < n → ((j : ℕ) → j ≢ i → f j ≡ g j)
    → sum_below n f +ℤ g i ≡ sum_below n g +ℤ f i
sums_but_one zero i f g lt same = absurd (omega arith)
sums_but_one (suc n) i f g lt same = elim (less_or_last i n lt) [
  | inl less ↦
      let ih = sums_but_one n i f g less same in
      let here = same n (λ e. omega arith) in
      omega (arith, linear, ih, here)
  | inr last ↦
      let front = sum_below-same n f g (λ j k. same j (λ e. omega arith)) in
      let a : f i ≡ f n = ap f last in
      let b : g i ≡ g n = ap g last in
      omega (arith, linear, front, a, b)
]

abbrev at : (ℕ → ℤ) → ℕ → ℕ → ℤ
at a s j = if has_player s j then a j else pos 0

-- one player comes or goes
sum_flipped : (n i s t : ℕ) (a : ℕ → ℤ) → i < n
    → ((j : ℕ) → has_player t j ≡ cond (nat_eq j i) (not (has_player s j)) (has_player s j))
    → sum_over n a t ≡ cond (has_player t i) (sum_over n a s +ℤ a i) (sum_over n a s -ℤ a i)
sum_flipped n i s t a lt h =
    let here : nat_eq i i ≡ true = grind (arith, nat_tests) in
    let flip : has_player t i ≡ not (has_player s i) =
    h i ∙ ap (λ (b : Bool). cond b (not (has_player s i)) (has_player s i)) here in
    pick (has_player t i) (has_player s i) (sum_over n a t) (sum_over n a s) (a i) flip
    (sums_but_one n i (at a t) (at a s) lt others_same)
  where
    others_same : (j : ℕ) → j ≢ i → at a t j ≡ at a s j
    others_same j ne =
        let off : nat_eq j i ≡ false = grind (arith, nat_tests) in
        ap (λ (b : Bool). cond b (a j) (pos 0))
        (h j ∙ ap (λ (b : Bool). cond b (not (has_player s j)) (has_player s j)) off)

    pick : (b c : Bool) (u v w : ℤ) → b ≡ not c → u +ℤ cond c w (pos 0) ≡ v +ℤ cond b w (pos 0)
        → u ≡ cond b (v +ℤ w) (v -ℤ w)
    pick true false u v w e h = omega (arith, linear, h)
    pick false true u v w e h = omega (arith, linear, h)
    pick true true u v w e h = absurd (Rattle.std.proofs.lemmas.Bool.false≢true (sym e))
    pick false false u v w e h = absurd (Rattle.std.proofs.lemmas.Bool.false≢true e)

-- the members before the first step get nothing
pub paid-start : (x : Allocation) → pos 0 ≡ amount x (gray_mask (0 - 1))
paid-start x = sym (amount-empty x)

pub paid-step : (x : Allocation) (n k : ℕ) (paid : ℤ) → n ≡ length x.shares → IsFlip n k
    → paid ≡ amount x (gray_mask (k - 1))
    → paid_after x paid (gray_mask k) (gray_step k).flipped ≡ amount x (gray_mask k)
paid-step x n k paid count flip is = pick (gray_step k).flipped flip
  where
    pick : (o : Option ℕ)
        → MatchOption o (k ≡ 0)
        (λ i. (i < n) × (0 < k)
        × ((j : ℕ)
        → has_player (gray_mask k) j
        ≡ (if nat_eq j i then not (has_player (gray_mask (k - 1)) j)
        else has_player (gray_mask (k - 1)) j)))
        → paid_after x paid (gray_mask k) o ≡ amount x (gray_mask k)
    pick None e = is ∙ ap (λ (m : ℕ). amount x (gray_mask m)) (omega (arith, e))
    pick (Some i) h =
        ap (λ (z : ℤ). cond (has_player (gray_mask k) i) (z +ℤ share x i) (z -ℤ share x i)) is
        ∙ sym
        (sum_flipped (length x.shares) i (gray_mask (k - 1)) (gray_mask k) (share x) (omega (arith, h.0, count))
        h.2)

-- who comes or goes is a player
pub flip_within : (n m k : ℕ) (step : GrayStep) → step ≡ gray_step k → IsFlip n k → n ≡ m
    → ForSome step.flipped (λ i. i < m)
flip_within n m k step is flip same x e =
    pick (gray_step k).flipped flip (sym (ap (λ (t : GrayStep). t.flipped) is) ∙ e)
  where
    pick : (o : Option ℕ)
        → MatchOption o (k ≡ 0)
        (λ i. (i < n) × (0 < k)
        × ((j : ℕ)
        → has_player (gray_mask k) j
        ≡ (if nat_eq j i then not (has_player (gray_mask (k - 1)) j)
        else has_player (gray_mask (k - 1)) j))) → o ≡ Some x → x < m
    pick None h q = cc
    pick (Some i) h q = let same_player : i ≡ x = cc in omega (arith, h.0, same, same_player)

-- what the members of a step's coalition get
pub paid-now : (x : Allocation) (n k : ℕ) (step : GrayStep) (z r : ℤ) → n ≡ length x.shares → step ≡ gray_step k
    → IsFlip n k → z ≡ amount x (gray_mask (k - 1)) → r ≡ paid_after x z step.mask step.flipped
    → r ≡ amount x (gray_mask k)
paid-now x n k step z r count is flip before h =
    h ∙ ap (λ (t : GrayStep). paid_after x z t.mask t.flipped) is ∙ paid-step x n k z count flip before

pub paid-next : (x : Allocation) (k : ℕ) (r : ℤ) → r ≡ amount x (gray_mask k) → r ≡ amount x (gray_mask (k + 1 - 1))
paid-next x k r h = let e : k ≡ k + 1 - 1 = omega arith in h ∙ ap (λ (m : ℕ). amount x (gray_mask m)) e
