-- The balanced program has an optimum: the grand coalition alone solves it, and no weights that sum to 0 in every
-- row have a positive cost.
--
-- The weight 1 on the grand coalition solves it (`whole_solves`). A multiplier of 2^46 for each player, past every
-- worth, bounds it, since a coalition that isn't empty has a member (`even_bounds`).
use Rattle.std.proofs.Common.{◌≡◌, ℕ, zero, suc, ◌^◌, ◌<◌, ◌≤◌, List, [], ◌∷◌}
use Rattle.std.proofs.Common.{ℤ, pos, ◌*ℤ◌, ◌≤ℤ◌}
use Rattle.std.proofs.Common.{refl, sym, ap, subst, arith, unsigned_abs, if◌then◌else◌}
use Rattle.std.proofs.lemmas.Int.{ints}
use Rattle.std.proofs.Math.Pow.{pow-lt}
use Rattle.std.specs.List.{IsDistinct}
use Rattle.definitions.proofs.Ring.{linear, one-mulℤ}
use Rattle.definitions.proofs.Members.{has_player-grand_coalition, sum_below-same}
use Rattle.definitions.proofs.SomeMembers.{some_member}
use Rattle.definitions.specs.Coalitions.{has_player, grand_coalition, sum_over}
use Rattle.definitions.specs.Games.{Game, IsGame}
use Rattle.definitions.specs.Programs.{Program, Solves, Bounds}
use Rattle.simplex.proofs.Ends.{no_ray}
use Rattle.simplex.specs.Answer.{IsFault}
use Rattle.simplex.specs.declared.solving.LpFault.{LpFault}
use Rattle.simplex.specs.declared.solving.LpFault.TheVariants.{NoSolution, Unbounded}
use Rattle.separation.specs.Balanced.{balanced_program}
use Rattle.separation.specs.Same.{IsSame}
use Rattle.separation.specs.Values.{multiplier_at}
use Rattle.separation.proofs.SamePrograms.{ray_same, no_solution_same}
use Rattle.balanced.proofs.Values.{column_of, above_none, below_all, value_members, member_less}

-- ---- a solution

two_masks : (n : ℕ) → 1 ≤ n → 2 ≤ 2 ^ n
two_masks n some = let lt : 2 ^ 0 < 2 ^ n = pow-lt {i = 0} {j = n} (omega arith) in omega (arith, lt)

pub whole_solves : (g : Game) → 1 ≤ g.players
    → Solves (balanced_program g) ((grand_coalition g.players, pos 1) ∷ []) (pos 1)
unfolding IsDistinct
whole_solves g some = (
  (
    (
      (
        column_of g (grand_coalition g.players) (let two = two_masks g.players some in omega (arith, two))
            (let two = two_masks g.players some in omega (arith, two)),
        omega (arith, linear),
      ),
      tt,
    ),
    (tt, tt),
  ),
  omega (arith, linear),
  λ r lt. rw (has_player-grand_coalition g.players r lt) refl,
)

-- ---- a bound

-- n times the same number
abbrev even : ℕ → ℤ → List ℤ
even zero z = []
even (suc n) z = z ∷ even n z

even_at : (n r : ℕ) (z : ℤ) → r < n → multiplier_at (even n z) r ≡ z
even_at zero r z lt = absurd (omega arith)
even_at (suc n) zero z lt = refl
even_at (suc n) (suc r) z lt = even_at n r z (omega arith)

cost_most : (z : ℤ) → unsigned_abs z < 2 ^ 46 → (pos 1 *ℤ z) ≤ℤ pos (2 ^ 46)
cost_most z small = let e = one-mulℤ z in omega (arith, ints, small, e)

-- a number past every worth, for each player, bounds the program
pub even_bounds : (g : Game) → IsGame g → Bounds (balanced_program g) (even g.players (pos (2 ^ 46))) (pos 1)
even_bounds g laws = (
  omega (arith, linear),
  λ s is. subst (λ (z : ℤ). (pos 1 *ℤ g.worth s) ≤ℤ z) (sym (value_members g m s))
      (covers s (above_none g s is) (below_all g s is)),
)
  where
    m : List ℤ
    m = even g.players (pos (2 ^ 46))

    at : ℕ → ℤ
    at r = pos (2 ^ 46)

    alike : (s : ℕ) → sum_over g.players (multiplier_at m) s ≡ sum_over g.players at s
    alike s =
        sum_below-same g.players (λ r. if has_player s r then multiplier_at m r else pos 0)
        (λ r. if has_player s r then at r else pos 0)
        (λ r lt. ap (λ (z : ℤ). if has_player s r then z else pos 0) (even_at g.players r (pos (2 ^ 46)) lt))

    covers : (s : ℕ) → 0 < s → s < 2 ^ g.players → (pos 1 *ℤ g.worth s) ≤ℤ sum_over g.players (multiplier_at m) s
    covers s low high =
        let member = some_member g.players s low high in
        let less : pos (2 ^ 46) ≤ℤ sum_over g.players at s =
        member_less g.players s member.0 at (λ k. omega (arith, ints)) member.1 member.2 in
        omega (arith, linear, cost_most (g.worth s) (laws.small s high), less, alike s)

-- ---- neither fault comes

pub no_fault : (g : Game) (p : Program) (fault : LpFault) → IsGame g → IsSame p (balanced_program g)
    → IsFault p fault → ⊥
no_fault g p NoSolution laws same none =
    no_solution_same p (balanced_program g) same none ((grand_coalition g.players, pos 1) ∷ []) (pos 1)
    (whole_solves g laws.some)
no_fault g p Unbounded laws same (solution, ray) =
    no_ray (balanced_program g) (even g.players (pos (2 ^ 46))) (pos 1) (even_bounds g laws)
    (ray_same p (balanced_program g) same ray)
