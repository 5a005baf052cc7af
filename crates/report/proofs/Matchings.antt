-- The solution of a market holds no float, and is nested at most three deep.
use Rattle.std.proofs.Common.{◌≡◌, ◌≤◌, ℕ, List, false, refl, arith}
use Rattle.serde_json.specs.Data.{depth}
use Rattle.serde_json.specs.Written.{has_float}
use Rattle.big_assignment.specs.declared.solution.Solution.{Solution}
use Rattle.definitions.proofs.Alls.{all_any}
use Rattle.report.specs.MatchingTrees.{pair_tree, pair_list, matching_tree}
use Rattle.report.proofs.CertificateDepths.{items_shallow, shares_depth}
use Rattle.report.proofs.CertificateNumbers.{items_whole, shares_whole}

pairs_whole : (pairs : List (ℕ × ℕ)) → has_float (pair_list pairs) ≡ false
pairs_whole pairs = items_whole pair_tree pairs (λ p. refl)

pub matching_whole : (k : ℕ) (solution : Solution) → has_float (matching_tree k solution) ≡ false
matching_whole k solution =
    rw (
      shares_whole k false solution.buyers_best,
      pairs_whole solution.pairs.items,
      shares_whole k false solution.sellers_best,
    ) refl

matched_depth : (pairs : List (ℕ × ℕ)) → depth (pair_list pairs) ≤ 2
matched_depth pairs =
    omega (arith, items_shallow pair_tree 1 pairs (all_any (λ p. depth (pair_tree p) ≤ 1) pairs (λ p. omega arith)))

pub matching_depth : (k : ℕ) (solution : Solution) → depth (matching_tree k solution) ≤ 3
matching_depth k solution =
    omega (
      arith,
      shares_depth k false solution.buyers_best,
      matched_depth solution.pairs.items,
      shares_depth k false solution.sellers_best,
    )
