-- What is said of a game's convexity holds no float, and is nested at most two deep.
use Rattle.std.proofs.Common.{◌≡◌, ℕ, ◌≤◌, Bool, false, refl, arith}
use Rattle.serde_json.specs.Data.{depth}
use Rattle.serde_json.specs.Written.{has_float}
use Rattle.convexity.specs.declared.answers.ConvexAnswer.{ConvexAnswer}
use Rattle.convexity.specs.declared.answers.ConvexAnswer.TheVariants.{Convex, Not}
use Rattle.report.specs.ConvexTrees.{convex_tree}
use Rattle.report.proofs.CertificateDepths.{coalition_depth, shares_depth}
use Rattle.report.proofs.CertificateNumbers.{coalition_whole, shares_whole}

pub convex_whole : (k : ℕ) (is_cost : Bool) (answer : ConvexAnswer)
    → has_float (convex_tree k is_cost answer) ≡ false
convex_whole k is_cost (Convex shapley marginal) =
    rw (shares_whole k is_cost shapley, shares_whole k is_cost marginal) refl
convex_whole k is_cost (Not s i j deficit) = rw (coalition_whole s) refl

pub convex_depth : (k : ℕ) (is_cost : Bool) (answer : ConvexAnswer) → depth (convex_tree k is_cost answer) ≤ 2
convex_depth k is_cost (Convex shapley marginal) =
    omega (arith, shares_depth k is_cost shapley, shares_depth k is_cost marginal)
convex_depth k is_cost (Not s i j deficit) = omega (arith, coalition_depth s)
