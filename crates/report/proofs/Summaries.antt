-- The tree of a summary holds no float, and is nested as deep as is read.
use Rattle.std.proofs.Common.{◌≡◌, ℕ, ◌≤◌, false, Option, Some, None, refl, arith}
use Rattle.serde_json.specs.Data.{depth}
use Rattle.serde_json.specs.Read.{max_depth}
use Rattle.serde_json.specs.Written.{has_float}
use Rattle.fractions.specs.Fraction.{Fraction}
use Rattle.report.specs.SummaryTrees.{greatest_data, summary_tree}
use Rattle.report.specs.declared.summary.Summary.{Summary}

greatest_whole : (k : ℕ) (o : Option Fraction) → has_float (greatest_data k o) ≡ false
greatest_whole k None = refl
greatest_whole k (Some f) = refl

pub summary_whole : (k : ℕ) (s : Summary) → has_float (summary_tree k s) ≡ false
summary_whole k s = rw (greatest_whole k s.greatest) refl

greatest_depth : (k : ℕ) (o : Option Fraction) → depth (greatest_data k o) ≤ 0
greatest_depth k None = omega arith
greatest_depth k (Some f) = omega arith

pub summary_depth : (k : ℕ) (s : Summary) → depth (summary_tree k s) ≤ max_depth
summary_depth k s = omega (arith, greatest_depth k s.greatest)
