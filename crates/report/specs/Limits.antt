-- What can be printed.
--
--   IsScale            a scale, from 1 to 65,536
--   IsFine             a denominator that can be printed over a scale
--   IsFineVerdict      the excess of a verdict has such a denominator
--   IsFineIfThere      the fraction has such a denominator, if there is one
--   HasFineNumbers     each fraction in an answer has one
--   IsGameTree         the tree of a game that can be printed
--   HasSmallNumbers    the weights and the k of a collection are below 2^63 in size
--   HasPrintableForm   an answer has such a tree, or such numbers
--   IsPrintable        an answer that can be printed over any scale
--   HasSmallWeights    the weights and the total of a level are below 2^63 in size
use Rattle.std.specs.Prelude.{◌≡◌, ◌≤◌, ◌^◌, ⊤, false, ℤ, pos, ◌≤ℤ◌, ◌<ℤ◌, Option}
use Rattle.std.specs.Prelude.{Some, None}
use Rattle.std.specs.List.{AllByRecursion}
use Rattle.serde_json.specs.Data.{Data, depth}
use Rattle.serde_json.specs.View.{view}
use Rattle.serde_json.specs.Written.{has_float}
use Rattle.definitions.specs.Certificates.{Level, IsSmall}
use Rattle.balanced_collections.specs.Collections.{CollectionData}
use Rattle.report.specs.declared.answer.Answer.{Answer}
use Rattle.report.specs.declared.answer.Answer.TheVariants.{Nucleolus, NoImputation, InCore, NotEfficient}
use Rattle.report.specs.declared.answer.Answer.TheVariants.{Blocked, CorePoint, EmptyCore, Shapley, Bird, Convex}
use Rattle.report.specs.declared.answer.Answer.TheVariants.{Prekernel, NotPrekernel, Matching, Verdict}
use Rattle.report.specs.declared.answer.Answer.TheVariants.{Usage, Refused, Summary}
use Rattle.kohlberg.specs.declared.verdicts.Verdict.{Verdict as CheckVerdict}
use Rattle.kohlberg.specs.declared.verdicts.Verdict.TheVariants.{No}
use Rattle.kohlberg.specs.declared.verdicts.Reason.TheVariants.{OutsideAbove}
use Rattle.fractions.specs.Fraction.{Fraction}

abbrev pub IsScale : ℤ → Type 0
IsScale k = (pos 1 ≤ℤ k) × (k ≤ℤ pos 65536)

-- a denominator of at least 1 and below 2^100
abbrev pub IsFine : ℤ → Type 0
IsFine d = (pos 1 ≤ℤ d) × (d <ℤ pos (2 ^ 100))

-- the excess that a verdict carries, if it carries one, has such a denominator
abbrev pub IsFineVerdict : CheckVerdict → Type 0
IsFineVerdict (No (OutsideAbove j e)) = IsFine e.den
IsFineVerdict _ = ⊤

abbrev pub IsFineIfThere : Option Fraction → Type 0
IsFineIfThere None = ⊤
IsFineIfThere (Some f) = IsFine f.den

-- each fraction in an answer has a denominator below 2^100; those of shares have one by their type
abbrev pub HasFineNumbers : Answer → Type 0
HasFineNumbers (Nucleolus family tree is_cost shares certificate) =
    AllByRecursion (λ l. IsFine l.excess_den) certificate.levels
HasFineNumbers (NoImputation singles total) = ⊤
HasFineNumbers InCore = ⊤
HasFineNumbers (NotEfficient sum total) = IsFine sum.den
HasFineNumbers (Blocked s e) = IsFine e.den
HasFineNumbers (CorePoint is_cost shares) = ⊤
HasFineNumbers (EmptyCore c value against) = ⊤
HasFineNumbers (Shapley is_cost shares) = ⊤
HasFineNumbers (Bird shares edges) = ⊤
HasFineNumbers (Convex is_cost answer) = ⊤
HasFineNumbers Prekernel = ⊤
HasFineNumbers (NotPrekernel i j ij ji) = IsFine ij.den × IsFine ji.den
HasFineNumbers (Matching solution) = ⊤
HasFineNumbers (Verdict v) = IsFineVerdict v
HasFineNumbers (Usage kind) = ⊤
HasFineNumbers (Refused refusal) = ⊤
HasFineNumbers (Summary s) = IsFineIfThere s.greatest

-- no number but integers, and nested at most 8 deep
abbrev pub IsGameTree : Data → Type 0
IsGameTree d = (has_float d ≡ false) × (depth d ≤ 8)

pub record HasSmallNumbers (c : CollectionData) : Type 0 where
  pub weights : AllByRecursion (λ p. IsSmall p.1) c.weights
  pub k : IsSmall c.k

-- a game that is printed has such a tree, and a collection small numbers
abbrev pub HasPrintableForm : Answer → Type 0
HasPrintableForm (Nucleolus family tree is_cost shares certificate) = IsGameTree (view tree)
HasPrintableForm (NoImputation singles total) = ⊤
HasPrintableForm InCore = ⊤
HasPrintableForm (NotEfficient sum total) = ⊤
HasPrintableForm (Blocked s e) = ⊤
HasPrintableForm (CorePoint is_cost shares) = ⊤
HasPrintableForm (EmptyCore c value against) = HasSmallNumbers c
HasPrintableForm (Shapley is_cost shares) = ⊤
HasPrintableForm (Bird shares edges) = ⊤
HasPrintableForm (Convex is_cost answer) = ⊤
HasPrintableForm Prekernel = ⊤
HasPrintableForm (NotPrekernel i j ij ji) = ⊤
HasPrintableForm (Matching solution) = ⊤
HasPrintableForm (Verdict v) = ⊤
HasPrintableForm (Usage kind) = ⊤
HasPrintableForm (Refused refusal) = ⊤
HasPrintableForm (Summary s) = ⊤

pub record IsPrintable (answer : Answer) : Type 0 where
  pub fine : HasFineNumbers answer
  pub form : HasPrintableForm answer

pub record HasSmallWeights (l : Level) : Type 0 where
  pub coalitions : AllByRecursion (λ p. IsSmall p.1) l.coalitions
  pub earlier : AllByRecursion (λ p. IsSmall p.1) l.earlier
  pub bounds : AllByRecursion (λ p. IsSmall p.1) l.bounds
  pub total : IsSmall l.total
