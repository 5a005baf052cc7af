use Rattle.std.proofs.Common.{◌^◌, pos, replicate, arith, inl, inr}
use Rattle.std.proofs.Common.{ap, unsigned_abs, ◌∙◌}
use Rattle.definitions.proofs.Cases.{below_or_above}
use Rattle.determinants.proofs.Lists.{zeros_at}
use Rattle.determinants.specs.Matrix.{entry_at}
use Rattle.spans.specs.Sums.{number_at}
use Rattle.spans.proofs.EightSums.{two_sums-is, dot-vector, added_to_zero}
use Rattle.spans.proofs.outside.weight_sums.Goals as goal

pub returns-clause-value : goal.returns-clause-value
returns-clause-value c = λ s lt.
    let row = entry_at 16 c.args.entries.now c.args.k in
    let zeros = replicate 16 (pos 0) in
    two_sums-is c.add_row.new.numbers c.of.result.low c.of.result.high c.args.n s row c.requires.few c.of.ensures
    (λ i less. c.add_row.ensures.sum i less ∙ added_to_zero (number_at zeros i) (row i) (zeros_at 16 i))
    (λ i le. c.add_row.ensures.rest i le ∙ zeros_at 16 i) lt
    ∙ dot-vector c.args.n row s

pub returns-clause-small : goal.returns-clause-small
returns-clause-small c = λ a lt.
    (c.of.ensures.high_is a lt).small (2 ^ 58) (λ i. elim (below_or_above i c.args.n) [
      | inl less ↦
          let row = entry_at 16 c.args.entries.now c.args.k in
          let e =
          ap unsigned_abs
          (c.add_row.ensures.sum i less
          ∙ added_to_zero (number_at (replicate 16 (pos 0)) i) (row i) (zeros_at 16 i)) in
          let small = c.requires.small i less in
          omega (arith, e, small)
      | inr le ↦
          let e = ap unsigned_abs (c.add_row.ensures.rest i le ∙ zeros_at 16 i) in
          omega (arith, e)
    ])
