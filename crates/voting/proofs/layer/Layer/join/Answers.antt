use Rattle.std.proofs.Common.{◌+◌, ◌-◌, refl, ◌∙◌, arith}
use Rattle.std.proofs.Math.ListN.{length-set}
use Rattle.voting.specs.Candidates.{at_weight, given_or}
use Rattle.voting.proofs.Joining.{given_or-same, small_more, small_better, written_down, kept_below, small_down}
use Rattle.voting.proofs.layer.Layer.join.Goals as goal

pub with_at-with-requires-clause-small : goal.with_at-with-requires-clause-small
with_at-with-requires-clause-small c = λ le.
    let old = c.args.self.now in
    let v = 1000 - c.loop-fewer.fewer - c.args.weight in
    let lower = given_or-same c.args.with c.loop-fewer.self old v (c.loop-fewer.invariant.rest v (omega arith)) in
    rw (c.given_or_own.ensures, lower) (c.requires.with v)

pub loop-fewer-preserved : goal.loop-fewer-preserved
loop-fewer-preserved c =
    let n = c.loop-fewer.fewer in
    let w = 1000 - n in
    let i = c.args.i in
    let old = c.args.self.now in
    let now = c.loop-fewer.self in
    let full = c.loop-fewer.invariant.full in
    let rest = c.loop-fewer.invariant.rest in
    let lighter = given_or-same c.args.with now old (w - c.args.weight) (rest (w - c.args.weight) (omega arith)) in
    let with = c.with_at-with.ensures.value in
    let read = given_or-same c.args.without now old w (rest w (omega arith)) in
    let here =
    c.better_of.ensures
    ∙ rw (c.at.ensures, c.given_or_own-in-loop-fewer.ensures, read, with, c.given_or_own.ensures, lighter) refl in
    record {
      full = simp length-set full;
      entries =
          written_down now.entries _ n w c.better_of.result full c.loop-fewer-test.true refl here
          c.loop-fewer.invariant.entries;
      rest = kept_below now.entries _ n w c.better_of.result c.loop-fewer-test.true refl rest;
      small =
          small_down now.entries (i + 1) n w c.better_of.result full c.loop-fewer-test.true refl
          (rw c.better_of.ensures
          (small_better (i + 1) c.at.result c.with_at-with.result
          (rw (c.at.ensures, c.given_or_own-in-loop-fewer.ensures, read)
          (small_more i (at_weight (given_or c.args.without old) w) (c.requires.without w)))
          c.with_at-with.ensures.small)) c.loop-fewer.invariant.small;
    }
