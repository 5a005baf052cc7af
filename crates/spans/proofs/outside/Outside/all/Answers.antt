use Rattle.std.proofs.Common.{◌<◌, ℕ, length, length-set, refl, arith, sym, subst, ◌∙◌}
use Rattle.spans.specs.Outside.{IsProperWord}
use Rattle.spans.proofs.Marks.{marks_proper, words_more}
use Rattle.spans.proofs.outside.Outside.all.Goals as goal

pub loop-place-init : goal.loop-place-init
loop-place-init c = record { len = refl; done = λ p lt. absurd (omega arith) }

pub loop-place-preserved : goal.loop-place-preserved
loop-place-preserved c =
    let inv = c.loop-place.invariant in
    let p = c.loop-place.place in
    let words = c.loop-place.words in
    let len : p < length words = subst (λ (t : ℕ). p < t) (sym inv.len) c.loop-place-test.true in
    record {
      len = length-set words p c.proper_word.result ∙ inv.len;
      done =
          words_more (λ q v. IsProperWord c.args.n q v) words p c.proper_word.result len c.proper_word.ensures
          inv.done;
    }

pub returns : goal.returns
returns c =
    marks_proper c.args.n c.loop-place.words c.requires c.loop-place.invariant.len
    (λ p lt. c.loop-place.invariant.done p (omega arith))
