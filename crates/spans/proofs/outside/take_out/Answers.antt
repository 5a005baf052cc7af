use Rattle.std.proofs.Common.{refl, arith, length, length-set, slice_index_or, ◌<◌, ◌∙◌, sym, subst, ℕ}
use Rattle.spans.proofs.Marks.{IsWithout, words_more, words_rest, marks_without}
use Rattle.spans.proofs.outside.take_out.Goals as goal

pub loop-place-init : goal.loop-place-init
loop-place-init c = record { len = c.told-words; done = λ p lt. absurd (omega arith); rest = λ p le. refl }

pub loop-place-preserved : goal.loop-place-preserved
loop-place-preserved c =
    let olds = c.args.words.now in
    let others = c.args.others.now in
    let news = c.loop-place.words in
    let p = c.loop-place.place in
    let inv = c.loop-place.invariant in
    let len : p < length news = subst (λ (t : ℕ). p < t) (sym inv.len) c.loop-place-test.true in
    let here =
    subst (λ (w : ℕ). IsWithout w (slice_index_or others p 0) c.without_all.result) (inv.rest p (omega arith))
    c.without_all.ensures in
    record {
      len = length-set news p c.without_all.result ∙ inv.len;
      done =
          words_more (λ q v. IsWithout (slice_index_or olds q 0) (slice_index_or others q 0) v) news p
          c.without_all.result len here inv.done;
      rest = words_rest news olds p c.without_all.result inv.rest;
    }

pub returns : goal.returns
returns c =
    marks_without c.args.words.now c.args.others.now c.loop-place.words
    (λ q lt. c.loop-place.invariant.done q (omega arith))
