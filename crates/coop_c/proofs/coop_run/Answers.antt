use Rattle.std.proofs.Common.{◌≡◌, rules}
use Rattle.coop.specs.Outcome.{status_number}
use Rattle.coop_c.proofs.Numbers.{one_of_two, one_of_three, one_of_four}
use Rattle.coop_c.proofs.coop_run.Goals as goal

pub returns-clause-ends : goal.returns-clause-ends
returns-clause-ends c =
    let s = c.called-status.result in
    let told : c.from.result ≡ status_number s = search rules in
    let ends = c.called-status.ensures.ends in
    (λ text. (s, (told, ends.0 text)), λ none. (s, (told, ends.1 none)))

pub returns-clause-complete : goal.returns-clause-complete
returns-clause-complete c =
    let told : c.from.result ≡ status_number c.called-status.result = search rules in
    let complete = c.called-status.ensures.complete in (
      λ text served. one_of_four _ _ told (complete.0 text served),
      λ none served. one_of_four _ _ told (complete.1 none served),
    )

pub returns-clause-other_words : goal.returns-clause-other_words
returns-clause-other_words c =
    let told : c.from.result ≡ status_number c.called-status.result = search rules in
    let other = c.called-status.ensures.other_words in
    (λ text words. one_of_three _ _ told (other.0 text words), λ none words. one_of_three _ _ told (other.1 none words))

pub returns-clause-no_text : goal.returns-clause-no_text
returns-clause-no_text c =
    let told : c.from.result ≡ status_number c.called-status.result = search rules in
    λ none. one_of_two _ _ told (c.called-status.ensures.no_text none)

pub returns-clause-generated : goal.returns-clause-generated
returns-clause-generated c =
    let told : c.from.result ≡ status_number c.called-status.result = search rules in
    let generated = c.called-status.ensures.generated in (
      λ text words. one_of_three _ _ told (generated.0 text words),
      λ none words. one_of_three _ _ told (generated.1 none words),
    )
