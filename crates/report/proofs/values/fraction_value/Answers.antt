use Rattle.std.proofs.Common.{ℕ, List, ◌++◌, sym, subst, ap, ◌∙◌}
use Rattle.std.specs.Str.{IsUtf8}
use Rattle.std.proofs.lemmas.Bool.{false≢true}
use Rattle.std.proofs.lemmas.Str.{IsUtf8-from_ascii}
use Rattle.fractions.specs.FractionTexts.{fraction_text}
use Rattle.report.proofs.AsciiFractions.{fraction_text_ascii}
use Rattle.report.proofs.values.fraction_value.Goals as goal

pub unreachable-requires : goal.unreachable-requires
unreachable-requires c =
    let text =
    c.in_ok-write_to.ensures.written
    ∙ ap (λ (l : List ℕ). l ++ fraction_text c.args.value.now) c.new-text.ensures.items in
    let ascii =
    fraction_text_ascii (fraction_text c.args.value.now) c.args.value.now c.write_to.ensures.read_back in
    let succeeds =
    c.from_utf8.ensures.succeeds
    (subst IsUtf8 (sym text) (IsUtf8-from_ascii (fraction_text c.args.value.now) ascii)) in
    false≢true (rw c.in_default.is at succeeds)
