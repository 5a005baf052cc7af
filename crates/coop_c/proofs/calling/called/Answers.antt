use Rattle.std.proofs.Common.{◌≡◌, List, ℕ, map, string_bytes, rules, subst, sym}
use Rattle.std.specs.Str.{IsUtf8}
use Rattle.coop_c.specs.Calls.{IsServed, typed}
use Rattle.coop_c.proofs.calling.called.Goals as goal

pub returns-clause-complete : goal.returns-clause-complete
returns-clause-complete c =
    let is_text : IsUtf8 c.args.text.now = search rules in
    let words : map string_bytes c.deref.result.now ≡ typed c.args.text.now = search rules in
    let served = λ (w : List (List ℕ)). IsServed w c.args.document.now in
    (λ _ h. c.run_over-2.ensures.complete (subst served (sym words) h), λ none. absurd (none is_text))
