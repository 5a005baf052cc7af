-- The line of an answer that can be read is read back.
use Rattle.std.proofs.Common.{◌≡◌, ℕ, ℤ, unsigned_abs, List, Some, Result, Ok, Err, IfOk}
use Rattle.std.proofs.Common.{refl, subst, IsUtf8}
use Rattle.serde_json.specs.Read.{read}
use Rattle.serde_json.specs.View.{view}
use Rattle.game_text.specs.Denominators.{contents_of}
use Rattle.game_text.specs.Refusals.{IsDocument}
use Rattle.json_texts.specs.Newlines.{without_newline}
use Rattle.game_text.specs.declared.command.Command.TheVariants as command
use Rattle.report.specs.Lines.{answer_tree, line}
use Rattle.report.specs.declared.answer.Answer.{Answer}
use Rattle.report.specs.declared.answer.Answer.TheVariants.{Nucleolus}
use Rattle.coop.specs.ReadBack.{CanBeRead, IsNoNucleolus, IsReadBack}
use Rattle.game_text.proofs.Computed.{document_from}
use Rattle.coop.proofs.OneAnswer.{check_says_yes}

pub is_read_back : (k : ℤ) (answer : Answer) → CanBeRead k answer → IsUtf8 (without_newline (line k answer))
    → read (without_newline (line k answer)) ≡ Some (answer_tree (unsigned_abs k) answer) → IsReadBack k answer
is_read_back k (Nucleolus family tree are_costs x c) can utf8 same =
    let answer = Nucleolus family tree are_costs x c in
    let d = contents_of command.Check (answer_tree (unsigned_abs k) answer) in
    let document : IsDocument command.Check (line k answer) d =
    document_from command.Check (line k answer) d
    (record {
      short = can.short;
      tree = answer_tree (unsigned_abs k) answer;
      text = (utf8, same);
      passed = can.passed;
      says = refl;
    }) in
    (d, (document, can.says, check_says_yes (line k answer) d document family (view tree) x c can.says))
is_read_back k answer can utf8 same = tt

-- likewise of bytes that are the line
pub is_read_back_from : (k : ℤ) (answer : Answer) (bytes : List ℕ) → bytes ≡ line k answer → CanBeRead k answer
    → IsUtf8 (without_newline bytes) → read (without_newline bytes) ≡ Some (answer_tree (unsigned_abs k) answer)
    → IsReadBack k answer
is_read_back_from k answer bytes e can utf8 same =
    is_read_back k answer can (subst (λ (b : List ℕ). IsUtf8 (without_newline b)) e utf8)
    (subst (λ (b : List ℕ). read (without_newline b) ≡ Some (answer_tree (unsigned_abs k) answer)) e same)

-- of any other answer there is nothing to be read back
pub readable_anyway : (k : ℤ) (answer : Answer) → IsNoNucleolus answer → CanBeRead k answer
readable_anyway k (Nucleolus family tree are_costs x c) h = absurd h
readable_anyway k answer h = tt

pub readable_where_ok : {E : Type 0} (k : ℤ) (r : Result Answer E) → IfOk r IsNoNucleolus → IfOk r (CanBeRead k)
readable_where_ok k (Ok answer) h = readable_anyway k answer h
readable_where_ok k (Err e) h = tt
