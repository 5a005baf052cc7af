-- What `check` reads of the line of a nucleolus.
--
--   SaysSame        a document says the same as a nucleolus that was printed
--   CanBeChecked    its line is short enough, no test refuses its tree, and it says the same
--   CanBeRead       if an answer is a nucleolus, its tree can be checked
--   IsNoNucleolus   the answer is no nucleolus
--   CheckSaysYes    yes is the one right answer to bytes that are checked
--   IsReadBack      the line of an answer is a document to check, says the same, and gets yes
use Rattle.std.specs.Prelude.{◌≡◌, ◌≤◌, ⊤, ℕ, ℤ, pos, List, [], ◌∷◌, length}
use Rattle.std.specs.Prelude.{true, None, unsigned_abs}
use Rattle.serde_json.specs.Data.{Data}
use Rattle.serde_json.specs.View.{view}
use Rattle.definitions.specs.Games.{Allocation, IsSame}
use Rattle.definitions.specs.Certificates.{HasForm, Certifies}
use Rattle.definitions.specs.declared.Family.{Family}
use Rattle.kohlberg.specs.Certificate.{CertificateData}
use Rattle.game_text.specs.Classes.{description_of, game_of}
use Rattle.game_text.specs.Documents.{Contents}
use Rattle.document_parts.specs.Excess.{measure_of}
use Rattle.document_parts.specs.Scales.{scale_of}
use Rattle.game_text.specs.Denominators.{contents_of, tree_refusal}
use Rattle.game_text.specs.Refusals.{IsDocument}
use Rattle.game_text.specs.Text.{document_limit}
use Rattle.game_text.specs.declared.command.Command.TheVariants.{Check}
use Rattle.report.specs.Lines.{answer_tree, line}
use Rattle.report.specs.declared.answer.Answer.{Answer}
use Rattle.report.specs.declared.answer.Answer.TheVariants.{Nucleolus, Verdict}
use Rattle.kohlberg.specs.declared.verdicts.Verdict.TheVariants.{Yes}
use Rattle.coop.specs.Words.{word_of}
use Rattle.coop.specs.Classes.{serves_class}
use Rattle.coop.specs.Limits.{check_limit}
use Rattle.coop.specs.Checks.{HasEvidence}
use Rattle.coop.specs.Headline.{Answers}

-- the document gives the game of this tree, its measure and its scale, the family, the same shares over some
-- denominator, and the certificate, which has its form and certifies them; the class and the number of players are
-- checked
pub record SaysSame (f : Family) (printed : Data) (x : Allocation) (c : CertificateData) (d : Contents) : Type 0
  where
    pub tree : d.tree ≡ printed
    pub game : d.game ≡ description_of printed
    pub measure : d.measure ≡ measure_of printed
    pub scale : d.scale ≡ pos (scale_of printed)
    pub served : serves_class Check d.game ≡ true
    pub taken : (game_of d.game).players ≤ check_limit d.measure
    pub shares : Allocation
    pub evidence : HasEvidence d f shares c
    pub same : IsSame (game_of d.game) x shares
    pub players : c.players ≡ (game_of d.game).players
    pub form : HasForm c.mode (game_of d.game).players c.levels
    pub certifies : Certifies c.mode f d.measure (game_of d.game) shares c.levels

-- the line is no longer than a document to check may be, no test refuses its tree, and it says the same
pub record CanBeChecked (k : ℤ) (answer : Answer) (f : Family) (printed : Data) (x : Allocation)
    (c : CertificateData) : Type 0 where
  pub short : length (line k answer) ≤ document_limit Check
  pub passed : tree_refusal Check (answer_tree (unsigned_abs k) answer) ≡ None
  pub says : SaysSame f printed x c (contents_of Check (answer_tree (unsigned_abs k) answer))

-- the tree of a nucleolus over the scale k can be checked
abbrev pub CanBeRead : ℤ → Answer → Type 0
CanBeRead k (Nucleolus family tree are_costs x c) =
    CanBeChecked k (Nucleolus family tree are_costs x c) family (view tree) x c
CanBeRead k _ = ⊤

-- the answer is no nucleolus, whose line alone is read back
abbrev pub IsNoNucleolus : Answer → Type 0
IsNoNucleolus (Nucleolus family tree are_costs x c) = ⊥
IsNoNucleolus _ = ⊤

-- of all answers to the word `check` and these bytes, yes is right, and no other is
pub record CheckSaysYes (bytes : List ℕ) : Type 0 where
  pub yes : (k : ℤ) × Answers (word_of Check ∷ []) bytes k (Verdict Yes)
  pub only : (k : ℤ) (answer : Answer) → Answers (word_of Check ∷ []) bytes k answer → answer ≡ Verdict Yes

-- the line of a nucleolus is a document to check, with the same game, family, shares and certificate, which certifies
-- the shares; and the verdict on it is yes
abbrev pub IsReadBack : ℤ → Answer → Type 0
IsReadBack k (Nucleolus family tree are_costs x c) =
    let bytes = line k (Nucleolus family tree are_costs x c) in
    (d : Contents) × (IsDocument Check bytes d × SaysSame family (view tree) x c d × CheckSaysYes bytes)
IsReadBack k _ = ⊤
