-- What reading the tree says of the bytes.
--
-- A refusal is a test on the whole tree, and the tests are in one list (`tree_tests`). So the answer doesn't depend on
-- places in the text. The order is that of the refusals' numbers, except that the quota's test is after the estate's.
-- Each test of the code mirrors one word of the definition. What is built after the tests is a total function of the
-- tree and of the least common denominator of its shares (`contents_over`). Computed.antt goes from what that
-- denominator is to the one that the private functions compute.
use Rattle.std.proofs.Common.{◌≡◌, ◌≤◌, ◌&&◌, ℕ, List, length, Bool, true, false, Option}
use Rattle.std.proofs.Common.{Some, None, Result, Ok, Err, MatchResult, pos, refl, sym, ap, ap₂, ◌∙◌, subst}
use Rattle.serde_json.specs.Data.{Data}
use Rattle.serde_json.specs.View.{view}
use Rattle.fractions.specs.Fraction.{Fraction}
use Rattle.document_parts.specs.Scales.{scale_of}
use Rattle.game_text.specs.Text.{document_limit, IsTextOf}
use Rattle.game_text.specs.Classes.{class_of, has_players, has_numbers, own_test, description_in}
use Rattle.game_text.specs.Shape.{is_shaped}
use Rattle.game_text.specs.Names.{has_names}
use Rattle.game_text.specs.Documents.{game_tree}
use Rattle.game_text.specs.Refusals.{unless, has_needed_numbers}
use Rattle.game_text.specs.Refusals.{has_needed_shares, has_needed_form, IsRefused}
use Rattle.game_text.specs.Denominators.{needed_keep_limits, contents_of, tree_refusal}
use Rattle.game_text.specs.Steps.{size_refusal, number_refusal, own_refusal, game_refusal, share_refusal}
use Rattle.game_text.specs.Steps.{certificate_refusal, needed_refusal, late_refusal}
use Rattle.game_text.specs.Readings.{HasSizes, IsBuilt, IsBuildFault, IsGameReading, IsGameFault}
use Rattle.game_text.specs.Readings.{IsSizeFault, AreNeededFractions, IsFractionFault, IsTreeReading, IsTreeFault}
use Rattle.game_text.specs.Readings.{IsLateReading, IsLateFault, IsReading, IsFault, contents_in}
use Rattle.game_text.specs.declared.command.Command.{Command}
use Rattle.game_text.specs.declared.document.Document.{Document}
use Rattle.game_text.specs.declared.document.TextFault.{TextFault}
use Rattle.game_text.specs.declared.document.TextFault.TheVariants.{Refused, Memory}
use Rattle.game_text.specs.declared.classes.Game.{Game}
use Rattle.game_text.specs.declared.reading.Said.{Said}
use Rattle.kinds.specs.declared.refusal.Refusal.{Refusal}
use Rattle.kinds.specs.declared.refusal.Refusal.TheVariants.{TooLong, NotJson, Shape, Players, Number}
use Rattle.kinds.specs.declared.refusal.Refusal.TheVariants.{Names, Coalition, Estate, Matrix, Proposal}
use Rattle.kinds.specs.declared.refusal.Refusal.TheVariants.{TooFine, Certificate, Quota}
use Rattle.game_text.proofs.Computed.{document_from, refused_from}
use Rattle.game_text.proofs.Laws.{IsOfTree, laws_of}

unless_of_tree : (b : Bool) (r : Refusal) (x : Option Refusal) → IsOfTree x → IsOfTree (Some r)
    → IsOfTree (unless b r x)
unless_of_tree true r x p q = p
unless_of_tree false r x p q = q

certificate_of_tree : (command : Command) (game tree : Data) → IsOfTree (certificate_refusal command game tree)
certificate_of_tree command game tree = unless_of_tree (has_needed_form command game tree) Certificate None tt tt

share_of_tree : (command : Command) (game tree : Data) (rest : Option Refusal) → IsOfTree rest
    → IsOfTree (share_refusal command game tree rest)
share_of_tree command game tree rest p =
    unless_of_tree (has_needed_shares command game tree) Proposal
    (unless (needed_keep_limits command game tree) TooFine rest)
    (unless_of_tree (needed_keep_limits command game tree) TooFine rest p tt) tt

needed_of_tree : (command : Command) (game tree : Data) → IsOfTree (needed_refusal command game tree)
needed_of_tree command game tree =
    share_of_tree command game tree (certificate_refusal command game tree) (certificate_of_tree command game tree)

game_of_tree : (game : Data) (rest : Option Refusal) → IsOfTree rest → IsOfTree (game_refusal game rest)
game_of_tree game rest p =
    unless_of_tree (has_names game) Names (own_refusal game rest)
    (unless_of_tree (own_test game).1 (own_test game).0 rest p
    ((laws_of (class_of game)).of_tree (scale_of game) game)) tt

of_tree : (command : Command) (tree : Data) → IsOfTree (tree_refusal command tree)
of_tree command tree =
    let game = game_tree tree in
    let late = late_refusal command game tree in
    let numbers = has_numbers game && has_needed_numbers command tree in
    let number = unless numbers Number late in
    unless_of_tree (is_shaped command tree) Shape (unless (has_players game) Players number)
    (unless_of_tree (has_players game) Players number
    (unless_of_tree numbers Number late
    (game_of_tree game (needed_refusal command game tree) (needed_of_tree command game tree)) tt) tt) tt

refused_at : (command : Command) (bytes : List ℕ) (tree : Data) → length bytes ≤ document_limit command
    → IsTextOf bytes tree → (r : Refusal) → IsOfTree (Some r) → tree_refusal command tree ≡ Some r
    → IsRefused command bytes r
refused_at command bytes tree h text TooLong k e = absurd k
refused_at command bytes tree h text NotJson k e = absurd k
refused_at command bytes tree h text Shape k e =
    refused_from command bytes _ (record { short = h; tree = tree; text = text; refused = e })
refused_at command bytes tree h text Players k e =
    refused_from command bytes _ (record { short = h; tree = tree; text = text; refused = e })
refused_at command bytes tree h text Number k e =
    refused_from command bytes _ (record { short = h; tree = tree; text = text; refused = e })
refused_at command bytes tree h text Names k e =
    refused_from command bytes _ (record { short = h; tree = tree; text = text; refused = e })
refused_at command bytes tree h text Coalition k e =
    refused_from command bytes _ (record { short = h; tree = tree; text = text; refused = e })
refused_at command bytes tree h text Estate k e =
    refused_from command bytes _ (record { short = h; tree = tree; text = text; refused = e })
refused_at command bytes tree h text Matrix k e =
    refused_from command bytes _ (record { short = h; tree = tree; text = text; refused = e })
refused_at command bytes tree h text Proposal k e =
    refused_from command bytes _ (record { short = h; tree = tree; text = text; refused = e })
refused_at command bytes tree h text TooFine k e =
    refused_from command bytes _ (record { short = h; tree = tree; text = text; refused = e })
refused_at command bytes tree h text Certificate k e =
    refused_from command bytes _ (record { short = h; tree = tree; text = text; refused = e })
refused_at command bytes tree h text Quota k e =
    refused_from command bytes _ (record { short = h; tree = tree; text = text; refused = e })

fault_at : (command : Command) (bytes : List ℕ) (tree : Data) → length bytes ≤ document_limit command
    → IsTextOf bytes tree → (e : TextFault) → IsTreeFault command tree e → IsFault command bytes e
fault_at command bytes tree h text (Refused r) e =
    refused_at command bytes tree h text r (subst IsOfTree e (of_tree command tree)) e
fault_at command bytes tree h text Memory e = tt

pub from_tree : (command : Command) (bytes : List ℕ) (tree : Data) → length bytes ≤ document_limit command
    → IsTextOf bytes tree → (r : Result Document TextFault)
    → MatchResult r (IsTreeReading command tree) (IsTreeFault command tree)
    → MatchResult r (IsReading command bytes) (IsFault command bytes)
from_tree command bytes tree h text (Ok d) m =
    document_from command bytes _ (record { short = h; tree = tree; text = text; passed = m.passed; says = m.says })
from_tree command bytes tree h text (Err e) m = fault_at command bytes tree h text e m

-- ---- behind the test of the names

fault_behind : (game : Data) → has_names game ≡ true → (e : TextFault) → IsBuildFault game e → IsGameFault game e
fault_behind game h (Refused r) e = λ rest. ap (λ b. unless b Names (own_refusal game rest)) h ∙ e rest
fault_behind game h Memory e = tt

pub behind_names : (game : Data) → has_names game ≡ true → (r : Result Game TextFault)
    → MatchResult r (IsBuilt game) (IsBuildFault game) → MatchResult r (IsGameReading game) (IsGameFault game)
behind_names game h (Ok g) m = record
    { passed = λ rest. ap (λ b. unless b Names (own_refusal game rest)) h ∙ m.passed rest; same = m.same }
behind_names game h (Err e) m = fault_behind game h e m

pub refused_by_names : (game : Data) → has_names game ≡ false → IsGameFault game (Refused Names)
refused_by_names game h = λ rest. ap (λ b. unless b Names (own_refusal game rest)) h

-- ---- behind the tests of the shape, the players and the numbers

tested_apart : (a b : Bool) (r : Refusal) (rest : Option Refusal)
    → unless (a && b) r rest ≡ unless a r (unless b r rest)
tested_apart true b r rest = refl
tested_apart false b r rest = refl

late_fault : (command : Command) (tree : Data)
    → tree_refusal command tree ≡ late_refusal command (game_tree tree) tree → (e : TextFault)
    → IsLateFault command (game_tree tree) tree e → IsTreeFault command tree e
late_fault command tree h (Refused r) e = h ∙ e
late_fault command tree h Memory e = tt

-- the document that is made of what is said, and of the tree and the scale of its game
pub record IsMadeOf (s : Said) (game : Data) (d : Document) : Type 0 where
  pub described : description_in d.game ≡ description_in s.game
  pub tree : view d.tree ≡ game
  pub measure : d.measure ≡ s.measure
  pub scale : d.scale ≡ pos (scale_of game)
  pub family : d.family ≡ s.family
  pub shares : d.shares ≡ s.shares
  pub certificate : d.certificate ≡ s.certificate

late_says : (command : Command) (tree : Data) (s : Said) (d : Document)
    → IsLateReading command (game_tree tree) tree s → IsMadeOf s (game_tree tree) d
    → contents_in d ≡ contents_of command tree
late_says command tree s d m made =
    let described = made.described ∙ m.described in
    let same = made.tree in
    let measure = made.measure ∙ m.measure in
    let scale = made.scale in
    let family = made.family ∙ m.family in
    let shares = made.shares ∙ m.shares in
    let certificate = made.certificate ∙ m.certificate in
    cc

-- a game in a document of its shape
module _ (command : Command) (game tree : Data) (its : game ≡ game_tree tree) (shaped : is_shaped command tree ≡ true)
  where
    behind_shape : tree_refusal command tree
        ≡ size_refusal game (number_refusal command tree (late_refusal command (game_tree tree) tree))
    behind_shape =
        let late = late_refusal command (game_tree tree) tree in
        let numbers = has_numbers (game_tree tree) && has_needed_numbers command tree in
        ap (λ b. unless b Shape (unless (has_players (game_tree tree)) Players (unless numbers Number late))) shaped
        ∙ ap (unless (has_players (game_tree tree)) Players)
        (tested_apart (has_numbers (game_tree tree)) (has_needed_numbers command tree) Number late)
        ∙ ap (λ g. size_refusal g (number_refusal command tree late)) (sym its)

    pub fault_in_sizes : (e : TextFault) → IsSizeFault game e → IsTreeFault command tree e
    fault_in_sizes (Refused r) h =
        behind_shape ∙ h (number_refusal command tree (late_refusal command (game_tree tree) tree))
    fault_in_sizes Memory h = tt

    -- that passed the tests of its players and its numbers
    module _ (sizes : HasSizes game) where
      behind_sizes : tree_refusal command tree
          ≡ number_refusal command tree (late_refusal command (game_tree tree) tree)
      behind_sizes =
          let rest = number_refusal command tree (late_refusal command (game_tree tree) tree) in
          behind_shape ∙ ap₂ (λ a b. unless a Players (unless b Number rest)) sizes.players sizes.numbers

      pub fault_in_fractions : (e : TextFault) → IsFractionFault command tree e → IsTreeFault command tree e
      fault_in_fractions (Refused r) h = behind_sizes ∙ h (late_refusal command (game_tree tree) tree)
      fault_in_fractions Memory h = tt

      -- where the shares that the command needs are numbers
      module _ (written : Option (List Fraction)) (needed : AreNeededFractions command tree written) where
        here : tree_refusal command tree ≡ late_refusal command (game_tree tree) tree
        here = behind_sizes ∙ needed.passed (late_refusal command (game_tree tree) tree)

        pub fault_behind_numbers : (e : TextFault) → IsLateFault command game tree e → IsTreeFault command tree e
        fault_behind_numbers e m =
            late_fault command tree here e (subst (λ g. IsLateFault command g tree e) its m)

        pub behind_numbers : (s : Said) (d : Document) → IsLateReading command game tree s → IsMadeOf s game d
            → IsTreeReading command tree d
        behind_numbers s d m made =
            let late = subst (λ g. IsLateReading command g tree s) its m in
            record {
              passed = here ∙ late.passed;
              says = late_says command tree s d late (subst (λ g. IsMadeOf s g d) its made);
            }
