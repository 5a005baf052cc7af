-- A document has a share for each player of its game, and a certificate for its players.
use Rattle.std.proofs.Common.{◌≡◌, List, length, Bool, true, false, pos, neg_ℤ, codes}
use Rattle.std.proofs.Common.{Option, Some, None, Result, Ok, Err, MatchResult, IfOk, IfSome}
use Rattle.std.proofs.Common.{refl, sym, ap, ◌∙◌, subst}
use Rattle.std.proofs.lemmas.Bool.{eqb-true}
use Rattle.std.proofs.lemmas.List.{length-map}
use Rattle.serde_json.specs.Data.{Data}
use Rattle.fractions.specs.Fraction.{Fraction}
use Rattle.worth_core.specs.LeastDenominators.{numerator_over}
use Rattle.json_trees.specs.Trees.{parts_at}
use Rattle.game_text.specs.Classes.{class_of, players, game_of, is_cost, description_of, description_in}
use Rattle.document_parts.specs.Scales.{scale_of}
use Rattle.document_parts.specs.CommonMultiples.{least_denominator}
use Rattle.document_parts.specs.Denominators.{over_least, keep_limits}
use Rattle.game_text.specs.Denominators.{shares_of}
use Rattle.document_parts.specs.Shares.{as_worth, has_shares_for, scaled_share, scaled_shares}
use Rattle.game_text.specs.Documents.{game_tree, certificate_for}
use Rattle.game_text.specs.Refusals.{unless}
use Rattle.game_text.specs.Steps.{proposal_refusal, certificate_refusal, needed_refusal}
use Rattle.game_text.specs.Readings.{IsTreeReading, IsTreeFault}
use Rattle.game_text.proofs.Laws.{laws_of}
use Rattle.game_text.proofs.Passed.{IsPassed, behind, passed_tests}
use Rattle.game_text.specs.declared.command.Command.{Command}
use Rattle.game_text.specs.declared.command.Command.TheVariants.{Nucleolus, Prenucleolus, Propose, Core, Check}
use Rattle.game_text.specs.declared.command.Command.TheVariants.{Shapley, Bird, Convex, Kernel, Matching}
use Rattle.game_text.specs.declared.document.Document.{Document}
use Rattle.game_text.specs.declared.document.TextFault.{TextFault}
use Rattle.kinds.specs.declared.refusal.Refusal.{Refusal}
use Rattle.kinds.specs.declared.refusal.Refusal.TheVariants.{Proposal, TooFine}

-- the game that is described has the players of the tree
pub players_described : (game : Data) → (game_of (description_of game)).players ≡ players game
players_described game = (laws_of (class_of game)).described (scale_of game) game refl

length_over : (fs : List Fraction) → length (over_least fs).shares ≡ length fs
length_over fs = length-map fs (numerator_over (pos (least_denominator fs)))

length_as_worth : (b : Bool) (fs : List Fraction) → length (as_worth b (over_least fs)).shares ≡ length fs
length_as_worth true fs = length-map (over_least fs).shares neg_ℤ ∙ length_over fs
length_as_worth false fs = length_over fs

abbrev HasShareEach : Document → Type 0
HasShareEach d = IfSome d.shares (λ x. length x.shares ≡ (game_of (description_in d.game)).players)

shares_each : (game tree : Data) → has_shares_for (players game) tree ≡ true
    → length (shares_of game tree).shares ≡ (game_of (description_of game)).players
shares_each game tree h =
    length_as_worth (is_cost (description_of game)) (scaled_shares (scale_of game) tree)
    ∙ length-map (parts_at (codes "shares") tree) (scaled_share (scale_of game)) ∙ eqb-true _ _ h
    ∙ sym (players_described game)

-- ---- the test of the number of shares passed

enough_shares : (game tree : Data) (rest : Option Refusal) → IsPassed (proposal_refusal game tree rest)
    → has_shares_for (players game) tree ≡ true
enough_shares game tree rest h =
    (behind (has_shares_for (players game) tree) Proposal
    (unless (keep_limits (scaled_shares (scale_of game) tree)) TooFine rest) h).0

abbrev described : (command : Command) (tree : Data) (d : Document) → IsTreeReading command tree d
    → description_in d.game ≡ description_of (game_tree tree)
described command tree d m = ap (λ c. c.game) m.says

abbrev tests_passed : (command : Command) (tree : Data) (d : Document) → IsTreeReading command tree d
    → IsPassed (needed_refusal command (game_tree tree) tree)
tests_passed command tree d m = (passed_tests command tree m.passed).needed

no_shares : (d : Document) → d.shares ≡ None → HasShareEach d
no_shares d e = subst (λ o. IfSome o (λ x. length x.shares ≡ (game_of (description_in d.game)).players)) (sym e) tt

some_shares : (tree : Data) (d : Document) → d.shares ≡ Some (shares_of (game_tree tree) tree)
    → description_in d.game ≡ description_of (game_tree tree)
    → has_shares_for (players (game_tree tree)) tree ≡ true → HasShareEach d
some_shares tree d e same enough =
    subst (λ o. IfSome o (λ x. length x.shares ≡ (game_of (description_in d.game)).players)) (sym e)
    (shares_each (game_tree tree) tree enough ∙ ap (λ k. (game_of k).players) (sym same))

has_share_each : (command : Command) (tree : Data) (d : Document) → IsTreeReading command tree d → HasShareEach d
has_share_each Nucleolus tree d m = no_shares d (ap (λ c. c.shares) m.says)
has_share_each Prenucleolus tree d m = no_shares d (ap (λ c. c.shares) m.says)
has_share_each Propose tree d m =
    some_shares tree d (ap (λ c. c.shares) m.says) (described Propose tree d m)
    (enough_shares (game_tree tree) tree None (tests_passed Propose tree d m))
has_share_each Core tree d m = no_shares d (ap (λ c. c.shares) m.says)
has_share_each Check tree d m =
    some_shares tree d (ap (λ c. c.shares) m.says) (described Check tree d m)
    (enough_shares (game_tree tree) tree (certificate_refusal Check (game_tree tree) tree)
    (tests_passed Check tree d m))
has_share_each Shapley tree d m = no_shares d (ap (λ c. c.shares) m.says)
has_share_each Bird tree d m = no_shares d (ap (λ c. c.shares) m.says)
has_share_each Convex tree d m = no_shares d (ap (λ c. c.shares) m.says)
has_share_each Kernel tree d m =
    some_shares tree d (ap (λ c. c.shares) m.says) (described Kernel tree d m)
    (enough_shares (game_tree tree) tree None (tests_passed Kernel tree d m))
has_share_each Matching tree d m = no_shares d (ap (λ c. c.shares) m.says)

pub share_each : (command : Command) (tree : Data) (r : Result Document TextFault)
    → MatchResult r (IsTreeReading command tree) (IsTreeFault command tree) → IfOk r HasShareEach
share_each command tree (Ok d) m = has_share_each command tree d m
share_each command tree (Err e) m = tt

-- ---- the players of the certificate

abbrev HasItsPlayers : Document → Type 0
HasItsPlayers d = IfSome d.certificate (λ c. c.players ≡ (game_of (description_in d.game)).players)

no_certificate : (d : Document) → d.certificate ≡ None → HasItsPlayers d
no_certificate d e = subst (λ o. IfSome o (λ c. c.players ≡ (game_of (description_in d.game)).players)) (sym e) tt

has_its_players : (command : Command) (tree : Data) (d : Document) → IsTreeReading command tree d → HasItsPlayers d
has_its_players Nucleolus tree d m = no_certificate d (ap (λ c. c.certificate) m.says)
has_its_players Prenucleolus tree d m = no_certificate d (ap (λ c. c.certificate) m.says)
has_its_players Propose tree d m = no_certificate d (ap (λ c. c.certificate) m.says)
has_its_players Core tree d m = no_certificate d (ap (λ c. c.certificate) m.says)
has_its_players Check tree d m =
    let certificate : d.certificate ≡ certificate_for Check (game_tree tree) tree =
    ap (λ c. c.certificate) m.says in
    subst (λ o. IfSome o (λ c. c.players ≡ (game_of (description_in d.game)).players)) (sym certificate)
    (sym (players_described (game_tree tree)) ∙ ap (λ k. (game_of k).players) (sym (described Check tree d m)))
has_its_players Shapley tree d m = no_certificate d (ap (λ c. c.certificate) m.says)
has_its_players Bird tree d m = no_certificate d (ap (λ c. c.certificate) m.says)
has_its_players Convex tree d m = no_certificate d (ap (λ c. c.certificate) m.says)
has_its_players Kernel tree d m = no_certificate d (ap (λ c. c.certificate) m.says)
has_its_players Matching tree d m = no_certificate d (ap (λ c. c.certificate) m.says)

pub its_players : (command : Command) (tree : Data) (r : Result Document TextFault)
    → MatchResult r (IsTreeReading command tree) (IsTreeFault command tree) → IfOk r HasItsPlayers
its_players command tree (Ok d) m = has_its_players command tree d m
its_players command tree (Err e) m = tt
