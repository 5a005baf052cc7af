-- The first refusal that applies, and the document that isn't refused.
--
--   unless               a refusal, unless its test passes
--   first_failed         the first of some tests that isn't passed
--   has_needed_numbers   each share that a command needs is an integer or a fraction text
--   has_needed_shares    there is a share for each player, if a command needs shares
--   has_needed_terms     over a denominator, the shares that a command needs keep within the limits of shares
--   has_needed_form      the certificate that a command needs has its form
--   tree_tests           the tests of a JSON tree, in their order
--   refusal_over         the first test that a JSON tree doesn't pass, in their order
--   IsTreeRefused        bytes within the limit are the text of a tree that is refused so
--   IsRefused            the first refusal that applies to the bytes
--   IsDocument           no refusal applies to the bytes, and this is what they say
use Rattle.std.specs.Prelude.{◌≡◌, ◌<◌, ◌≤◌, ◌&&◌, ℕ, codes, List, [], ◌∷◌, length}
use Rattle.std.specs.Prelude.{Bool, true, false, Option, Some, None}
use Rattle.serde_json.specs.Data.{Data}
use Rattle.serde_json.specs.Find.{get}
use Rattle.json_trees.specs.Trees.{passes}
use Rattle.game_text.specs.Text.{document_limit, IsTextOf, IsNotJson}
use Rattle.game_text.specs.Shape.{is_shaped}
use Rattle.game_text.specs.Classes.{players, has_players, has_numbers, own_test}
use Rattle.game_text.specs.Names.{has_names}
use Rattle.document_parts.specs.Scales.{scale_of}
use Rattle.document_parts.specs.Shares.{has_share_numbers, has_shares_for, scaled_shares}
use Rattle.document_parts.specs.Shares.{has_small_terms, IsDenominatorOf}
use Rattle.certificate_texts.specs.Certificates.{has_form}
use Rattle.game_text.specs.Documents.{Contents, game_tree, contents_over}
use Rattle.game_text.specs.declared.command.Command.{Command}
use Rattle.game_text.specs.Needs.{needs, if_needed}
use Rattle.kinds.specs.declared.refusal.Refusal.{Refusal}
use Rattle.kinds.specs.declared.refusal.Refusal.TheVariants.{TooLong, NotJson, Shape, Players, Number}
use Rattle.kinds.specs.declared.refusal.Refusal.TheVariants.{Names, Proposal, TooFine, Certificate}

-- this refusal, unless the test passes; then the rest decides
abbrev pub unless : Bool → Refusal → Option Refusal → Option Refusal
unless true r rest = rest
unless false r rest = Some r

abbrev pub first_failed : List (Refusal × Bool) → Option Refusal
first_failed [] = None
first_failed (t ∷ tests) = unless t.1 t.0 (first_failed tests)

abbrev pub has_needed_numbers : Command → Data → Bool
has_needed_numbers command tree = if_needed (needs command).shares (has_share_numbers tree)

abbrev pub has_needed_shares : Command → Data → Data → Bool
has_needed_shares command game tree = if_needed (needs command).shares (has_shares_for (players game) tree)

-- over the denominator d, the shares that a command needs, times the scale of the game, keep within the limits of
-- shares
abbrev pub has_needed_terms : ℕ → Command → Data → Data → Bool
has_needed_terms d command game tree =
    if_needed (needs command).shares (has_small_terms d (scaled_shares (scale_of game) tree))

-- Shares are tested before it: a document to check whose shares don't fit the number of players is a Proposal, whatever
-- its certificate.
abbrev pub has_needed_form : Command → Data → Data → Bool
has_needed_form command game tree =
    if_needed (needs command).certificate
    (passes (has_form (scale_of game) (players game)) (get (codes "certificate") tree))

-- the tests of a tree, in the order of the numbers of their refusals, except Quota; d is the denominator of the shares.
-- A class makes at most one test of its own, and those of Coalition, Estate, Quota and Matrix are of different classes
abbrev pub tree_tests : ℕ → Command → Data → Data → List (Refusal × Bool)
tree_tests d command game tree =
    (Shape, is_shaped command tree)
    ∷ (Players, has_players game)
    ∷ (Number, has_numbers game && has_needed_numbers command tree)
    ∷ (Names, has_names game)
    ∷ own_test game
    ∷ (Proposal, has_needed_shares command game tree)
    ∷ (TooFine, has_needed_terms d command game tree)
    ∷ (Certificate, has_needed_form command game tree)
    ∷ []

-- the first test that a tree doesn't pass, where d is the denominator of the shares
abbrev pub refusal_over : ℕ → Command → Data → Option Refusal
refusal_over d command tree = first_failed (tree_tests d command (game_tree tree) tree)

abbrev pub IsTreeRefused : Command → List ℕ → Refusal → Type 0
IsTreeRefused command bytes r =
    (length bytes ≤ document_limit command)
    × ((tree : Data) × IsTextOf bytes tree
    × ((d : ℕ) × IsDenominatorOf (scale_of (game_tree tree)) tree d × (refusal_over d command tree ≡ Some r)))

abbrev pub IsRefused : Command → List ℕ → Refusal → Type 0
IsRefused command bytes TooLong = document_limit command < length bytes
IsRefused command bytes NotJson = (length bytes ≤ document_limit command) × IsNotJson bytes
IsRefused command bytes r = IsTreeRefused command bytes r

abbrev pub IsDocument : Command → List ℕ → Contents → Type 0
IsDocument command bytes p =
    (length bytes ≤ document_limit command)
    × ((tree : Data) × IsTextOf bytes tree
    × ((d : ℕ) × IsDenominatorOf (scale_of (game_tree tree)) tree d × (refusal_over d command tree ≡ None)
    × (p ≡ contents_over d command tree)))
