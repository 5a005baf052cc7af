-- The kinds, keys and words of a document.
--
--   document_keys    the keys of a document
--   is_game_shaped   a game has the keys and kinds of its class
--   has_shares       shares are numbers and texts
--   has_needed       there is what a command needs beside the game
--   is_shaped        a document has the keys and kinds that a command needs
use Rattle.std.specs.Prelude.{ℕ, List, [], ◌∷◌, codes, Bool, ◌&&◌}
use Rattle.std.specs.Prelude.{is_some}
use Rattle.serde_json.specs.Data.{Data}
use Rattle.serde_json.specs.Find.{get}
use Rattle.json_trees.specs.Trees.{passes, passes_if_there, is_member, is_text, is_array_of}
use Rattle.json_trees.specs.Keys.{has_only_keys}
use Rattle.certificate_texts.specs.Shape.{family_of, is_certificate}
use Rattle.document_parts.specs.Excess.{is_measure}
use Rattle.document_parts.specs.Version.{is_version}
use Rattle.game_text.specs.declared.command.Command.{Command}
use Rattle.game_text.specs.Needs.{needs, if_needed}
use Rattle.game_text.specs.Classes.{class_of, is_shaped_as}

abbrev pub document_keys : List (List ℕ)
document_keys = codes "answer" ∷ codes "certificate" ∷ codes "game" ∷ codes "shares" ∷ []

-- if they are given, names are texts, the excess is a measure and the version is 1 or 2; and the rest is as the class
-- asks
abbrev pub is_game_shaped : Data → Bool
is_game_shaped game =
    passes_if_there (is_array_of is_text) (get (codes "names") game)
    && passes_if_there is_measure (get (codes "excess") game)
    && passes_if_there is_version (get (codes "version") game) && is_shaped_as (class_of game) game

abbrev pub has_shares : Data → Bool
has_shares tree = passes (is_array_of is_member) (get (codes "shares") tree)

-- the values that the command needs beside the game
abbrev pub has_needed : Command → Data → Bool
has_needed command tree =
    if_needed (needs command).shares (has_shares tree)
    && if_needed (needs command).answer (is_some (family_of tree))
    && if_needed (needs command).certificate (passes is_certificate (get (codes "certificate") tree))

-- an object with keys of a document, a game, and what the command needs; what is no object has no game
abbrev pub is_shaped : Command → Data → Bool
is_shaped command tree =
    has_only_keys document_keys tree && passes is_game_shaped (get (codes "game") tree) && has_needed command tree
