-- The kinds, keys and words of a certificate, and the words of the families.
--
--   family_named            the family that a word names
--   family_of               the family that the answer of a document names
--   mode_named              the mode that a word names
--   mode_of                 the mode that a certificate names
--   certificate_keys        the keys of a certificate
--   level_keys              the keys of a level
--   is_weighted_coalition   the numbers of the players of a coalition, and a weight
--   is_weighted_player      the number of a player, and a weight
--   is_level                a level has its keys and kinds
--   is_certificate          a certificate has its keys, kinds and words
use Rattle.std.specs.Prelude.{ℕ, List, [], ◌∷◌, codes, Bool, ◌&&◌, Option, Some, None}
use Rattle.std.specs.Prelude.{is_some, option_and_then, if◌then◌else◌}
use Rattle.std.specs.Str.{bytes_eq}
use Rattle.serde_json.specs.Data.{Data}
use Rattle.serde_json.specs.Find.{get, as_str}
use Rattle.definitions.specs.declared.Family.{Family}
use Rattle.definitions.specs.declared.Family.TheVariants.{Imputations, Preimputations}
use Rattle.definitions.specs.declared.Mode.{Mode}
use Rattle.definitions.specs.declared.Mode.TheVariants.{Players, Span}
use Rattle.json_trees.specs.Keys.{has_only_keys}
use Rattle.json_trees.specs.Trees.{passes, is_number, is_text, is_array_of, is_pair_of}

abbrev pub family_named : List ℕ → Option Family
family_named s =
    if bytes_eq s (codes "nucleolus") then Some Imputations
    else (if bytes_eq s (codes "prenucleolus") then Some Preimputations else None)

abbrev pub family_of : Data → Option Family
family_of tree = option_and_then family_named (option_and_then as_str (get (codes "answer") tree))

abbrev pub mode_named : List ℕ → Option Mode
mode_named s =
    if bytes_eq s (codes "players") then Some Players else (if bytes_eq s (codes "span") then Some Span else None)

abbrev pub mode_of : Data → Option Mode
mode_of certificate = option_and_then mode_named (option_and_then as_str (get (codes "mode") certificate))

abbrev pub certificate_keys : List (List ℕ)
certificate_keys = codes "levels" ∷ codes "mode" ∷ []

abbrev pub level_keys : List (List ℕ)
level_keys = codes "bounds" ∷ codes "coalitions" ∷ codes "earlier" ∷ codes "excess" ∷ codes "total" ∷ []

-- A number is any JSON number here: one that isn't an integer, or is 2^63 or more in size, is a fault of the
-- certificate (`has_form`), and not of its shape or its numbers, since the refusal of numbers speaks of the game and
-- the shares.
abbrev pub is_weighted_coalition : Data → Bool
is_weighted_coalition d = is_pair_of (is_array_of is_number) is_number d

abbrev pub is_weighted_player : Data → Bool
is_weighted_player d = is_pair_of is_number is_number d

abbrev pub is_level : Data → Bool
is_level d =
    has_only_keys level_keys d && passes (is_array_of is_weighted_player) (get (codes "bounds") d)
    && passes (is_array_of is_weighted_coalition) (get (codes "coalitions") d)
    && passes (is_array_of is_weighted_coalition) (get (codes "earlier") d)
    && passes is_text (get (codes "excess") d) && passes is_number (get (codes "total") d)

abbrev pub is_certificate : Data → Bool
is_certificate d =
    has_only_keys certificate_keys d && passes (is_array_of is_level) (get (codes "levels") d) && is_some (mode_of d)
