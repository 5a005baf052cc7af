-- The text of a document: bytes, and the JSON tree that they are the text of.
--
--   document_limit   the most bytes that a document for a command may have
--   IsTextOf         the bytes are the text of a JSON tree
--   IsNotJson        the bytes are the text of none
use Rattle.std.specs.Prelude.{◌≡◌, ℕ, List, Some, None, IsUtf8}
use Rattle.serde_json.specs.Data.{Data}
use Rattle.serde_json.specs.Read.{read}
use Rattle.json_texts.specs.Newlines.{without_newline}
use Rattle.game_text.specs.declared.command.Command.{Command}
use Rattle.game_text.specs.Needs.{needs}

abbrev pub document_limit : Command → ℕ
document_limit command = (needs command).limit

abbrev pub IsTextOf : List ℕ → Data → Type 0
IsTextOf bytes tree = IsUtf8 (without_newline bytes) × (read (without_newline bytes) ≡ Some tree)

-- the bytes aren't UTF-8, or `serde_json` refuses them: they aren't one JSON text (a byte order mark is no part of
-- one), are nested deeper than 127, have a number too large for a float of 64 bits, or half of a surrogate pair
abbrev pub IsNotJson : List ℕ → Type 0
IsNotJson bytes = IsUtf8 (without_newline bytes) → read (without_newline bytes) ≡ None
