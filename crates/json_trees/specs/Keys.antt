-- The keys of an object, and words.
use Rattle.std.specs.Prelude.{ℕ, List, map, Bool}
use Rattle.std.specs.Borrow.{Bor}
use Rattle.std.specs.List.{list_all, list_any}
use Rattle.std.specs.Str.{bytes_eq}
use Rattle.serde_json.specs.Data.{Data}
use Rattle.json_trees.specs.Trees.{keys}

-- the text is one of the words, byte by byte
abbrev pub is_among : List (List ℕ) → List ℕ → Bool
is_among words s = list_any (bytes_eq s) words

-- each key of an object is one of the words; what is no object has no keys
abbrev pub has_only_keys : List (List ℕ) → Data → Bool
has_only_keys words d = list_all (is_among words) (keys d)

-- words given by reference
abbrev pub nows : List (Bor (List ℕ)) → List (List ℕ)
nows words = map (λ w. w.now) words
