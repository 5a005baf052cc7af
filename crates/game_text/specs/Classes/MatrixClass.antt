-- Games by a matrix in a document: rows of numbers.
--
--   matrix_keys          the keys
--   is_matrix_shaped     the keys and kinds
--   has_matrix_numbers   each number is within its limits
--   rows_of              the numbers of the rows, times the scale k
--   have_length          each row has so many numbers
use Rattle.std.specs.Prelude.{◌==◌, ℕ, ℤ, List, [], ◌∷◌, length, codes, Bool, ◌&&◌}
use Rattle.std.specs.List.{list_all}
use Rattle.serde_json.specs.Data.{Data}
use Rattle.serde_json.specs.Find.{get}
use Rattle.json_trees.specs.Keys.{has_only_keys}
use Rattle.json_trees.specs.Trees.{passes, is_numeric, is_array_of, parts_at}
use Rattle.document_parts.specs.ScaledNumbers.{rows_at}
use Rattle.document_parts.specs.Version.{has_texts}
use Rattle.document_parts.specs.Sizes.{is_cost}

-- the keys of a game by its matrix
abbrev pub matrix_keys : List (List ℕ)
matrix_keys = codes "class" ∷ codes "excess" ∷ codes "matrix" ∷ codes "names" ∷ codes "version" ∷ []

-- a list of rows of numbers
abbrev pub is_matrix_shaped : Data → Bool
is_matrix_shaped game =
    has_only_keys matrix_keys game
    && passes (is_array_of (is_array_of (is_numeric (has_texts game)))) (get (codes "matrix") game)

-- each entry is from 0, and below 2^40 times the scale k
abbrev pub has_matrix_numbers : ℕ → Data → Bool
has_matrix_numbers k game = list_all (is_array_of (is_cost k)) (parts_at (codes "matrix") game)

abbrev pub rows_of : ℕ → Data → List (List ℤ)
rows_of k game = rows_at k (codes "matrix") game

-- each row has n numbers
abbrev pub have_length : ℕ → List (List ℤ) → Bool
have_length n rows = list_all (λ row. length row == n) rows
