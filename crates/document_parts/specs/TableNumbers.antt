-- The number of each coalition in a table: all listed, or some in pairs.
--
--   masks_by         the coalitions of the pairs
--   sparse_number    the number of a coalition, by the pairs
--   sparse_numbers   the number of each coalition, by the pairs
--   numbers_by       the number of each coalition
use Rattle.std.specs.Prelude.{◌-◌, ◌^◌, ℕ, ℤ, List, [], ◌∷◌, map, codes, Option}
use Rattle.std.specs.Prelude.{Some, None, if◌then◌else◌}
use Rattle.std.specs.List.{range_with_len}
use Rattle.serde_json.specs.Data.{Data}
use Rattle.json_trees.specs.Trees.{parts, parts_at, pair_members}
use Rattle.document_parts.specs.ScaledNumbers.{number_at, numbers_at, second_number}
use Rattle.document_parts.specs.Members.{mask_of, is_mask}

-- the coalition of each pair of a sparse table of n players
abbrev pub masks_by : ℕ → List (List ℕ) → Data → List (Option ℕ)
masks_by n names game = map (λ pair. mask_of n names (pair_members pair)) (parts_at (codes "sparse") game)

-- the number, times the scale k, of the first pair with the mask s, and another number if no pair has it
abbrev pub sparse_number : ℕ → ℕ → List (List ℕ) → ℤ → ℕ → List Data → ℤ
sparse_number k n names other s [] = other
sparse_number k n names other s (pair ∷ pairs) =
    if is_mask s (mask_of n names (pair_members pair)) then second_number k (parts pair)
    else sparse_number k n names other s pairs

-- the number of each mask from 1, by the pairs and the number of all others
abbrev pub sparse_numbers : ℕ → ℕ → List (List ℕ) → Data → List ℤ
sparse_numbers k n names game =
    map (λ s. sparse_number k n names (number_at k (codes "default") game) s (parts_at (codes "sparse") game))
    (range_with_len 1 (2 ^ n - 1))

-- the number of each mask from 1: by pairs, if there are any, or all listed
abbrev pub numbers_by : ℕ → Option Data → ℕ → List (List ℕ) → Data → List ℤ
numbers_by k None n names game = numbers_at k (codes "worths") game
numbers_by k (Some pairs) n names game = sparse_numbers k n names game
