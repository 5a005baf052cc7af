-- The slots of a sparse table, one for each mask.
use Rattle.std.specs.Prelude.{◌≡◌, ◌-◌, ◌^◌, ℕ, ℤ, List, length, map, drop, true}
use Rattle.std.specs.Prelude.{Option, unwrap_or}
use Rattle.std.specs.List.{range_with_len}
use Rattle.document_parts.specs.Members.{are_coalitions}
use Rattle.document_parts.specs.Numbers.{number_of_mask}

-- the masks are those of coalitions of n players, and the slots from mask 1 on have the numbers that stand beside them
pub record HasNumbers (n : ℕ) (masks : List (Option ℕ)) (numbers : List ℤ) (slots : List (Option ℤ)) : Type 0 where
  pub good : are_coalitions masks ≡ true
  pub size : length slots ≡ 2 ^ n
  pub listed : (other : ℤ)
      → map (λ o. unwrap_or o other) (drop 1 slots)
      ≡ map (number_of_mask masks numbers other) (range_with_len 1 (2 ^ n - 1))
