-- How often a list stands among lists.
use Rattle.std.specs.Prelude.{ℕ, ◌+◌, Bool, true, false, ◌&&◌, nat_eq, List, [], ◌∷◌}
use Rattle.std.specs.Prelude.{if◌then◌else◌}

abbrev pub is_same : List ℕ → List ℕ → Bool
is_same [] [] = true
is_same [] (y ∷ ys) = false
is_same (x ∷ xs) [] = false
is_same (x ∷ xs) (y ∷ ys) = nat_eq x y && is_same xs ys

-- 1 for true
abbrev pub one_if : Bool → ℕ
one_if b = if b then 1 else 0

-- how often o stands in the list
abbrev pub times : List ℕ → List (List ℕ) → ℕ
times o [] = 0
times o (x ∷ xs) = one_if (is_same o x) + times o xs
