-- The sum of a list of numbers is the sum of its players' numbers.
use Rattle.std.proofs.Common.{◌≡◌, ℕ, ◌+◌, List, [], ◌∷◌, length, get_or, sum, ℤ}
use Rattle.std.proofs.Common.{pos, ◌+ℤ◌, refl, arith}
use Rattle.std.proofs.lemmas.List.Sums.{sum_by-cons}
use Rattle.std.proofs.lemmas.Int.{ints}
use Rattle.definitions.proofs.Members.{sum_below-front}
use Rattle.definitions.specs.Sums.{sum_below}

-- the number of a player, as an integer
abbrev pub number_of : List ℕ → ℕ → ℤ
number_of numbers i = pos (get_or numbers i 0)

pub sum-sum_below : (numbers : List ℕ) → pos (sum numbers) ≡ sum_below (length numbers) (number_of numbers)
sum-sum_below [] = refl
sum-sum_below (c ∷ numbers) =
    let step : sum (c ∷ numbers) ≡ c + sum numbers = sum_by-cons (λ (x : ℕ). x) c numbers in
    rw step (
    let ih = sum-sum_below numbers in
    let front = sum_below-front (length numbers) (number_of (c ∷ numbers)) in
    joined c (sum numbers) _ _ ih front)
  where
    joined : (c s : ℕ) (y z : ℤ) → pos s ≡ y → z ≡ pos c +ℤ y → pos (c + s) ≡ z
    joined c s y z e f = omega (arith, ints)
