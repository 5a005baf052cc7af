-- Two nucleoli of one game have the same shares: otherwise each would come before the other.
use Rattle.std.proofs.Common.{◌*ℤ◌, sym, arith}
use Rattle.std.proofs.lemmas.Int.{by_lt_z}
use Rattle.definitions.proofs.Ring.{linear}
use Rattle.definitions.specs.Games.{Game, Allocation, share, IsSame, IsNucleolus}
use Rattle.theorems.proofs.OneWay.{beats_one_way}
use Rattle.definitions.specs.declared.Family.{Family}
use Rattle.definitions.specs.declared.Measure.{Measure}

-- shares that can't differ are the same
same_from_no_other : (g : Game) (x y : Allocation) → ¬ (¬ IsSame g x y) → IsSame g x y
same_from_no_other g x y h i lt =
    let a = share x i *ℤ y.den in
    let b = share y i *ℤ x.den in
    by_lt_z a b (λ less. absurd (h (λ same. omega (arith, linear, less, same i lt))))
    (λ le. by_lt_z b a (λ less. absurd (h (λ same. omega (arith, linear, less, same i lt))))
    (λ ge. omega (arith, linear, le, ge)))

pub nucleolus_unique : (family : Family) (measure : Measure) (g : Game) (x y : Allocation)
    → IsNucleolus family measure g x → IsNucleolus family measure g y → IsSame g x y
nucleolus_unique family measure g x y hx hy =
    same_from_no_other g x y
    (λ differs. beats_one_way measure g x y (hx.1 y hy.0 differs)
    (hy.1 x hx.0 (λ same. differs (λ i lt. sym (same i lt)))))
