-- By how much two allocations differ, over the product of their denominators.
use Rattle.std.proofs.Common.{◌≡◌, ℕ, ℤ, ◌+ℤ◌, ◌-ℤ◌, ◌*ℤ◌, ◌∙◌}
use Rattle.definitions.proofs.Members.{sum_over-combined}
use Rattle.definitions.proofs.SumsOver.{amount-at}
use Rattle.definitions.specs.Coalitions.{sum_over}
use Rattle.definitions.specs.Games.{Game, Allocation, share, amount, excess, IsAllocation}
use Rattle.theorems.proofs.Products.{sorted_products}

-- what player i gets more in x than in y
abbrev pub gap : Allocation → Allocation → ℕ → ℤ
gap x y i = y.den *ℤ share x i -ℤ x.den *ℤ share y i

gap-amount : (g : Game) (x y : Allocation) (s : ℕ) → IsAllocation g x → IsAllocation g y
    → sum_over g.players (gap x y) s ≡ y.den *ℤ amount x s -ℤ x.den *ℤ amount y s
gap-amount g x y s hx hy =
    sum_over-combined g.players (share x) (share y) y.den x.den s
    ∙ (let a = amount-at g x s hx in let b = amount-at g y s hy in cc)

-- the scaled excesses differ by the gap
pub excess-gap : (g : Game) (x y : Allocation) (s : ℕ) → IsAllocation g x → IsAllocation g y
    → x.den *ℤ excess g y s ≡ y.den *ℤ excess g x s +ℤ sum_over g.players (gap x y) s
excess-gap g x y s hx hy = omega (sorted_products, gap-amount g x y s hx hy)
