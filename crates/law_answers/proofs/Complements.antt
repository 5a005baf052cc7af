-- The players outside a coalition are one too, and what the two get adds to the worth of all.
use Rattle.std.proofs.Common.{◌≡◌, ℕ, ◌-◌, ◌^◌, ◌<◌, ◌+ℤ◌, ◌*ℤ◌, arith}
use Rattle.definitions.proofs.Masks.{grand_coalition-within}
use Rattle.definitions.proofs.Members.{sum_over-complement, sum_over-grand_coalition}
use Rattle.definitions.proofs.SumsOver.{amount-at}
use Rattle.definitions.specs.Coalitions.{grand_coalition}
use Rattle.definitions.specs.Games.{Game, Allocation, share, amount, IsAllocation, IsEfficient}
use Rattle.theorems.proofs.Products.{products}

pub complement-within : (n s : ℕ) → grand_coalition n - s < 2 ^ n
complement-within n s = let within = grand_coalition-within n in omega (arith, within)

pub both_get : (g : Game) (x : Allocation) (s : ℕ) → IsAllocation g x → IsEfficient g x → s < 2 ^ g.players
    → amount x (grand_coalition g.players - s) +ℤ amount x s ≡ x.den *ℤ g.worth (grand_coalition g.players)
both_get g x s hx e lt =
    let n = g.players in
    omega (
      products,
      sum_over-complement n s (share x) lt,
      sum_over-grand_coalition n (share x),
      amount-at g x s hx,
      amount-at g x (grand_coalition n - s) hx,
      amount-at g x (grand_coalition n) hx,
      e,
    )
