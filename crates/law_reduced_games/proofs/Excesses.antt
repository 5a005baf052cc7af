-- In the reduced game a coalition has the greatest excess of those whose staying part it is.
use Rattle.std.proofs.Common.{◌≡◌, ◌⊎◌, ℕ, ◌^◌, ◌<◌, pos, ◌+ℤ◌, ◌-ℤ◌, ap, inl, inr, arith}
use Rattle.definitions.proofs.Ring.{linear}
use Rattle.definitions.proofs.Masks.{proper_or_all}
use Rattle.definitions.proofs.Cases.{same_or_other}
use Rattle.definitions.proofs.SumsOver.{amount-empty}
use Rattle.definitions.specs.Sums.{IsGreatest}
use Rattle.definitions.specs.Coalitions.{grand_coalition}
use Rattle.definitions.specs.Games.{Game, Allocation, amount, excess, IsAllocation, IsEfficient}
use Rattle.law_reduced_games.specs.ReducedGames.{AreSome, staying, staying_shares, worth_left, IsReducedGame}
use Rattle.law_reduced_games.proofs.Staying.{staying_all, staying_length}
use Rattle.theorems.proofs.Products.{products}

-- the game on m players
abbrev pub on : ℕ → Game → Game
on m h = record { players = m; worth = h.worth }

module _ (m : ℕ) (who : ℕ → ℕ) (g h : Game) (x : Allocation) (a : AreSome g.players m who)
    (r : IsReducedGame m who g x h) where
  abbrev y : Allocation
  y = staying_shares m who x

  -- what s keeps is its excess, and what its members get who stay
  left_is : (s t : ℕ) → staying m who s ≡ t → worth_left m who g x s ≡ excess g x s +ℤ amount y t
  left_is s t e = omega (arith, linear, ap (amount y) e)

  excess_is : (t : ℕ) → excess h y t ≡ h.worth t -ℤ amount y t
  excess_is t = omega products

  pub greatest_excess : (t : ℕ) → 0 < t → t < grand_coalition m
      → IsGreatest (λ s. (s < 2 ^ g.players) × (staying m who s ≡ t)) (excess g x) (excess h y t)
  greatest_excess t some less =
      let top = r.some t some less in (
        (
          top.0.0,
          top.0.1,
          omega (arith, linear, excess_is t, left_is top.0.0 t top.0.1.1, top.0.2),
        ),
        λ s p. omega (arith, linear, excess_is t, left_is s t p.1, top.1 s p),
      )

  pub allocation_staying : IsAllocation (on m h) y
  allocation_staying = (staying_length m who x, omega (arith, linear))

  pub efficient_staying : IsEfficient g x → IsEfficient (on m h) y
  efficient_staying e =
      let all = left_is (grand_coalition g.players) (grand_coalition m) (staying_all g.players m who a) in
      omega (products, all, r.all, e)

  -- nobody and all have no excess, and each other coalition that of a coalition of the game
  pub some_excess : IsEfficient g x → (t : ℕ) → t < 2 ^ m
      → (excess h y t ≡ pos 0) ⊎ ((s : ℕ) × (s < 2 ^ g.players) × (staying m who s ≡ t) × (excess h y t ≡ excess g x s))
  some_excess e t within = elim (same_or_other t 0) [
    | inl none ↦ inl
        (omega (arith, linear, excess_is t, ap h.worth none, ap (amount y) none, r.nobody, amount-empty y))
    | inr other ↦ elim (proper_or_all m t within) [
      | inl less ↦
          (let top = (greatest_excess t (omega (arith, other)) less).0 in inr (top.0, top.1.0, top.1.1, top.2))
      | inr all ↦ inl
          (omega (products, excess_is t, ap h.worth all, ap (amount y) all, efficient_staying e))
    ]
  ]
