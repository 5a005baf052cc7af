-- The Shapley value (Shapley 1953).
--
--   AllDiffer           no number stands twice
--   IsOrder n order     the list holds each player below n once
--   insertions          each way to put a number into a list
--   orders n            the lists that hold each player below n once
--   marginal_worth      what a player adds to the worth of those in front of it in an order
--   total_over          the sum of what player i adds, over the orders in a list
--   shapley_total g i   the sum of what player i adds, over all orders
--   factorial n         1 * 2 * .. * n
--   IsShapley g x       each share is the player's total over n!
use Rattle.std.specs.Prelude.{ℕ, zero, suc, ◌≡◌, ◌+◌, ◌*◌, ◌^◌, ◌<◌, List, []}
use Rattle.std.specs.Prelude.{◌∷◌, map, nat_eq, ℤ}
use Rattle.std.specs.Prelude.{pos, ◌+ℤ◌, ◌-ℤ◌, ◌*ℤ◌, if◌then◌else◌, length, false}
use Rattle.std.specs.List.{flat_map, AllByRecursion}
use Rattle.definitions.specs.Games.{Game, Allocation, share, IsAllocation}

abbrev pub AllDiffer : List ℕ → Type 0
AllDiffer [] = Unit {0}
AllDiffer (x ∷ xs) = AllByRecursion (λ y. nat_eq x y ≡ false) xs × AllDiffer xs

-- n players below n, and no player twice
pub record IsOrder (n : ℕ) (order : List ℕ) : Type 0 where
  pub all : length order ≡ n
  pub below : AllByRecursion (λ p. p < n) order
  pub once : AllDiffer order

-- each way to put x into the list
abbrev pub insertions : ℕ → List ℕ → List (List ℕ)
insertions x [] = (x ∷ []) ∷ []
insertions x (y ∷ ys) = (x ∷ (y ∷ ys)) ∷ map (λ zs. y ∷ zs) (insertions x ys)

-- the lists that hold each player below n once: those of one player less, with the last player put in at each place
-- (that each such list is there exactly once is proved beside the Shapley value: `orders_are_all` of `shapley`)
abbrev pub orders : ℕ → List (List ℕ)
orders zero = [] ∷ []
orders (suc n) = flat_map (insertions n) (orders n)

-- what player i adds to the worth of those in front of it, where front are those in front of the list
abbrev pub marginal_worth : (ℕ → ℤ) → ℕ → ℕ → List ℕ → ℤ
marginal_worth v i front [] = pos 0
marginal_worth v i front (p ∷ ps) =
    if nat_eq p i then v (front + 2 ^ i) -ℤ v front else marginal_worth v i (front + 2 ^ p) ps

abbrev pub total_over : (ℕ → ℤ) → ℕ → List (List ℕ) → ℤ
total_over v i [] = pos 0
total_over v i (order ∷ orders) = marginal_worth v i 0 order +ℤ total_over v i orders

-- the sum of what player i adds, over all orders: its Shapley share times n!
abbrev pub shapley_total : Game → ℕ → ℤ
shapley_total g i = total_over g.worth i (orders g.players)

abbrev pub factorial : ℕ → ℕ
factorial zero = 1
factorial (suc n) = suc n * factorial n

abbrev pub IsShapley : Game → Allocation → Type 0
IsShapley g x =
    IsAllocation g x × ((i : ℕ) → i < g.players → share x i *ℤ pos (factorial g.players) ≡ x.den *ℤ shapley_total g i)
