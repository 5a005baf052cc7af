-- The totals over n! are shares of the Shapley value.
use Rattle.std.proofs.Common.{◌≡◌, ℕ, ◌<◌, ◌≤ℤ◌, map, ℤ, pos, ◌*ℤ◌, ap, arith}
use Rattle.std.specs.List.{range_with_len}
use Rattle.std.proofs.lemmas.List.FromFn.{get_or-map-range_with_len, length-map-range_with_len}
use Rattle.definitions.proofs.Ring.{linear}
use Rattle.definitions.specs.Games.{Game, Allocation, share}
use Rattle.definitions.specs.Shapley.{shapley_total, factorial, IsShapley}
use Rattle.shapley.proofs.Sizes.{factorial-some}
use Rattle.theorems.proofs.Products.{sorted_products}

-- the totals, over n!
abbrev shapley_shares : Game → Allocation
shapley_shares g =
    record { shares = map (shapley_total g) (range_with_len 0 g.players); den = pos (factorial g.players) }

share-total : (g : Game) (i : ℕ) → i < g.players → share (shapley_shares g) i ≡ shapley_total g i
share-total g i lt = get_or-map-range_with_len (shapley_total g) 0 g.players i i (pos 0) lt (omega arith)

pub shapley_exists : (g : Game) → (x : Allocation) × IsShapley g x
shapley_exists g = (
  shapley_shares g,
  ((length-map-range_with_len (shapley_total g) 0 g.players, positive), each),
)
  where
    positive : pos 1 ≤ℤ pos (factorial g.players)
    positive = (let some = factorial-some g.players in omega (arith, linear, some))

    each : (i : ℕ) → i < g.players
        → share (shapley_shares g) i *ℤ pos (factorial g.players) ≡ pos (factorial g.players) *ℤ shapley_total g i
    each i lt = omega (sorted_products, ap (λ (z : ℤ). z *ℤ pos (factorial g.players)) (share-total g i lt))
