-- If the marginal shares of each order lie in the core, the game is convex: in the order of the members of a
-- coalition, i and j, the coalition with j gets at least its worth (Ichiishi 1981).
use Rattle.std.proofs.Common.{◌≡◌, ℕ, ◌+◌, ◌^◌, ◌<◌, List, map, pos, ◌≤ℤ◌, sym, ◌∙◌, arith}
use Rattle.std.specs.List.{range_with_len}
use Rattle.std.proofs.lemmas.List.FromFn.{get_or-map-range_with_len, length-map-range_with_len}
use Rattle.definitions.proofs.Parts.{more-lt}
use Rattle.definitions.proofs.Ring.{linear, one-mulℤ}
use Rattle.definitions.proofs.SumsOver.{amount-at, sum_over-same}
use Rattle.definitions.specs.Convexity.{IsMarginal, AreOutside, apart, together}
use Rattle.definitions.specs.Games.{Game, Allocation, share, amount, InCore}
use Rattle.definitions.specs.Shapley.{IsOrder, marginal_worth}
use Rattle.convexity.proofs.AlongOrders.{along, amount-along, rest_of_order}
use Rattle.convexity.proofs.MarginalCore.{marginal_in_core}
use Rattle.theorems.proofs.Products.{products}
use Rattle.law_answers.proofs.NucleolusIsInCore.{core_low}
use Rattle.law_classes.proofs.OrdersBegin.{begins, is_order, adds-begins}
use Rattle.law_classes.specs.ConvexGames.{OnlyConvexGamesDo}

-- the marginal shares of an order
abbrev marginal : Game → List ℕ → Allocation
marginal g order =
    record { shares = map (λ k. marginal_worth g.worth k 0 order) (range_with_len 0 g.players); den = pos 1 }

share-marginal : (g : Game) (order : List ℕ) (k : ℕ) → k < g.players
    → share (marginal g order) k ≡ marginal_worth g.worth k 0 order
share-marginal g order k lt =
    get_or-map-range_with_len (λ k. marginal_worth g.worth k 0 order) 0 g.players k k (pos 0) lt (omega arith)

is_marginal : (g : Game) (order : List ℕ) → IsMarginal g order (marginal g order)
is_marginal g order = (
  (length-map-range_with_len (λ k. marginal_worth g.worth k 0 order) 0 g.players, omega (arith, linear)),
  λ k lt. share-marginal g order k lt ∙ sym (one-mulℤ (marginal_worth g.worth k 0 order)),
)

amount-marginal : (g : Game) (order : List ℕ) (t : ℕ) → IsOrder g.players order
    → amount (marginal g order) t ≡ along g.worth t 0 order
amount-marginal g order t h =
    amount-at g (marginal g order) t (is_marginal g order).0
    ∙ sum_over-same g.players (share (marginal g order)) (λ k. marginal_worth g.worth k 0 order) t
    (share-marginal g order)
    ∙ amount-along g.players t g.worth 0 order (rest_of_order g.players order h)

convex : (g : Game) → g.worth 0 ≡ pos 0
    → ((order : List ℕ) (x : Allocation) → IsOrder g.players order → IsMarginal g order x → InCore g x)
    → (s i j : ℕ) → AreOutside g.players s i j → apart g s i j ≤ℤ together g s i j
convex g nobody core s i j h =
    let n = g.players in
    let order = begins n s i j h.0 h.1 h.2 h.3 h.4 h.5 in
    let is = is_order n s i j h.0 h.1 h.2 h.3 h.4 h.5 in
    let x = marginal g order in
    let low = core_low g x (core order x is (is_marginal g order)) (s + 2 ^ j) (more-lt n s j h.0 h.2 h.5) in
    let gets = amount-marginal g order (s + 2 ^ j) is ∙ adds-begins n s i j h.0 h.1 h.2 h.3 h.4 h.5 g.worth in
    omega (products, low, gets, nobody)

pub only_convex_games_do : OnlyConvexGamesDo
only_convex_games_do g nobody = (
  λ is order x h m. marginal_in_core g order x nobody h m is,
  λ core. convex g nobody core,
)
