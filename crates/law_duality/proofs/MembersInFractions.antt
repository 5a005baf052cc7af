-- If a family has a member over a linearly ordered abelian group with a unit above zero, it has one in fractions:
-- the worths are integers.
use Rattle.std.proofs.Common.{◌≡◌, ℕ, zero, suc, ◌<◌, Bool, cond, List, [], ℤ, pos, ◌+ℤ◌, ◌≤ℤ◌, refl, sym, ap, arith}
use Rattle.std.proofs.Common.{if◌then◌else◌}
use Rattle.std.proofs.lemmas.Int.{by_lt_z}
use Rattle.definitions.proofs.Ring.{linear}
use Rattle.definitions.proofs.Members.{has_player-grand_coalition}
use Rattle.definitions.specs.Sums.{sum_below}
use Rattle.definitions.specs.Coalitions.{has_player, singleton, grand_coalition}
use Rattle.definitions.specs.Games.{Game, Allocation, InFamily}
use Rattle.definitions.specs.declared.Family.{Family}
use Rattle.definitions.specs.declared.Family.TheVariants.{Imputations, Preimputations}
use Rattle.real_shares.specs.Numbers.{Numbers, IsOrderedGroup, AtMost, Equal, times, total_below, total_over}
use Rattle.real_shares.specs.Shares.{number_of, amount_of, InFamilyOver}
use Rattle.real_shares.proofs.Orders.{at_most-same, equal-same}
use Rattle.real_shares.proofs.Multiples.{chain, back, equal_path, plus-at_most, plus-equal, times-add, times-one}
use Rattle.real_shares.proofs.Multiples.{times-at_most, added-low, total_below-equal}
use Rattle.real_shares.proofs.Soundness.{length_over, efficient_over}
use Rattle.law_duality.proofs.Nucleoli.{some_preimputation, imputations_exist}
use Rattle.theorems.proofs.Products.{products}

module _ {C : Type 0} (N : Numbers C) (L : IsOrderedGroup N) where
  -- multiples of the unit are in the order of their factors
  pub unit_order : (a b : ℤ) → AtMost N (times N a N.unit) (times N b N.unit) → a ≤ℤ b
  unit_order a b h =
      by_lt_z b a
      (λ lt.
      let u = times N b N.unit in
      let one = times N (pos 1) N.unit in
      let more = times-at_most N L (b +ℤ pos 1) a (omega (arith, linear, lt)) in
      let high = L.transitive (N.plus u one) (times N (b +ℤ pos 1) N.unit) u (times-add N L b (pos 1) N.unit).1
      (L.transitive (times N (b +ℤ pos 1) N.unit) (times N a N.unit) u more h) in
      absurd
      (L.positive (L.transitive N.unit one N.zero (times-one N L N.unit).1 (added-low N L u one high))))
      (λ le. le)

  pub total_below-at_most : (n : ℕ) (f h : ℕ → C) → ((i : ℕ) → i < n → AtMost N (f i) (h i))
      → AtMost N (total_below N n f) (total_below N n h)
  total_below-at_most zero f h each = at_most-same N L N.zero
  total_below-at_most (suc n) f h each =
      plus-at_most N L (total_below N n f) (total_below N n h) (f n) (h n)
      (total_below-at_most n f h (λ i lt. each i (omega arith))) (each n (omega arith))

  total_units : (n : ℕ) (f : ℕ → ℤ)
      → Equal N (total_below N n (λ i. times N (f i) N.unit)) (times N (sum_below n f) N.unit)
  total_units zero f = equal-same N L N.zero
  total_units (suc n) f =
      chain N L (plus-equal N L (total_units n f) (equal-same N L (times N (f n) N.unit)))
      (back N L (times-add N L (sum_below n f) (f n) N.unit))

  total_over-grand : (n : ℕ) (a : ℕ → C) → Equal N (total_over N n a (grand_coalition n)) (total_below N n a)
  total_over-grand n a =
      total_below-equal N L n (λ i. if has_player (grand_coalition n) i then a i else N.zero) a
      (λ i lt. equal_path N L (if has_player (grand_coalition n) i then a i else N.zero) (a i)
      (ap (λ (b : Bool). cond b (a i) N.zero) (has_player-grand_coalition n i lt)))

  -- what all get is the worth of all
  total_is : (family : Family) (g : Game) (y : List C) → InFamilyOver N family g y
      → Equal N (total_below N g.players (number_of N y)) (times N (g.worth (grand_coalition g.players)) N.unit)
  total_is family g y h =
      let n = g.players in
      chain N L (back N L (total_over-grand n (number_of N y)))
      (chain N L
      (equal_path N L (total_over N n (number_of N y) (grand_coalition n)) (amount_of N y (grand_coalition n))
      (ap (λ k. total_over N k (number_of N y) (grand_coalition n)) (sym (length_over N family g y h))))
      (efficient_over N family g y h))

  -- without players nothing is shared
  nothing : (family : Family) (g : Game) (y : List C) → InFamilyOver N family g y → g.players ≡ 0
      → g.worth (grand_coalition g.players) ≡ pos 0
  nothing family g y h e =
      let w = g.worth (grand_coalition g.players) in
      let is : Equal N (times N (pos 0) N.unit) (times N w N.unit) = chain N L
      (equal_path N L (times N (pos 0) N.unit) (total_below N g.players (number_of N y))
      (ap (λ k. total_below N k (number_of N y)) (sym e))) (total_is family g y h) in
      omega (arith, linear, unit_order (pos 0) w is.0, unit_order w (pos 0) is.1)

  covers : (g : Game) (y : List C) → InFamilyOver N Imputations g y
      → sum_below g.players (λ i. g.worth (singleton i)) ≤ℤ g.worth (grand_coalition g.players)
  covers g y h =
      let n = g.players in
      let alone : ℕ → ℤ = λ i. g.worth (singleton i) in
      let all = g.worth (grand_coalition n) in
      unit_order (sum_below n alone) all
      (L.transitive (times N (sum_below n alone) N.unit) (total_below N n (λ i. times N (alone i) N.unit))
      (times N all N.unit) (total_units n alone).1
      (L.transitive (total_below N n (λ i. times N (alone i) N.unit)) (total_below N n (number_of N y))
      (times N all N.unit)
      (total_below-at_most n (λ i. times N (alone i) N.unit) (number_of N y) h.2)
      (total_is Imputations g y h).0))

  pub member_in_fractions : (family : Family) (g : Game) (y : List C) → InFamilyOver N family g y
      → (x : Allocation) × InFamily family g x
  member_in_fractions family g y h = by_count g.players refl family h
    where
      no_shares : Allocation
      no_shares = record { shares = []; den = pos 1 }

      by_count : (c : ℕ) → g.players ≡ c → (family : Family) → InFamilyOver N family g y
          → (x : Allocation) × InFamily family g x
      by_count zero e Imputations h =
          let w = nothing Imputations g y h e in (
            no_shares,
            (
              (sym e, omega (arith, linear)),
              omega (products, w),
              λ i lt. absurd (omega (arith, e)),
            ),
          )
      by_count zero e Preimputations h =
          let w = nothing Preimputations g y h e in (
            no_shares,
            (
              (sym e, omega (arith, linear)),
              omega (products, w),
            ),
          )
      by_count (suc k) e Imputations h = (imputations_exist g (omega (arith, e))).1 (covers g y h)
      by_count (suc k) e Preimputations h = some_preimputation g (omega (arith, e))
