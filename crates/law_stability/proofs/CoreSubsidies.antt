-- What a coalition gets and what the others get add to the worth of all: so one gets at least its worth exactly when
-- the other gets at most what it adds.
use Rattle.std.proofs.Common.{◌≡◌, ℕ, ◌-◌, ◌+◌, ◌-ℤ◌, ◌*ℤ◌, ◌≤ℤ◌, ap, arith}
use Rattle.std.proofs.lemmas.Int.{by_lt_z}
use Rattle.definitions.proofs.Masks.{singleton-within}
use Rattle.definitions.proofs.Members.{sum_over-singleton}
use Rattle.definitions.proofs.Parts.{others_lacks}
use Rattle.definitions.proofs.Ring.{linear}
use Rattle.definitions.proofs.SumsOver.{amount-at}
use Rattle.definitions.specs.Coalitions.{singleton, grand_coalition}
use Rattle.definitions.specs.Games.{Game, Allocation, share, amount, InCore}
use Rattle.definitions.specs.declared.Family.TheVariants.{Imputations}
use Rattle.law_answers.proofs.Complements.{complement-within, both_get}
use Rattle.law_answers.proofs.NucleolusIsInCore.{core_family}
use Rattle.law_stability.proofs.Unions.{opposite-twice}
use Rattle.law_stability.specs.Subsidies.{IsSubsidyFree, CoreIsSubsidyFree, DummiesInTheCore}
use Rattle.theorems.proofs.Products.{products}

to_free : (g : Game) (x : Allocation) → InCore g x → IsSubsidyFree g x
to_free g x h = (
  h.0,
  h.1,
  λ s lt.
      let all = grand_coalition g.players in
      let reach : (x.den *ℤ g.worth (all - s)) ≤ℤ amount x (all - s) =
      by_lt_z (amount x (all - s)) (x.den *ℤ g.worth (all - s))
      (λ blocks. absurd (h.2 (all - s) (complement-within g.players s) blocks))
      (λ le. le) in
      omega (products, reach, both_get g x s h.0 h.1 lt),
)

to_core : (g : Game) (x : Allocation) → IsSubsidyFree g x → InCore g x
to_core g x h = (
  h.0,
  h.1,
  λ s lt blocks.
      let all = grand_coalition g.players in
      let at_most = h.2 (all - s) (complement-within g.players s) in
      let same = ap (λ (t : ℕ). x.den *ℤ g.worth t) (opposite-twice g.players s lt) in
      omega (products, blocks, at_most, same, both_get g x s h.0 h.1 lt),
)

pub core_is_subsidy_free : CoreIsSubsidyFree
core_is_subsidy_free g x = (to_free g x, to_core g x)

-- a dummy adds its worth alone to the others
pub dummies_in_the_core : DummiesInTheCore
dummies_in_the_core g x i h lt dummy =
    let n = g.players in
    let all = grand_coalition n in
    let one = singleton-within n i lt in
    let whole : (all - singleton i) + singleton i ≡ all = omega (arith, one) in
    let adds = dummy (all - singleton i) (complement-within n (singleton i)) (others_lacks n i one lt) in
    let high = (to_free g x h).2 (singleton i) one in
    let low = (core_family Imputations g x h).2 i lt in
    let worth : g.worth all -ℤ g.worth (all - singleton i) ≡ g.worth (singleton i) =
    omega (arith, linear, adds, ap g.worth whole) in
    omega
    (products, high, low, ap (◌*ℤ◌ x.den) worth, amount-at g x (singleton i) h.0, sum_over-singleton n i (share x) lt)
