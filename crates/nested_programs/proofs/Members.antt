-- The family of a game has a member: each player gets its worth alone, and the first player also what is left of
-- the worth of all.
--
-- So an imputation exists exactly when the worths of the players alone add to at most the worth of all.
-- `lacks_imputation` compares the two before any stage is asked, and the answer keeps both.
use Rattle.std.proofs.Common.{◌≡◌, ℕ, zero, suc, ◌+◌, ◌<◌, ◌≤◌, Bool, true, false}
use Rattle.std.proofs.Common.{cond, length, ℤ, pos}
use Rattle.std.proofs.Common.{◌+ℤ◌, ◌-ℤ◌, ◌*ℤ◌, ◌≤ℤ◌, refl, ap, ◌∙◌, arith, if◌then◌else◌}
use Rattle.definitions.proofs.Ring.{linear, one-mulℤ}
use Rattle.definitions.proofs.Members.{sum_below-same, sum_below-add, sum_over-singleton, sum_over-grand_coalition}
use Rattle.definitions.specs.Sums.{sum_below}
use Rattle.definitions.specs.Coalitions.{has_player, singleton, grand_coalition}
use Rattle.definitions.specs.Games.{Game, Allocation, share, IsAllocation, IsEfficient, IsIndividuallyRational}
use Rattle.definitions.specs.declared.Family.TheVariants.{Imputations, Preimputations}
use Rattle.nested_programs.specs.Answer.{singles, HasMember}
use Rattle.nested_programs.proofs.Chain.{tabulate, tabulate-at}

length-tabulate : (from n : ℕ) (f : ℕ → ℤ) → length (tabulate from n f) ≡ n
length-tabulate from zero f = refl
length-tabulate from (suc n) f = ap suc (length-tabulate (suc from) n f)

-- f at player 0 alone
abbrev first_gets : ℤ → ℕ → ℤ
first_gets rest i = if has_player (singleton 0) i then rest else pos 0

sum_below-first : (n : ℕ) (a : ℕ → ℤ) (rest : ℤ) → 0 < n
    → sum_below n (λ i. a i +ℤ first_gets rest i) ≡ sum_below n a +ℤ rest
sum_below-first n a rest some =
    cc (sum_below-add n a (first_gets rest), sum_over-singleton n 0 (λ i. rest) some)

module _ (g : Game) (some : 1 ≤ g.players) where
  abbrev rest : ℤ
  rest = g.worth (grand_coalition g.players) -ℤ singles g

  abbrev gets : ℕ → ℤ
  gets i = g.worth (singleton i) +ℤ first_gets rest i

  abbrev member : Allocation
  member = record { shares = tabulate 0 g.players gets; den = pos 1 }

  share_is : (i : ℕ) → i < g.players → share member i ≡ gets i
  share_is i lt = tabulate-at 0 g.players gets i lt ∙ let e : 0 + i ≡ i = omega arith in ap gets e

  allocates : IsAllocation g member
  allocates = (length-tabulate 0 g.players gets, omega (arith, linear))

  efficient : IsEfficient g member
  efficient =
      let two = sum_below-first g.players (λ i. g.worth (singleton i)) rest some in
      let three = rest_added (singles g) (g.worth (grand_coalition g.players)) in
      let four = sum_below-same g.players (share member) gets share_is in
      cc (length-tabulate 0 g.players gets, sum_over-grand_coalition g.players (share member))
    where
      rest_added : (a w : ℤ) → a +ℤ (w -ℤ a) ≡ pos 1 *ℤ w
      rest_added a w = omega (arith, linear, one-mulℤ w)

  rational : singles g ≤ℤ g.worth (grand_coalition g.players) → IsIndividuallyRational g member
  rational low i lt =
      rw (share_is i lt) (at_least_alone (has_player (singleton 0) i) (g.worth (singleton i)) (singles g)
      (g.worth (grand_coalition g.players)) low)
    where
      at_least_alone : (b : Bool) (a s w : ℤ) → s ≤ℤ w → (pos 1 *ℤ a) ≤ℤ (a +ℤ cond b (w -ℤ s) (pos 0))
      at_least_alone true a s w h = omega (arith, linear, h, one-mulℤ a)
      at_least_alone false a s w h = omega (arith, linear, one-mulℤ a)

  pub imputation : singles g ≤ℤ g.worth (grand_coalition g.players) → HasMember Imputations g
  imputation low = (member, (allocates, efficient, rational low))

  pub preimputation : HasMember Preimputations g
  preimputation = (member, (allocates, efficient))
